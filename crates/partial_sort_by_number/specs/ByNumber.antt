-- Partial sorting of a node by its number, in node order.
use Rattle.std.specs.Prelude.{◌≡◌, refl, Bool, false, List, [], ◌∷◌, ◌++◌, ℕ, zero, suc, ◌+◌, ◌*◌, ◌-◌, ◌%◌, ◌≤◌, ◌<◌, length, get_or, take, set, replicate, Option, Some, None}
use Rattle.std.proofs.Common.{sym, ap, ap₂, ◌∙◌, subst, arith, add-one, length-set, take-suc, take-suc-set, take_all}
use Rattle.plan.specs.Forest.{none, tree, size}
use Rattle.plan.specs.Op.{Op, sort_op, partial_sort, Plan}
use Rattle.plan.specs.Numbers.{code}
use Rattle.plan_format.specs.Record.{children}
use Rattle.plan_codec.specs.NodeRecord.{NodeRecord}
use Rattle.plan_codec.specs.Decode.{from_bytes, decode}
use Rattle.plan_codec.specs.Encode.{encode}
use Rattle.plan_codec.proofs.OneRecord.{decode-encode}
use Rattle.semantics.specs.Facts.{facts}
use Rattle.key_lists.specs.Keys.{keys_of, Keyed}
use Rattle.key_lists.specs.declared.Keys.{Keys}
use Rattle.arena.specs.Arena.{slot_size, index, slot, Below}
use Rattle.arena.specs.declared.At.{At}
use Rattle.arena.specs.Laws.{below_at, below_more, below_set}
use Rattle.walks.specs.Marks.{Tree, strip, node, op_t, size_t}
use Rattle.walks.specs.Trees.{Ok, OkT}
use Rattle.walks.proofs.Theorems.Common.Trees.{strip-size}
use Rattle.walks.specs.PartialSort.{replace_with_partial_sort, from_node, set_node}
use Rattle.walks.proofs.Theorems.PartialSort.Kept.{SetKept, partial_kept}
use Rattle.plan_context.specs.View.{tree_of, forest, most_slots, Arena, Grown, Puts}
use Rattle.plan_context.specs.Laws.{slot_same, tree_same, forest_same, same_trans}
use Rattle.plan_context.specs.Nodes.{counts_of}
use Rattle.plan_context.specs.Records.{plan_t}
use Rattle.plan_updates.specs.Covering.{ok_of}
use Rattle.sort_connection.specs.Standing.{Standing, view, tree_is, own_over, own_proper, sort_op_lem, one_kid_lem}
use Rattle.replace_with_partial_sort.specs.Replacing.{partial, becoming, Fitting}
use Rattle.partial_sort_by_number.specs.declared.Place.{Place}
use Rattle.partial_sort_by_number.specs.AtNumber.{AnswersPartial, answered-is, answers_none, at_size, Became, found, Located, missing, out_at, out_past, out_root, outcome, set_at, set_root, take-size}

-- ---- the children's handles with another in one place

pub record Copying (ks : List ℕ) (j : ℕ) (out : List ℕ) : Type 0 where
  pub wide : length out ≡ 8
  pub low : j ≤ length ks
  pub is : take j out ≡ take j ks

pub copying_none : (ks : List ℕ) → Copying ks 0 (replicate 8 0)
copying_none ks = record { wide = refl; low = omega arith; is = refl }

pub copying_more : (ks : List ℕ) (j : ℕ) (out : List ℕ) → Copying ks j out → length ks ≤ 8 → j < length ks → (k : ℕ) → k ≡ get_or ks j 0
    → Copying ks (j + 1) (set out j k)
copying_more ks j out c h l k e =
    let w = c.wide in
    rw (add-one j) (record {
      wide = length-set out j k ∙ c.wide;
      low = omega arith;
      is = take-suc-set out j k (omega arith) ∙ ap₂ (λ x y. x ++ (y ∷ []))
          c.is e ∙ sym (take-suc ks j 0 l);
    })

take-set : (n : ℕ) (out : List ℕ) (j k : ℕ) → take n (set out j k) ≡ set (take n out) j k
take-set zero out j k = refl
take-set (suc n) [] j k = refl
take-set (suc n) (x ∷ out) zero k = refl
take-set (suc n) (x ∷ out) (suc j) k = ap (λ r. x ∷ r) (take-set n out j k)

pub copying_all : (ks : List ℕ) (i : ℕ) (out : List ℕ) → Copying ks i out → length ks ≤ i → (j k : ℕ) → (length (set out j k) ≡ 8)
    × (take (length ks) (set out j k) ≡ set ks j k)
copying_all ks i out c h j k =
    let l = c.low in
    let q : length ks ≡ i = omega arith in
    let e : take (length ks) out ≡ ks = ap (λ n. take n out) q ∙ c.is ∙ ap (λ n. take n ks) (sym q) ∙ take_all (length ks) ks (omega arith) in
    (length-set out j k ∙ c.wide, take-set (length ks) out j k ∙ ap (λ r. set r j k) e)

-- ---- the node itself

-- Room for one node at each level
pub record Sorting (m : List ℕ) (u h : ℕ) : Type 0 where
  pub arena : Arena m u
  pub here : h < 2 * u
  pub room : (u + size_t (tree_of m h)) * slot_size ≤ length m
  pub small : u + size_t (tree_of m h) ≤ most_slots

module _ (m : List ℕ) (u h : ℕ) (p : Sorting m u h) where
  abbrev t : Tree
  t = tree_of m h

  abbrev f : Plan
  f = plan_t t

  pub standing : Standing m u h
  standing = record { arena = p.arena; here = p.here }

  ok : OkT (tree_of m h)
  ok = ok_of m u h p.arena p.here

  -- the plan that comes in its place is one that the rules accept, and as large
  kept : (n : ℕ) (o : Op) → outcome (from_node n (plan_t (tree_of m h))) ≡ found o → SetKept (plan_t (tree_of m h)) (set_node n o (plan_t (tree_of m h)))
  kept n o e = partial_kept n f (set_node n o f) (answered-is n f (set_node n o f) o e refl)

  -- nothing changes
  pub same_became : replace_with_partial_sort (op_t (tree_of m h)) (strip (tree_of m h).kids) ≡ op_t (tree_of m h)
      → Became m u m h 0 (record { used = u; root = h })
  same_became e =
      record {
        op = op_t t;
        here = ap found e;
        plan = refl;
        is = answered-is 0 f f (op_t t) (ap found e) refl;
        arena = p.arena;
        old = refl;
        more = omega arith;
        low = p.here;
        room = omega arith;
      }

  -- as the code has it
  module _ (r : Option ℕ) (e : replace_with_partial_sort (op_t (tree_of m h)) (strip (tree_of m h).kids) ≡ becoming (op_t (tree_of m h)) r) where
    pub same_node : r ≡ None → Became m u m h 0 (record { used = u; root = h })
    same_node q = same_became (e ∙ ap (becoming (op_t t)) q)

    pub partial-node : Fitting (op_t (tree_of m h)) r → (n : ℕ) → r ≡ Some n
        → (replace_with_partial_sort (op_t (tree_of m h)) (strip (tree_of m h).kids) ≡ partial n (op_t (tree_of m h))) × (n ≤ 8)
        × (code (op_t (tree_of m h)) ≡ 7)
    partial-node f n q = let g = subst (Fitting (op_t t)) q f in (e ∙ ap (becoming (op_t t)) q, g.0, g.1)

  -- a partial sort of n keys met
  module _ (n : ℕ) (e : replace_with_partial_sort (op_t (tree_of m h)) (strip (tree_of m h).kids) ≡ partial n (op_t (tree_of m h))) (few : n ≤ 8)
      (c : code (op_t (tree_of m h)) ≡ 7) where
    abbrev y : NodeRecord
    y = from_bytes (slot m (index h)).rec

    sorts : decode (slot m (index h)).rec ≡ sort_op (from_bytes (slot m (index h)).rec).preserve (from_bytes (slot m (index h)).rec).keys
        (from_bytes (slot m (index h)).rec).fetch
    sorts = sort_op_lem (slot m (index h)).rec (own_proper m u h standing (slot m (index h)).rec refl) (ap code (sym (ap op_t (tree_is m u h standing))) ∙ c)

    only : length (slot m (index h)).kids ≡ 1
    only = one_kid_lem m (slot m (index h)).rec (slot m (index h)).kids (own_over m u h standing) (sort_op y.preserve y.keys y.fetch) sorts
        (λ n. refl)

    pub partial_some : 0 < length (slot m (index h)).kids
    partial_some = let l = only in omega arith

    op_is : partial n (op_t (tree_of m h)) ≡ partial_sort (from_bytes (slot m (index h)).rec).preserve (from_bytes (slot m (index h)).rec).keys n
        (from_bytes (slot m (index h)).rec).fetch
    op_is = ap (partial n) (ap op_t (tree_is m u h standing) ∙ sorts)

    ok_new : Ok (set_node 0 (partial n (op_t (tree_of m h))) (plan_t (tree_of m h)))
    ok_new = (kept 0 (partial n (op_t t)) (ap found e)).ok (ok.0, ok.1, tt)

    only-is : (ks : List ℕ) → length ks ≡ 1 → get_or ks 0 0 ∷ [] ≡ ks
    only-is [] z = absurd (omega arith)
    only-is (k ∷ []) z = refl
    only-is (k ∷ l ∷ ks) z = absurd (omega arith)

    module _ (r : List ℕ) (hr : r ≡ (slot m (index h)).rec) (k : ℕ) (hk : k ≡ get_or (slot m (index h)).kids 0 0) (pr : Bool)
        (hp : pr ≡ (from_bytes r).preserve) (ks : Keys) (hks : Keyed (from_bytes r).keys ks) (g : Option ℕ) (hg : g ≡ (from_bytes r).fetch)
        (x : List ℕ) (hy : x ≡ encode 1 (partial_sort pr (keys_of ks) (n % 256) g)) where
      hx : x ≡ encode 1 (partial_sort pr (keys_of ks) n g)
      hx = let q : n % 256 ≡ n = omega arith in hy ∙ ap (λ i. encode 1 (partial_sort pr (keys_of ks) i g)) q

      same_op : partial_sort pr (keys_of ks) n g ≡ partial n (op_t (tree_of m h))
      same_op =
          ap₂ (λ a b. partial_sort a b n g) (hp ∙ ap (λ z. (from_bytes z).preserve) hr) (hks.is ∙ ap (λ z. (from_bytes z).keys) hr)
          ∙ ap (λ b. partial_sort y.preserve y.keys n b) (hg ∙ ap (λ z. (from_bytes z).fetch) hr) ∙ sym op_is

      kids_are : forest m (k ∷ []) ≡ (tree_of m h).kids
      kids_are = ap (forest m) (ap (λ i. i ∷ []) hk ∙ only-is (slot m (index h)).kids only) ∙ ap (λ z. z.kids) (sym (tree_is m u h standing))

      decoded : decode x ≡ partial n (op_t (tree_of m h))
      decoded = ap decode (hx ∙ ap (encode 1) same_op) ∙ decode-encode 1 (partial n (op_t t))
          (counts_of (partial n (op_t t)) (facts (strip t.kids)) ok_new.0).fields

      pub partial_puts : Puts m u x (k ∷ [])
      partial_puts =
          let l = view m u h standing in let b = below_at (2 * index h) (slot m (index h)).kids 0 l.below partial_some in let q = p.here in
          let z = p.room in let v = p.small in
          let w = ap size kids_are in let i = ap (λ z. size z.kids) (tree_is m u h standing) in let s = l.small in
          record {
            arena = p.arena;
            room = omega arith;
            small = omega arith;
            below = (omega arith, tt);
            canon = hx ∙ ap (encode 1) (same_op ∙ sym decoded);
            ok = subst (λ o. OkT (node o false (forest m (k ∷ [])))) (sym decoded)
                (subst (λ d. OkT (node (partial n (op_t t)) false d)) (sym kids_are) (ok_new.0, ok_new.1));
            few = omega arith;
          }

      pub partial_became : (m' : List ℕ) (a : At) → Grown m u m' a (node (decode x) false (forest m (k ∷ []))) (u + 1) → Became m u m' h 0 a
      partial_became m' a d =
          let q : plan_t (tree_of m' a.root) ≡ set_node 0 (partial n (op_t (tree_of m h))) (plan_t (tree_of m h)) = ap plan_t d.tree
          ∙ ap₂ (λ o b. tree o (strip b) none) decoded kids_are in
          let w = d.room in
          record {
            op = partial n (op_t t);
            here = ap found e;
            plan = q;
            is = answered-is 0 f _ (partial n (op_t t)) (ap found e) q;
            arena = d.arena;
            old = d.old;
            more = d.more;
            low = d.here;
            room = omega arith;
          }

-- ---- below a node

below_take : (n j : ℕ) (ks : List ℕ) → Below n ks → Below n (take j ks)
below_take n zero ks b = tt
below_take n (suc j) [] b = tt
below_take n (suc j) (k ∷ ks) b = (b.0, below_take n j ks b.1)

module _ (m : List ℕ) (u h : ℕ) (p : Sorting m u h) (n : ℕ) (q : Place) (w : Located m h n q) where
  abbrev hs : List ℕ
  hs = (slot m (index h)).kids

  stripped : plan_t (tree_of m h) ≡ tree (decode (slot m (index h)).rec) (strip (forest m (slot m (index h)).kids)) none
  stripped = ap plan_t (tree_is m u h (standing m u h p))

  -- behind the last child
  pub past_none : q.child ≡ length (slot m (index h)).kids → outcome (from_node (suc n) (plan_t (tree_of m h))) ≡ missing
  past_none e =
      let i = w.is in let x = ap (λ j. size (forest m (take j hs))) e ∙ ap (λ l. size (forest m l)) (take_all (length hs) hs (omega arith)) in let z = strip-size (forest m hs) in
      ap (λ g. outcome (from_node (suc n) g)) stripped ∙ out_past n (decode (slot m (index h)).rec) (strip (forest m hs)) (omega arith)

  module _ (l : q.child < length (slot m (index h)).kids) (k : ℕ) (hk : k ≡ get_or (slot m (index h)).kids q.child 0) where
    whole : size_t (tree_of m h) ≡ suc (size (forest m (slot m (index h)).kids))
    whole = ap size_t (view m u h (standing m u h p)).tree

    in_child : q.left < size_t (tree_of m k)
    in_child = subst (λ i. q.left < size_t (tree_of m i)) (sym hk) (w.inside l)

    sizes : size (forest m (take q.child (slot m (index h)).kids)) + size_t (tree_of m k) ≤ size (forest m (slot m (index h)).kids)
    sizes = let x = at_size m hs q.child l in let y = take-size m hs (suc q.child) in let z = ap (λ i. size_t (tree_of m i)) hk in omega arith

    pub below_sorting : (size_t (tree_of m k) < size_t (tree_of m h)) × Sorting m u k
    below_sorting =
        let a = sizes in let b = whole in let r = p.room in let s = p.small in let v = (view m u h (standing m u h p)).below in
        let c = below_at (2 * index h) hs q.child v l in let d = p.here in
        (omega arith, record { arena = p.arena; here = omega arith; room = omega arith; small = omega arith })

    below_low : n < size (strip (forest m (slot m (index h)).kids))
    below_low = let a = sizes in let b = in_child in let c = w.is in let d = strip-size (forest m hs) in omega arith

    -- what is found there
    pub found_below : outcome (from_node (suc n) (plan_t (tree_of m h))) ≡ outcome (from_node q.left (plan_t (tree_of m k)))
    found_below =
        ap (λ g. outcome (from_node (suc n) g)) stripped ∙ out_root n (decode (slot m (index h)).rec) (strip (forest m hs)) below_low
        ∙ ap (λ i. outcome (from_node i (strip (forest m hs)))) w.is ∙ out_at m hs q.child q.left l (w.inside l)
        ∙ ap (λ i. outcome (from_node q.left (plan_t (tree_of m i)))) (sym hk)

    pub none_below : (m' : List ℕ) → AnswersPartial m u m' k q.left None → AnswersPartial m u m' h (suc n) None
    none_below m' a = answers_none m u m' h (suc n) (found_below ∙ a.1)

    module _ (m' : List ℕ) (lm : length m' ≡ length m) (a : At) (b : Became m u m' k q.left a) where
      abbrev ks : List ℕ
      ks = set hs q.child a.root

      old_forest : forest m' (slot m (index h)).kids ≡ forest m (slot m (index h)).kids
      old_forest = let d = p.here in forest_same u m m' b.old hs (below_more hs (omega arith) (view m u h (standing m u h p)).below)

      pub same_slot : slot m' (index h) ≡ slot m (index h)
      same_slot = let d = p.here in slot_same u m m' b.old (index h) (omega arith)

      below_kid : k < 2 * u
      below_kid = below_sorting.1.here

      child_plan : plan_t (tree_of m' a.root) ≡ set_node q.left b.op (plan_t (tree_of m' (get_or (slot m (index h)).kids q.child 0)))
      child_plan = b.plan ∙ ap (λ z. set_node q.left b.op (plan_t z)) (sym (tree_same u m m' b.old k below_kid) ∙ ap (tree_of m') hk)

      inside_new : q.left < size_t (tree_of m' (get_or (slot m (index h)).kids q.child 0))
      inside_new = subst (λ z. q.left < size_t z) (sym (tree_same u m m' b.old k below_kid) ∙ ap (tree_of m') hk) in_child

      kids_new : strip (forest m' (set (slot m (index h)).kids q.child a.root)) ≡ set_node n b.op (strip (forest m (slot m (index h)).kids))
      kids_new =
          set_at m' b.op hs q.child q.left a.root l inside_new child_plan
          ∙ ap₂ (λ i g. set_node (i + q.left) b.op (strip g)) (take_old q.child) old_forest ∙ ap (λ i. set_node i b.op (strip (forest m hs)))
          (sym w.is)
        where
          take_old : (j : ℕ) → size (forest m' (take j (slot m (index h)).kids)) ≡ size (forest m (take j (slot m (index h)).kids))
          take_old j = let d = p.here in
              ap size (forest_same u m m' b.old (take j hs)
              (below_take (2 * u) j hs (below_more hs (omega arith) (view m u h (standing m u h p)).below)))

      here-is : outcome (from_node (suc n) (plan_t (tree_of m h))) ≡ found b.op
      here-is = found_below ∙ b.here

      plan_is : tree (decode (slot m (index h)).rec) (strip (forest m' (set (slot m (index h)).kids q.child a.root))) none ≡ set_node (suc n) b.op
          (plan_t (tree_of m h))
      plan_is =
          ap (λ c. tree (decode (slot m (index h)).rec) c none) kids_new
          ∙ sym (ap (set_node (suc n) b.op) stripped ∙ set_root n b.op (decode (slot m (index h)).rec) (strip (forest m hs)) below_low)

      new_kept : SetKept (plan_t (tree_of m h)) (set_node (suc n) b.op (plan_t (tree_of m h)))
      new_kept = kept m u h p (suc n) b.op here-is

      new_ok : Ok (tree (decode (slot m (index h)).rec) (strip (forest m' (set (slot m (index h)).kids q.child a.root))) none)
      new_ok = let o = ok m u h p in subst Ok (sym plan_is) (new_kept.ok (o.0, o.1, tt))

      pub child_puts : (r : List ℕ) → r ≡ (slot m (index h)).rec → Puts m' a.used r (set (slot m (index h)).kids q.child a.root)
          × (index h < a.used)
      child_puts r hr =
          let v = view m u h (standing m u h p) in let d = p.here in let e = b.more in let f = b.room in let g = below_sorting.0 in let i = p.room in
          let j = p.small in
          let z = ap size plan_is ∙ new_kept.long in let y = strip-size (forest m' (set (slot m (index h)).kids q.child a.root)) in
          let x = strip-size (tree_of m h).kids in let s = v.small in let t = whole in (
            subst (λ c. Puts m' a.used c (set (slot m (index h)).kids q.child a.root)) (sym hr) (record {
              arena = b.arena;
              room = omega arith;
              small = omega arith;
              below = below_set (2 * a.used) hs q.child a.root (below_more hs (omega arith) v.below) b.low;
              canon = v.canon ∙ ap (λ c. encode c (decode (slot m (index h)).rec)) (sym (length-set hs q.child a.root));
              ok = (new_ok.0, new_ok.1);
              few = omega arith;
            }),
            omega arith,
          )

      pub child_became : (r : List ℕ) → r ≡ (slot m (index h)).rec → (m'' : List ℕ) (c : At)
          → Grown m' a.used m'' c (node (decode r) false (forest m' (set (slot m (index h)).kids q.child a.root))) (a.used + 1)
          → Became m u m'' h (suc n) c
      child_became r hr m'' c g =
          let e : plan_t (tree_of m'' c.root) ≡ set_node (suc n) b.op (plan_t (tree_of m h)) = ap plan_t g.tree
          ∙ ap (λ x. tree (decode x) (strip (forest m' (set (slot m (index h)).kids q.child a.root))) none) hr ∙ plan_is in
          let x = b.more in let y = g.more in let z = g.room in let v = b.room in let s = below_sorting.0 in
          record {
            op = b.op;
            here = here-is;
            plan = e;
            is = answered-is (suc n) (plan_t (tree_of m h)) (plan_t (tree_of m'' c.root)) b.op here-is e;
            arena = g.arena;
            old = same_trans u a.used m m' m'' x b.old g.old;
            more = omega arith;
            low = g.here;
            room = omega arith;
          }

-- ---- the handles as the code has them

module _ (m : List ℕ) (u h : ℕ) (a : Standing m u h) (j k : ℕ) (p : Puts m u (slot m (index h)).rec (set (slot m (index h)).kids j k)) (c : ℕ)
    (hc : c ≡ length (slot m (index h)).kids)
    (x : List ℕ) (w : length x ≡ 8) (e : take (length (slot m (index h)).kids) x ≡ set (slot m (index h)).kids j k) where
  pub taken : take c x ≡ set (slot m (index h)).kids j k
  taken = ap (λ n. take n x) hc ∙ e

  pub taken_long : c ≡ length (take c x)
  taken_long = hc ∙ sym (ap length taken ∙ length-set (slot m (index h)).kids j k)

  pub taken_puts : (r : List ℕ) → r ≡ (slot m (index h)).rec → Puts m u r (take c x) × (index h < u)
  taken_puts r hr = let l = a.here in (subst (λ z. Puts m u z (take c x)) (sym hr) (subst (Puts m u (slot m (index h)).rec) (sym taken) p), omega arith)

  pub taken_grown : (r : List ℕ) → r ≡ (slot m (index h)).rec → (m' : List ℕ) (b : At) → Grown m u m' b (node (decode r) false (forest m (take c x))) (u + 1)
      → Grown m u m' b (node (decode (slot m (index h)).rec) false (forest m (set (slot m (index h)).kids j k))) (u + 1)
  taken_grown r hr m' b g = subst (λ t. Grown m u m' b t (u + 1)) (ap₂ (λ z l. node (decode z) false (forest m l)) hr taken) g

-- ---- the recursion, as the code has it

module _ (m : List ℕ) (u h : ℕ) (p : Sorting m u h) (n : ℕ) (z : n ≡ 0 → ⊥) (q : Place) (w : Located m h (n - 1) q) (c : ℕ)
    (hc : c ≡ children (slot m (index h)).rec) where
  back : suc (n - 1) ≡ n
  back = omega arith

  count_is : c ≡ length (slot m (index h)).kids
  count_is = hc ∙ (view m u h (standing m u h p)).count

  pub step_past : q.child ≡ c → (m' : List ℕ) → AnswersPartial m u m' h n None
  step_past e m' = subst (λ i. AnswersPartial m u m' h i None) back (answers_none m u m' h (suc (n - 1)) (past_none m u h p (n - 1) q w (e ∙ count_is)))

  module _ (e : q.child ≡ c → ⊥) where
    pub step_low : q.child < length (slot m (index h)).kids
    step_low = let a = w.low in let b = count_is in omega arith

    module _ (k : ℕ) (hk : k ≡ get_or (slot m (index h)).kids q.child 0) where
      pub step_asks : (size_t (tree_of m k) < size_t (tree_of m h)) × Sorting m u k
      step_asks = below_sorting m u h p (n - 1) q w step_low k hk

      module _ (m' : List ℕ) (r : Option At) (g : AnswersPartial m u m' k q.left r) where
        pub step_missing : r ≡ None → AnswersPartial m u m' h n None
        step_missing x = subst (λ i. AnswersPartial m u m' h i None) back
            (none_below m u h p (n - 1) q w step_low k hk m' (subst (AnswersPartial m u m' k q.left) x g))

        module _ (lm : length m' ≡ length m) (a : At) (x : r ≡ Some a) where
          below_became : Became m u m' k q.left a
          below_became = subst (AnswersPartial m u m' k q.left) x g

          slots : slot m' (index h) ≡ slot m (index h)
          slots = same_slot m u h p (n - 1) q w step_low k hk m' lm a below_became

          pub step_puts : Standing m' a.used h × (q.child < length (slot m' (index h)).kids) × Puts m' a.used (slot m' (index h)).rec
              (set (slot m' (index h)).kids q.child a.root)
          step_puts =
              let d = p.here in let v = below_became.more in (
                record { arena = below_became.arena; here = omega arith },
                subst (λ y. q.child < length y.kids) (sym slots) step_low,
                subst (λ y. Puts m' a.used y.rec (set y.kids q.child a.root)) (sym slots)
                    (child_puts m u h p (n - 1) q w step_low k hk m' lm a below_became (slot m (index h)).rec refl).0,
              )

          pub step_became : (m'' : List ℕ) (b : At)
              → Grown m' a.used m'' b (node (decode (slot m' (index h)).rec) false (forest m' (set (slot m' (index h)).kids q.child a.root)))
              (a.used + 1) → AnswersPartial m u m'' h n (Some b)
          step_became m'' b t =
              subst (λ i. AnswersPartial m u m'' h i (Some b)) back
              (child_became m u h p (n - 1) q w step_low k hk m' lm a below_became (slot m (index h)).rec refl m'' b
              (subst (λ y. Grown m' a.used m'' b (node (decode y.rec) false (forest m' (set y.kids q.child a.root))) (a.used + 1)) slots t))
