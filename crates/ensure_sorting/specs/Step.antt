-- ensure_sorting at one node.
use Rattle.std.specs.Prelude.{◌≡◌, refl, Bool, true, false, cond, List, [], ◌∷◌, ◌++◌, map, ℕ, zero, suc, ◌+◌, ◌*◌, ◌≤◌, ◌<◌, eqb, length, get_or, take, set, replicate, Option}
use Rattle.std.proofs.Common.{sym, ap, ap₂, ◌∙◌, subst, arith, add-one, eq-eqb, ne_eqb, length-set, take-suc, take-suc-set, take_all}
use Rattle.plan.specs.Forest.{none, tree, roots, size}
use Rattle.plan.specs.Op.{Op, source, filter, projection, union, repartition, coalesce, sort_op, merge_op, global_limit, local_limit, sort_merge_join, hash_join, output_requirement, partial_sort, aggregate}
use Rattle.plan.specs.Numbers.{code}
use Rattle.plan.specs.WellFormed.{node_ok}
use Rattle.plan_format.specs.Record.{children}
use Rattle.plan_codec.specs.NodeRecord.{NodeRecord}
use Rattle.plan_codec.specs.Decode.{from_bytes, decode}
use Rattle.plan_codec.specs.Encode.{encode}
use Rattle.semantics.specs.Facts.{facts, is_nil, met, at0, known_order}
use Rattle.key_lists.specs.declared.Keys.{Keys}
use Rattle.key_lists.specs.Keys.{order_of, Ordered}
use Rattle.asked_facts.specs.Asked.{told}
use Rattle.arena.specs.Arena.{slot_size, index, slot}
use Rattle.arena.specs.declared.At.{At}
use Rattle.walks.specs.Marks.{Tree, strip, known, node, op_t, fact, shape}
use Rattle.walks.specs.Trees.{Ok, OkT}
use Rattle.walks.proofs.Theorems.Common.Trees.{ok_fit}
use Rattle.walks.proofs.Theorems.Ensure.Kept.{strip_connected, ensure_sorting_kept}
use Rattle.walks.specs.EnsureSorting.{after_loop, finish, ensure_by, ensure_marked, ensure_sorting}
use Rattle.plan_context.specs.View.{tree_of, forest, most_nodes, most_slots, Arena, Grown, Puts}
use Rattle.plan_context.specs.Laws.{facts_at}
use Rattle.plan_context.specs.Nodes.{few_over}
use Rattle.plan_context.specs.Facts.{Tells}
use Rattle.plan_updates.specs.Opened.{step_room, Opened}
use Rattle.plan_updates.specs.Opening.{opened_over, grown_none, grown_more, grown_then}
use Rattle.sort_connection.specs.Standing.{Standing, view, tree_is, op_is, own_proper, sort_op_lem, is_code, not_code}
use Rattle.sort_connection.specs.Connection.{Connected}
use Rattle.sort_removal.specs.Sizes.{connected_size}
use Rattle.sort_removal.specs.Removing.{roots-none}
use Rattle.ensure_sorting.specs.Loop.{Loops}
use Rattle.immediate_sort_removal.specs.Immediate.{Immediates, immediate_at}

-- ---- the node at h, whose children's marks are right

pub record EnsuresMarked (b : List ℕ) (u h : ℕ) : Type 0 where
  pub arena : Arena b u
  pub here : h < 2 * u
  pub room : (u + 2 * size (tree_of b h).kids + 9) * slot_size ≤ length b
  pub small : u + 2 * size (tree_of b h).kids + 9 ≤ most_slots
  pub few : 2 * size (tree_of b h).kids + 9 ≤ most_nodes
  pub ok : OkT (ensure_marked (tree_of b h))

by_other : (k : Op) (t : Tree) → (code k ≡ 7 → ⊥) → ensure_by (shape k) t ≡ finish (shape k) (after_loop t)
by_other (source s) t f = refl
by_other filter t f = refl
by_other (projection cols) t f = refl
by_other union t f = refl
by_other (repartition p n h ks) t f = refl
by_other (coalesce g) t f = refl
by_other (sort_op p ks g) t f = absurd (f refl)
by_other (merge_op ks g) t f = refl
by_other (global_limit s g note) t f = refl
by_other (local_limit g note) t f = refl
by_other (sort_merge_join y on) t f = refl
by_other (hash_join y on) t f = refl
by_other (output_requirement ks d g) t f = refl
by_other (partial_sort p ks n g) t f = refl
by_other (aggregate ks n) t f = refl

positive : (n : ℕ) → (n ≡ 0 → ⊥) → 0 < n
positive zero f = absurd (f refl)
positive (suc n) f = omega arith

module _ (b : List ℕ) (u h : ℕ) (p : EnsuresMarked b u h) where
  abbrev t : Tree
  t = tree_of b h

  abbrev top : ℕ
  top = u + 2 * size (tree_of b h).kids + 9

  pub marks_standing : Standing b u h
  marks_standing = record { arena = p.arena; here = p.here }

  -- whether it is a sort, as the code asks
  module _ (r : List ℕ) (hr : r ≡ (slot b (index h)).rec) (x : Bool) (hx : x ≡ eqb (code (decode r)) 7) where
    pub sort_code : x ≡ true → code (decode (slot b (index h)).rec) ≡ 7
    sort_code e = ap (λ y. code (decode y)) (sym hr) ∙ is_code (decode r) 7 x hx e

    pub other_code : x ≡ false → code (op_t (tree_of b h)) ≡ 7 → ⊥
    other_code e c = not_code (decode r) 7 x hx e (ap code (op_is b u h marks_standing r hr) ∙ c)

  module _ (n : ℕ) (hn : n ≡ children (slot b (index h)).rec) where
    count_is : n ≡ length (slot b (index h)).kids
    count_is = hn ∙ (view b u h marks_standing).count

    none_is : is_nil (roots (tree_of b h).kids) ≡ eqb n 0
    none_is = ap (λ y. is_nil (roots y.kids)) (tree_is b u h marks_standing) ∙ roots-none b (slot b (index h)).kids ∙ ap (λ k. eqb k 0) (sym count_is)

    pub leaf_grown : n ≡ 0 → Grown b u b (record { used = u; root = h }) (ensure_marked (tree_of b h)) (u + 2 * size (tree_of b h).kids + 9)
    leaf_grown e = subst (λ v. Grown b u b (record { used = u; root = h }) v top)
        (sym (ap (λ y. cond y t (ensure_by (shape (op_t t)) t)) (none_is ∙ eq-eqb n 0 e))) (grown_none b u h top p.arena p.here (omega arith))

    module _ (e : n ≡ 0 → ⊥) where
      some : ensure_marked (tree_of b h) ≡ ensure_by (shape (op_t (tree_of b h))) (tree_of b h)
      some = ap (λ y. cond y t (ensure_by (shape (op_t t)) t)) (none_is ∙ ne_eqb n 0 e)

      pub first_some : 0 < length (slot b (index h)).kids
      first_some = let c = count_is in let z = positive n e in omega arith

      -- the loop
      module _ (q : ensure_by (shape (op_t (tree_of b h))) (tree_of b h) ≡ finish (shape (op_t (tree_of b h))) (after_loop (tree_of b h))) where
        pub loop_asks : Loops b u h
        loop_asks = record { arena = p.arena; here = p.here; room = p.room; small = p.small; few = p.few; ok = subst OkT (some ∙ q) p.ok }

        pub loop_grown : (b' : List ℕ) (a : At) → Grown b u b' a (finish (shape (op_t (tree_of b h))) (after_loop (tree_of b h)))
            (u + 2 * size (tree_of b h).kids + 9) → Grown b u b' a (ensure_marked (tree_of b h)) (u + 2 * size (tree_of b h).kids + 9)
        loop_grown b' a g = subst (λ z. Grown b u b' a z top) (sym (some ∙ q)) g

      pub other_kind : (code (op_t (tree_of b h)) ≡ 7 → ⊥) → ensure_by (shape (op_t (tree_of b h))) (tree_of b h) ≡ finish (shape (op_t (tree_of b h)))
          (after_loop (tree_of b h))
      other_kind f = by_other (op_t t) t f

      -- a sort: x says whether its child meets its order
      module _ (z : code (decode (slot b (index h)).rec) ≡ 7) (k : ℕ) (hk : k ≡ get_or (slot b (index h)).kids 0 0) (row : List ℕ)
          (sh : Tells (tree_of b k) row) (own : List ℕ) (so : Tells (tree_of b h) own)
          (o : Option Keys) (ho : Ordered (known_order (told own)) o) (x : Bool) (hx : x ≡ met (told row) (order_of o)) where
        abbrev r : NodeRecord
        r = from_bytes (slot b (index h)).rec

        sorts : op_t (tree_of b h) ≡ sort_op (from_bytes (slot b (index h)).rec).preserve (from_bytes (slot b (index h)).rec).keys
            (from_bytes (slot b (index h)).rec).fetch
        sorts = ap op_t (tree_is b u h marks_standing) ∙ sort_op_lem (slot b (index h)).rec (own_proper b u h marks_standing (slot b (index h)).rec refl) z

        first : told row ≡ at0 (known (tree_of b h).kids)
        first = sh.is ∙ ap (λ i. fact (tree_of b i)) hk ∙ sym (facts_at b (slot b (index h)).kids 0 first_some) ∙ ap (λ y. at0 (known y.kids))
            (sym (tree_is b u h marks_standing))

        by_sort : ensure_by (shape (op_t (tree_of b h))) (tree_of b h) ≡ cond x (immediate_at b h) (finish (shape (op_t (tree_of b h))) (after_loop (tree_of b h)))
        by_sort =
            ap (λ k. ensure_by (shape k) t) sorts
            ∙ ap (λ y. cond y (immediate_at b h) (finish (shape (sort_op r.preserve r.keys r.fetch)) (after_loop t)))
            (sym (hx ∙ ap₂ met first (ho.is ∙ ap known_order so.is)))
            ∙ ap (λ k. cond x (immediate_at b h) (finish (shape k) (after_loop t))) (sym sorts)

        pub not-met : x ≡ false → ensure_by (shape (op_t (tree_of b h))) (tree_of b h) ≡ finish (shape (op_t (tree_of b h))) (after_loop (tree_of b h))
        not-met q = by_sort ∙ ap (λ y. cond y (immediate_at b h) (finish (shape (op_t t)) (after_loop t))) q

        is-met : x ≡ true → ensure_marked (tree_of b h) ≡ immediate_at b h
        is-met q = some ∙ by_sort ∙ ap (λ y. cond y (immediate_at b h) (finish (shape (op_t t)) (after_loop t))) q

        pub met_asks : x ≡ true → Immediates b u h
        met_asks q = let y = p.room in let s = p.small in
            record { arena = p.arena; here = p.here; room = omega arith; small = omega arith; sort = z; ok = subst OkT (is-met q) p.ok }

        pub met_grown : x ≡ true → (b' : List ℕ) (a : At) → Grown b u b' a (immediate_at b h) (u + 1) → Grown b u b' a (ensure_marked (tree_of b h))
            (u + 2 * size (tree_of b h).kids + 9)
        met_grown q b' a g = subst (λ v. Grown b u b' a v top) (sym (is-met q)) (grown_more b u b' a (immediate_at b h) (u + 1) top (omega arith) g)

-- ---- the open node

step_ok : (o : Op) (b ks : List ℕ) → OkT (node o false (forest b ks)) → OkT (ensure_sorting (node o false (forest b ks)))
step_ok o b ks h =
    let f = ok_fit (tree o (strip (forest b ks)) none) (h.0, h.1, tt) in
    (ensure_sorting_kept {b = true} {h = true} (node o false (forest b ks)) (f.0, f.1)).ok refl h

pub few_kids : (b : List ℕ) (u : ℕ) (r ks : List ℕ) (i : ℕ) → Opened b u r ks i → length ks ≤ 8
few_kids b u r ks i p = few_over b r ks (opened_over b u r ks i p)

module _ (b : List ℕ) (u : ℕ) (r ks : List ℕ) (i : ℕ) (p : Opened b u r ks i) (ks' : List ℕ) (q : Connected b u ks ks') where
  abbrev o : Op
  o = decode r

  abbrev whole : ℕ
  whole = u + step_room (suc (size (forest b ks)))

  same : ensure_marked (node (decode r) false (forest b ks')) ≡ ensure_sorting (node (decode r) false (forest b ks))
  same = ap (λ c. ensure_marked (node o false c)) q.is

  sizes : size (forest b ks') ≡ size (forest b ks)
  sizes = ap size q.is ∙ connected_size (forest b ks)

  pub open_puts : Puts b u r ks' × (i < u)
  open_puts =
      let f = p.few in let x = p.room in let s = p.small in let z = sizes in (
        record {
          arena = p.arena;
          room = omega arith;
          small = omega arith;
          below = q.below;
          canon = p.canon ∙ ap (λ n. encode n o) (sym q.count);
          ok = subst (λ g. (node_ok o (map (λ F. F.width) (facts g)) ≡ true) × Ok g) (sym (ap strip q.is ∙ strip_connected (forest b ks))) p.ok;
          few = omega arith;
        },
        p.hint,
      )

  module _ (b' : List ℕ) (l : length b' ≡ length b) (a : At) (g : Grown b u b' a (node (decode r) false (forest b ks')) (u + 1)) where
    pub open_marks : EnsuresMarked b' a.used a.root
    open_marks =
        let f = p.few in let x = p.room in let s = p.small in let z = sizes in let n = ap (λ t. size t.kids) g.tree in let y = g.room in
        record {
          arena = g.arena;
          here = g.here;
          room = omega arith;
          small = omega arith;
          few = omega arith;
          ok = subst OkT (sym (ap ensure_marked g.tree ∙ same)) (step_ok o b ks p.ok);
        }

    pub open_grown : (b'' : List ℕ) (c : At) → Grown b' a.used b'' c (ensure_marked (tree_of b' a.root))
        (a.used + 2 * size (tree_of b' a.root).kids + 9) → Grown b u b'' c (ensure_sorting (node (decode r) false (forest b ks)))
        (u + step_room (suc (size (forest b ks))))
    open_grown b'' c k =
        let z = sizes in let n = ap (λ t. size t.kids) g.tree in let y = g.room in
        subst (λ v. Grown b u b'' c v whole) (ap ensure_marked g.tree ∙ same)
        (grown_then b u b' a _ (u + 1) b'' c _ (a.used + 2 * size (tree_of b' a.root).kids + 9) whole g k (omega arith))

-- ---- handles copied

pub record KeysCopied (ks : List ℕ) (j : ℕ) (out : List ℕ) : Type 0 where
  pub wide : length out ≡ 8
  pub low : j ≤ length ks
  pub is : take j out ≡ take j ks

pub copied_none : (ks : List ℕ) → KeysCopied ks 0 (replicate 8 0)
copied_none ks = record { wide = refl; low = omega arith; is = refl }

pub copied_more : (ks : List ℕ) (j : ℕ) (out : List ℕ) → KeysCopied ks j out → length ks ≤ 8 → j < length ks
    → KeysCopied ks (j + 1) (set out j (get_or ks j 0))
copied_more ks j out c h l =
    let w = c.wide in
    rw (add-one j) (record {
      wide = length-set out j (get_or ks j 0) ∙ c.wide;
      low = omega arith;
      is = take-suc-set out j (get_or ks j 0) (omega arith)
          ∙ ap (λ x. x ++ (get_or ks j 0 ∷ [])) c.is ∙ sym (take-suc ks j 0 l);
    })

pub copied_all : (ks : List ℕ) (j : ℕ) (out : List ℕ) → KeysCopied ks j out → length ks ≤ j → KeysCopied ks (length ks) out
copied_all ks j out c h = let l = c.low in subst (λ i. KeysCopied ks i out) (omega arith) c

copied_is : (ks out : List ℕ) → KeysCopied ks (length ks) out → take (length ks) out ≡ ks
copied_is ks out c = c.is ∙ take_all (length ks) ks (omega arith)

module _ (b : List ℕ) (u : ℕ) (r ks : List ℕ) (i : ℕ) (out : List ℕ) (c : KeysCopied ks (length ks) out) where
  pub copied_opened : Opened b u r ks i → Opened b u r (take (length ks) out) i
  copied_opened p = subst (λ k. Opened b u r k i) (sym (copied_is ks out c)) p

  pub copied_grown : (b' : List ℕ) (a : At) → Grown b u b' a (ensure_sorting (node (decode r) false (forest b (take (length ks) out))))
      (u + step_room (suc (size (forest b (take (length ks) out))))) → Grown b u b' a (ensure_sorting (node (decode r) false (forest b ks)))
      (u + step_room (suc (size (forest b ks))))
  copied_grown b' a g = subst (λ k. Grown b u b' a (ensure_sorting (node (decode r) false (forest b k))) (u + step_room (suc (size (forest b k)))))
      (copied_is ks out c) g
