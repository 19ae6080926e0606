-- A sort at h over a child that meets its order: a merge, a limit or nothing in its place.
use Rattle.std.specs.Prelude.{◌≡◌, refl, Bool, true, false, cond, not, ◌&&◌, List, [], ◌∷◌, ◌++◌, map, ℕ, ◌+◌, ◌*◌, ◌≤◌, ◌<◌, eqb, ltb, length, get_or, take, set, Option, Some, None, is_some}
use Rattle.std.proofs.Common.{sym, ap, ap₂, ◌∙◌, subst, arith, add-one, length-set, take-suc, take-suc-set, length-take-le}
use Rattle.row_order.proofs.Order.{no_bool}
use Rattle.plan.specs.Forest.{Forest, none, tree, size}
use Rattle.plan.specs.Op.{Op, sort_op, merge_op, global_limit, local_limit}
use Rattle.plan.specs.Numbers.{code}
use Rattle.plan.specs.WellFormed.{node_ok}
use Rattle.plan_codec.specs.NodeRecord.{NodeRecord}
use Rattle.plan_codec.specs.Decode.{from_bytes, decode}
use Rattle.plan_codec.specs.Encode.{encode}
use Rattle.semantics.specs.Facts.{facts, facts_op, nf, known_order}
use Rattle.key_lists.specs.Keys.{keys_of, Keyed}
use Rattle.key_lists.specs.declared.Keys.{Keys}
use Rattle.record_fields.specs.Proper.{Proper}
use Rattle.asked_facts.specs.Asked.{told}
use Rattle.arena.specs.Arena.{slot_size, index, slot, Below}
use Rattle.arena.specs.declared.At.{At}
use Rattle.walks.specs.Marks.{Marked, Tree, strip, known, node, plant, over, op_t, fact, size_t, set_mark, kid0, unmark}
use Rattle.walks.specs.Trees.{Ok, OkT}
use Rattle.walks.proofs.Theorems.Ensure.Kept.{strip-unmark}
use Rattle.walks.specs.EnsureSorting.{limit_note, limited, analyze_immediate_sort_removal}
use Rattle.plan_context.specs.View.{tree_of, forest, most_slots, Arena, Grown, Puts}
use Rattle.plan_context.specs.Laws.{facts_at}
use Rattle.plan_context.specs.Nodes.{Seen}
use Rattle.plan_context.specs.Facts.{Tells}
use Rattle.plan_context.specs.Handles.{Marks, first_kid}
use Rattle.plan_updates.specs.Kids.{below-snoc}
use Rattle.plan_updates.specs.Covering.{Under, cover_puts, cover_grown, ok_of}
use Rattle.sort_connection.specs.Standing.{Standing, view as shown, tree_is, is_here, own_over, own_proper, sort_op_lem, one_kid_lem, kid_standing}
use Rattle.sort_connection.specs.Connection.{take_all}

-- ---- a tree without its mark and its children's

pub record Unmarks (b : List ℕ) (w h : ℕ) : Type 0 where
  pub arena : Arena b w
  pub here : h < 2 * w
  pub room : (w + 1) * slot_size ≤ length b
  pub small : w < most_slots

-- The first j children are done
pub record Unmarking (b : List ℕ) (w : ℕ) (hs : List ℕ) (j : ℕ) (kids : List ℕ) : Type 0 where
  pub wide : length kids ≡ 8
  pub below : Below (2 * w) (take j kids)
  pub is : forest b (take j kids) ≡ unmark (forest b (take j hs))

pub unmarking_none : (b : List ℕ) (w : ℕ) (hs kids : List ℕ) → length kids ≡ 8 → Unmarking b w hs 0 kids
unfolding forest
unmarking_none b w hs kids l = record { wide = l; below = tt; is = refl }

unmark_snoc : (b ks hs : List ℕ) (y h : ℕ) → forest b ks ≡ unmark (forest b hs) → tree_of b y ≡ set_mark false (tree_of b h)
    → forest b (ks ++ (y ∷ [])) ≡ unmark (forest b (hs ++ (h ∷ [])))
unfolding forest
unmark_snoc b ks hs y h e t = both b ks y ∙ ap₂ (λ f g. glue f (plant g none)) e t ∙ sym (split hs)
  where
    glue : Forest Marked → Forest Marked → Forest Marked
    glue none s = s
    glue (tree m c r) s = tree m c (glue r s)

    both : (b ks : List ℕ) (y : ℕ) → forest b (ks ++ (y ∷ [])) ≡ glue (forest b ks) (plant (tree_of b y) none)
    both b [] y = refl
    both b (k ∷ ks) y = ap (plant (tree_of b k)) (both b ks y)

    split : (hs : List ℕ) → unmark (forest b (hs ++ (h ∷ []))) ≡ glue (unmark (forest b hs)) (plant (set_mark false (tree_of b h)) none)
    split [] = refl
    split (k ∷ hs) = ap (plant (set_mark false (tree_of b k))) (split hs)

unmark-size : (c : Forest Marked) → size (unmark c) ≡ size c
unmark-size none = refl
unmark-size (tree m c r) = let y = unmark-size r in omega arith

module _ (b : List ℕ) (w h : ℕ) (p : Unmarks b w h) where
  abbrev hs : List ℕ
  hs = (slot b (index h)).kids

  abbrev o : Op
  o = decode (slot b (index h)).rec

  pub unmark-standing : Standing b w h
  unmark-standing = record { arena = p.arena; here = p.here }

  pub view : Seen b (index h)
  view = shown b w h unmark-standing

  pub unmark_more : (j : ℕ) (kids : List ℕ) → Unmarking b w (slot b (index h)).kids j kids → j < length (slot b (index h)).kids → (k : ℕ)
      → k ≡ get_or (slot b (index h)).kids j 0 → (y : ℕ) → Marks k false y → Unmarking b w (slot b (index h)).kids (j + 1) (set kids j y)
  unmark_more j kids q l k e y m =
      let f = view.few in let wd = q.wide in let s = m.slot in let z = (kid_standing b w h unmark-standing j l k e).here in
      rw (add-one j) (record {
        wide = length-set kids j y ∙ q.wide;
        below = subst (Below (2 * w)) (sym (take-suc-set kids j y (omega arith))) (below-snoc (2 * w) (take j kids) y q.below (omega arith));
        is = ap (forest b) (take-suc-set kids j y (omega arith)) ∙ unmark_snoc b (take j kids) (take j hs) y (get_or hs j 0) q.is
            (m.tree b ∙ ap (λ i. set_mark false (tree_of b i)) e) ∙ ap (λ l. unmark (forest b l)) (sym (take-suc hs j 0 l));
      })

  module _ (j n : ℕ) (kids : List ℕ) (q : Unmarking b w (slot b (index h)).kids j kids) (e : n ≡ j) (c : n ≡ length (slot b (index h)).kids) (r : List ℕ)
      (hr : r ≡ (slot b (index h)).rec) where
    all_kids : forest b (take n kids) ≡ unmark (forest b (slot b (index h)).kids)
    all_kids = ap (λ i. forest b (take i kids)) e ∙ q.is ∙ ap (λ l. unmark (forest b l)) (take_all hs j (omega arith))

    counted : length (take n kids) ≡ length (slot b (index h)).kids
    counted = let y = view.few in let z = q.wide in length-take-le n kids (omega arith) ∙ c

    pub unmark_puts : Puts b w r (take n kids) × (index h < w)
    unmark_puts =
        let s = view.small in let y = ap size all_kids ∙ unmark-size (forest b hs) in let l = p.here in (
          record {
            arena = p.arena;
            room = p.room;
            small = p.small;
            below = subst (λ i. Below (2 * w) (take i kids)) (sym e) q.below;
            canon = hr ∙ view.canon ∙ ap₂ (λ n k. encode n (decode k)) (sym counted) (sym hr);
            ok = subst (λ k. OkT (node (decode k) false (forest b (take n kids)))) (sym hr)
                (subst (λ g. (node_ok o (map (λ F. F.width) (facts g)) ≡ true) × Ok g) (sym (ap strip all_kids ∙ strip-unmark (forest b hs))) view.ok);
            few = omega arith;
          },
          omega arith,
        )

    pub unmark_grown : (b' : List ℕ) (a : At) → Grown b w b' a (node (decode r) false (forest b (take n kids))) (w + 1)
        → Grown b w b' a (node (op_t (tree_of b h)) false (unmark (tree_of b h).kids)) (w + 1)
    unmark_grown b' a g =
        subst (λ t. Grown b w b' a t (w + 1)) (ap₂ (λ k f. node (decode k) false f) hr all_kids
        ∙ sym (ap (λ t. node (op_t t) false (unmark t.kids)) view.tree)) g

-- ---- the sort's place

abbrev pub immediate_at : List ℕ → ℕ → Tree
immediate_at b h = analyze_immediate_sort_removal (from_bytes (slot b (index h)).rec).preserve (from_bytes (slot b (index h)).rec).keys
    (from_bytes (slot b (index h)).rec).fetch (tree_of b h) (kid0 (tree_of b h) (tree_of b h).kids)

pub record Immediates (b : List ℕ) (w h : ℕ) : Type 0 where
  pub arena : Arena b w
  pub here : h < 2 * w
  pub room : (w + 1) * slot_size ≤ length b
  pub small : w < most_slots
  pub sort : code (decode (slot b (index h)).rec) ≡ 7
  pub ok : OkT (immediate_at b h)

limited_some : (f : Option ℕ) (t c : Tree) → is_some f ≡ true
    → limited f t c ≡ over (cond (eqb (fact t).streams 1) (global_limit 0 f (limit_note t)) (local_limit f (limit_note t))) false (set_mark false c)
limited_some None t c e = no_bool e
limited_some (Some n) t c e = refl

limited-none : (f : Option ℕ) (t c : Tree) → is_some f ≡ false → limited f t c ≡ node (op_t c) false (unmark c.kids)
limited-none None t c e = refl
limited-none (Some n) t c e = no_bool (sym e)

pub limit_global : (s : Bool) (f : Option ℕ) (note : Keys) (x : List ℕ) → s ≡ true → x ≡ encode 1 (global_limit 0 f (keys_of note))
    → x ≡ encode 1 (cond s (global_limit 0 f (keys_of note)) (local_limit f (keys_of note)))
limit_global s f note x e q = q ∙ ap (λ b. encode 1 (cond b (global_limit 0 f (keys_of note)) (local_limit f (keys_of note)))) (sym e)

pub limit_local : (s : Bool) (f : Option ℕ) (note : Keys) (x : List ℕ) → s ≡ false → x ≡ encode 1 (local_limit f (keys_of note))
    → x ≡ encode 1 (cond s (global_limit 0 f (keys_of note)) (local_limit f (keys_of note)))
limit_local s f note x e q = q ∙ ap (λ b. encode 1 (cond b (global_limit 0 f (keys_of note)) (local_limit f (keys_of note)))) (sym e)

only-size : (m ks : List ℕ) → length ks ≡ 1 → size (forest m ks) ≡ size_t (tree_of m (get_or ks 0 0))
unfolding forest
only-size m [] e = absurd (omega arith)
only-size m (k ∷ []) e = omega arith
only-size m (k ∷ l ∷ ks) e = absurd (omega arith)

module _ (b : List ℕ) (w h : ℕ) (p : Immediates b w h) where
  abbrev x : NodeRecord
  x = from_bytes (slot b (index h)).rec

  abbrev t : Tree
  t = tree_of b h

  pub standing : Standing b w h
  standing = record { arena = p.arena; here = p.here }

  own : Proper (slot b (index h)).rec
  own = own_proper b w h standing (slot b (index h)).rec refl

  sorts : decode (slot b (index h)).rec ≡ sort_op (from_bytes (slot b (index h)).rec).preserve (from_bytes (slot b (index h)).rec).keys
      (from_bytes (slot b (index h)).rec).fetch
  sorts = sort_op_lem (slot b (index h)).rec own p.sort

  only : length (slot b (index h)).kids ≡ 1
  only = one_kid_lem b (slot b (index h)).rec (slot b (index h)).kids (own_over b w h standing) (sort_op x.preserve x.keys x.fetch) sorts (λ n. refl)

  pub sort_some : 0 < length (slot b (index h)).kids
  sort_some = let l = only in omega arith

  module _ (k : ℕ) (hk : k ≡ get_or (slot b (index h)).kids 0 0) where
    at_kid : immediate_at b h ≡ analyze_immediate_sort_removal (from_bytes (slot b (index h)).rec).preserve (from_bytes (slot b (index h)).rec).keys
        (from_bytes (slot b (index h)).rec).fetch (tree_of b h) (tree_of b k)
    at_kid = ap (analyze_immediate_sort_removal x.preserve x.keys x.fetch t) (sym (first_kid b h (is_here b w h standing) sort_some k hk))

    pub sort_kid : Standing b w k
    sort_kid = kid_standing b w h standing 0 sort_some k hk

    pub sort-small : k < 65536
    sort-small = let l = sort_kid.here in let s = p.small in omega arith

    -- a new node in its place, over the child without its mark
    module _ (op : Op) (e : immediate_at b h ≡ over op false (set_mark false (tree_of b k))) (k' : ℕ) (m : Marks k false k') (y : List ℕ)
        (hy : y ≡ encode 1 op) where
      under : Under b w k' 1
      under =
          let l = sort_kid.here in let s = m.slot in let n = ap size_t (m.tree b) in let z = only-size b (slot b (index h)).kids only in
          let q = (shown b w h standing).small in let i = ap (λ j. size_t (tree_of b j)) hk in let r = p.small in
          record { arena = p.arena; here = omega arith; room = p.room; small = omega arith; few = omega arith }

      fits : node_ok op ((fact (tree_of b k')).width ∷ []) ≡ true
      fits = ap (λ v. node_ok op ((fact v).width ∷ [])) (m.tree b) ∙ (subst OkT e p.ok).0

      pub place_puts : Puts b w y (k' ∷ [])
      place_puts = cover_puts b w k' under op fits y hy (ok_of b w k' p.arena under.here)

      pub place_grown : (b' : List ℕ) (a : At) → Grown b w b' a (node (decode y) false (forest b (k' ∷ []))) (w + 1) → Grown b w b' a (immediate_at b h)
          (w + 1)
      place_grown b' a g = subst (λ z. Grown b w b' a z (w + 1)) (ap (over op false) (m.tree b) ∙ sym e)
          (cover_grown b w k' under op fits y hy b' a (w + 1) g)

    module _ (row : List ℕ) (sh : Tells (tree_of b k) row) (several : Bool) (hv : several ≡ ltb 1 (told row).streams) (r : List ℕ)
        (hr : r ≡ (slot b (index h)).rec) (pr : Bool) (hp : pr ≡ (from_bytes r).preserve) (f : Option ℕ) (hf : f ≡ (from_bytes r).fetch)
        (ks : Keys) (hks : Keyed (from_bytes r).keys ks) where
      preserve_is : pr ≡ (from_bytes (slot b (index h)).rec).preserve
      preserve_is = hp ∙ ap (λ z. (from_bytes z).preserve) hr

      fetch_is : f ≡ (from_bytes (slot b (index h)).rec).fetch
      fetch_is = hf ∙ ap (λ z. (from_bytes z).fetch) hr

      keys_are : keys_of ks ≡ (from_bytes (slot b (index h)).rec).keys
      keys_are = hks.is ∙ ap (λ z. (from_bytes z).keys) hr

      by_test : immediate_at b h ≡ cond (not pr && several) (over (merge_op (keys_of ks) f) false (set_mark false (tree_of b k)))
          (limited f (tree_of b h) (tree_of b k))
      by_test =
          at_kid
          ∙ ap₂ (λ q n. cond (not q && n) (over (merge_op x.keys x.fetch) false (set_mark false (tree_of b k))) (limited x.fetch t (tree_of b k)))
          (sym preserve_is) (sym (hv ∙ ap (λ G. ltb 1 G.streams) sh.is))
          ∙ ap₂ (λ l g. cond (not pr && several) (over (merge_op l g) false (set_mark false (tree_of b k))) (limited g t (tree_of b k))) (sym keys_are)
          (sym fetch_is)

      -- a merge
      pub merge_is : (not pr && several) ≡ true → immediate_at b h ≡ over (merge_op (keys_of ks) f) false (set_mark false (tree_of b k))
      merge_is q = by_test ∙ ap (λ z. cond z (over (merge_op (keys_of ks) f) false (set_mark false (tree_of b k))) (limited f t (tree_of b k))) q

      module _ (q : (not pr && several) ≡ false) where
        limited-is : immediate_at b h ≡ limited f (tree_of b h) (tree_of b k)
        limited-is = by_test ∙ ap (λ z. cond z (over (merge_op (keys_of ks) f) false (set_mark false (tree_of b k))) (limited f t (tree_of b k))) q

        -- it goes
        pub goes_asks : Unmarks b w k
        goes_asks = record { arena = p.arena; here = sort_kid.here; room = p.room; small = p.small }

        pub goes_grown : is_some f ≡ false → (b' : List ℕ) (a : At) → Grown b w b' a (node (op_t (tree_of b k)) false (unmark (tree_of b k).kids)) (w + 1)
            → Grown b w b' a (immediate_at b h) (w + 1)
        goes_grown z b' a g = subst (λ v. Grown b w b' a v (w + 1)) (sym (limited-is ∙ limited-none f t (tree_of b k) z)) g

        -- a limit
        module _ (z : is_some f ≡ true) (own_row : List ℕ) (so : Tells (tree_of b h) own_row) (single : Bool) (hs : single ≡ eqb (told own_row).streams 1)
            (note : Keys) (hn : Keyed (nf (told row) [] (keys_of ks)) note) where
          note_is : keys_of note ≡ limit_note (tree_of b h)
          note_is =
              hn.is ∙ ap₂ (λ G l. nf G [] l) (sh.is ∙ ap (λ i. fact (tree_of b i)) hk ∙ sym (facts_at b (slot b (index h)).kids 0 sort_some)) keys_are
              ∙ sym (ap (λ y. known_order (fact y)) (tree_is b w h standing) ∙ ap (λ op. known_order (facts_op op (known (forest b (slot b (index h)).kids))))
              sorts)

          pub limit_is : immediate_at b h ≡ over (cond single (global_limit 0 f (keys_of note)) (local_limit f (keys_of note))) false
              (set_mark false (tree_of b k))
          limit_is =
              limited-is ∙ limited_some f t (tree_of b k) z
              ∙ ap₂ (λ i l. over (cond i (global_limit 0 f l) (local_limit f l)) false (set_mark false (tree_of b k)))
              (sym (hs ∙ ap (λ G. eqb G.streams 1) so.is)) (sym note_is)
