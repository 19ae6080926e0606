-- The loop of ensure_sorting over the children of the node at h.
use Rattle.std.specs.Prelude.{◌≡◌, refl, Bool, true, false, cond, not, ◌&&◌, ◌||◌, List, [], ◌∷◌, map, ℕ, zero, suc, ◌+◌, ◌*◌, ◌≤◌, ◌<◌, ltb, length, get_or, take, drop, set, Option}
use Rattle.std.proofs.Common.{sym, ap, ap₂, ◌∙◌, subst, add-one, drop-cons}
use native.Mathlib.Omega.{arith}
use Rattle.row_order.specs.Iso.{Key}
use Rattle.row_order.specs.Lists.{All}
use Rattle.scan.specs.Below.{and_left, and_right}
use Rattle.plan.specs.Forest.{Forest, none, tree, roots, size}
use Rattle.plan.specs.Op.{Op}
use Rattle.plan.specs.WellFormed.{node_ok}
use Rattle.plan_codec.specs.Decode.{decode}
use Rattle.semantics.specs.Facts.{Facts, is_nil, met, nothing, known_order}
use Rattle.semantics.specs.Properties.{fresh_keys, wanted, maintains, singles}
use Rattle.key_lists.specs.declared.Keys.{Keys}
use Rattle.key_lists.specs.Keys.{order_of, Ordered, Real}
use Rattle.arena.specs.Arena.{slot_size, index, slot}
use Rattle.arena.specs.declared.At.{At}
use Rattle.walks.specs.Marks.{Marked, Tree, strip, known, at, node, plant, cover, op_t, fact, size_t, shape, rebuild}
use Rattle.walks.specs.Terms.{◌⊕◌}
use Rattle.walks.proofs.Theorems.Common.Base.{blank_widths}
use Rattle.walks.specs.Trees.{OkT}
use Rattle.walks.proofs.Theorems.Common.Trees.{ok_fit}
use Rattle.walks.specs.Utils.{new_sort, add_sort_above}
use Rattle.walks.proofs.Theorems.Common.Keys.{keys_ok, keys_of_lem}
use Rattle.walks.proofs.Theorems.Common.NewNodes.{wanted-fits, wants_fit}
use Rattle.walks.specs.OutputRequirements.{output_fetch}
use Rattle.walks.specs.EnsureSorting.{update_sort_ctx_children_data, update_child_to_remove_unnecessary_sort, ensure_child, ensure_each, ensured_kids, after_loop, finish}
use Rattle.walks.proofs.Theorems.Ensure.Kept.{ensure_each_kept, output_ok}
use Rattle.plan_context.specs.View.{tree_of, forest, most_nodes, most_slots, Arena, Grown}
use Rattle.plan_context.specs.Laws.{facts_at, length_facts, same_trans}
use Rattle.plan_context.specs.Nodes.{Seen}
use Rattle.plan_updates.specs.Kids.{Kids, kids_none, kids_more, kids_forest}
use Rattle.plan_updates.specs.From.{from, from_first, from_next}
use Rattle.plan_context.specs.Summaries.{drop-size}
use Rattle.plan_updates.specs.ChildLoop.{half, view, same_slot, same_tree, kid_below, kid_same, split, counted, new_below, new_kids}
use Rattle.utils.specs.Sorting.{Sortable}
use Rattle.sort_connection.specs.Standing.{Standing, tree_is}
use Rattle.sort_connection.specs.Connection.{count-roots}
use Rattle.sort_removal.specs.Sizes.{connected_size}
use Rattle.ensure_sorting.specs.Child.{Ensures, update_size}
use Rattle.ensure_sorting.specs.Finishing.{Finishes}
use Rattle.walks.proofs.Theorems.Calls.Counts.{cond_le}

-- What the loop and the end after it ask
pub record Loops (b : List ℕ) (u h : ℕ) : Type 0 where
  pub arena : Arena b u
  pub here : h < 2 * u
  pub room : (u + 2 * size (tree_of b h).kids + 9) * slot_size ≤ length b
  pub small : u + 2 * size (tree_of b h).kids + 9 ≤ most_slots
  pub few : 2 * size (tree_of b h).kids + 9 ≤ most_nodes
  pub ok : OkT (finish (shape (op_t (tree_of b h))) (after_loop (tree_of b h)))

-- ---- sizes

new_sort_size : (p : Bool) (ks : List Key) (f : Option ℕ) (t : Tree) → size_t (cover (new_sort p ks f) t) ≤ suc (size_t t)
new_sort_size p [] f t = omega arith
new_sort_size p (k ∷ ks) f t = omega arith

child_size : (w : List Key) (b s : Bool) (f : Option ℕ) (t : Tree) → size_t (ensure_child w b s f t) ≤ 2 * size_t t + 1
child_size [] b s f t = let x = update_size s t in
    cond_le (2 * size_t t + 1) (is_nil (known_order (fact t)) || not b) (update_child_to_remove_unnecessary_sort s t) t (omega arith) (omega arith)
child_size (k ∷ w) b s f t =
    let x = update_size s t in
    let y = cond_le (2 * size_t t) (is_nil (known_order (fact t))) t (update_child_to_remove_unnecessary_sort s t) (omega arith) (omega arith) in
    let z = new_sort_size (ltb 1 (fact (cond (is_nil (known_order (fact t))) t (update_child_to_remove_unnecessary_sort s t))).streams)
    (fresh_keys (fact (cond (is_nil (known_order (fact t))) t (update_child_to_remove_unnecessary_sort s t))) [] (k ∷ w)) f
    (cond (is_nil (known_order (fact t))) t (update_child_to_remove_unnecessary_sort s t)) in
    let v = connected_size (add_sort_above (k ∷ w) f (cond (is_nil (known_order (fact t))) t (update_child_to_remove_unnecessary_sort s t))).kids in
    cond_le (2 * size_t t + 1) (met (fact t) (k ∷ w)) t
    (update_sort_ctx_children_data true (add_sort_above (k ∷ w) f (cond (is_nil (known_order (fact t))) t (update_child_to_remove_unnecessary_sort s t))))
    (omega arith) (omega arith)

each_size : (w : ℕ → List Key) (b s : ℕ → Bool) (f : Option ℕ) (c : Forest Marked) → size (ensure_each w b s f c) ≤ 2 * size c + length (roots c)
each_size w b s f none = omega arith
each_size w b s f (tree m c r) =
    let x = child_size (w 0) (b 0) (s 0) f (at m c) in
    let y = each_size (λ i. w (suc i)) (λ i. b (suc i)) (λ i. s (suc i)) f r in omega arith

-- ---- what a new sort over a child may have

wants_at : (w : ℕ → List Key) (fs : List Facts) → wants_fit w fs ≡ true → (j : ℕ) → j < length fs → keys_ok (get_or fs j nothing).width (w j) ≡ true
wants_at w [] e j l = absurd (omega arith)
wants_at w (F ∷ fs) e zero l = and_left (keys_ok F.width (w 0)) (wants_fit (λ i. w (suc i)) fs) e
wants_at w (F ∷ fs) e (suc j) l = wants_at (λ i. w (suc i)) fs (and_right (keys_ok F.width (w 0)) (wants_fit (λ i. w (suc i)) fs) e) j (omega arith)

-- the node over its new children
after_ok : (o : Op) (c : Forest Marked) → OkT (node o false c) → OkT (node o false (ensured_kids o c))
after_ok o c h =
    let f = ok_fit (tree o (strip c) none) (h.0, h.1, tt) in
    let k = ensure_each_kept (wanted o) (maintains o (known c)) (singles o) (output_fetch o) c f.1 in (
      ap (node_ok o) (blank_widths (known (ensured_kids o c)) (known c) k.bases)
          ∙ h.0,
      k.ok (ap₂ ◌&&◌ (wanted-fits o (known c) h.0) (output_ok o (map (λ F. F.width) (known c)) h.0)) h.1,
    )

-- ---- the loop

-- The first j children are done
pub record Going (b₀ : List ℕ) (u h j w : ℕ) (kids b : List ℕ) : Type 0 where
  pub made : Kids b₀ u j w kids b
  pub is : forest b (take j kids) ⊕ ensure_each (from (wanted (decode (slot b₀ (index h)).rec)) j)
      (from (maintains (decode (slot b₀ (index h)).rec) (known (forest b₀ (slot b₀ (index h)).kids))) j)
      (from (singles (decode (slot b₀ (index h)).rec)) j) (output_fetch (decode (slot b₀ (index h)).rec)) (forest b₀ (drop j (slot b₀ (index h)).kids))
      ≡ ensured_kids (decode (slot b₀ (index h)).rec) (forest b₀ (slot b₀ (index h)).kids)
  pub left : w + 2 * size (forest b₀ (drop j (slot b₀ (index h)).kids)) + length (drop j (slot b₀ (index h)).kids) ≤ u + 2 * size
      (forest b₀ (slot b₀ (index h)).kids) + length (slot b₀ (index h)).kids

module _ (b₀ : List ℕ) (u h : ℕ) (p : Loops b₀ u h) where
  abbrev hs : List ℕ
  hs = (slot b₀ (index h)).kids

  abbrev o : Op
  o = decode (slot b₀ (index h)).rec

  abbrev c₀ : Forest Marked
  c₀ = forest b₀ (slot b₀ (index h)).kids

  abbrev fs : List Facts
  fs = known c₀

  abbrev W : ℕ → List Key
  W = wanted o

  abbrev B : ℕ → Bool
  B = maintains o fs

  abbrev S : ℕ → Bool
  S = singles o

  abbrev F : Option ℕ
  F = output_fetch o

  -- the roots from number j on
  abbrev rest : ℕ → Forest Marked
  rest j = ensure_each (from W j) (from B j) (from S j) F (forest b₀ (drop j hs))

  pub standing : Standing b₀ u h
  standing = record { arena = p.arena; here = p.here }

  abbrev shown : Seen b₀ (index h)
  shown = view p.arena p.here

  kids_are : size (tree_of b₀ h).kids ≡ size (forest b₀ (slot b₀ (index h)).kids)
  kids_are = ap (λ t. size t.kids) (tree_is b₀ u h standing)

  pub going-none : (kids : List ℕ) → length kids ≡ 8 → Going b₀ u h 0 u kids b₀
  unfolding forest
  going-none kids l = record { made = kids_none b₀ u kids p.arena l; is = refl; left = omega arith }

  module _ (j w : ℕ) (kids b : List ℕ) (q : Going b₀ u h j w kids b) where
    pub still : Standing b w h
    still = let x = q.made.more in let l = p.here in record { arena = q.made.arena; here = omega arith }

    module _ (l : j < length (slot b₀ (index h)).kids) (k : ℕ) (e : k ≡ get_or (slot b (index h)).kids j 0) where
      abbrev next_split : forest b₀ (drop j (slot b₀ (index h)).kids) ≡ plant (tree_of b k) (forest b₀ (drop (suc j) (slot b₀ (index h)).kids))
      next_split = split p.arena p.here q.made l e

      width_is : get_or (known (forest b₀ (slot b₀ (index h)).kids)) j nothing ≡ fact (tree_of b k)
      width_is = facts_at b₀ hs j l ∙ ap fact (sym (kid_same p.arena p.here q.made l e))

      module _ (ord : Option Keys) (ho : Ordered (wanted (decode (slot b₀ (index h)).rec) j) ord) (keeps : Bool)
          (hb : keeps ≡ maintains (op_t (tree_of b h)) (known (tree_of b h).kids) j)
          (one : Bool) (hs₁ : one ≡ singles (decode (slot b₀ (index h)).rec) j) (f : Option ℕ) (hf : f ≡ output_fetch (decode (slot b₀ (index h)).rec)) where
        keeps_is : keeps ≡ maintains (decode (slot b₀ (index h)).rec) (known (forest b₀ (slot b₀ (index h)).kids)) j
        keeps_is = hb ∙ ap (λ t. maintains (op_t t) (known t.kids) j) (same_tree p.arena p.here q.made ∙ tree_is b₀ u h standing)

        child_is : ensure_child (order_of ord) keeps one f (tree_of b k) ≡ ensure_child (from (wanted (decode (slot b₀ (index h)).rec)) j 0)
            (from (maintains (decode (slot b₀ (index h)).rec) (known (forest b₀ (slot b₀ (index h)).kids))) j 0)
            (from (singles (decode (slot b₀ (index h)).rec)) j 0) (output_fetch (decode (slot b₀ (index h)).rec)) (tree_of b k)
        child_is =
            let x : order_of ord ≡ from W j 0 = ho.is ∙ sym (from_first W j) in
            let y : keeps ≡ from B j 0 = keeps_is ∙ sym (from_first B j) in
            let z : one ≡ from S j 0 = hs₁ ∙ sym (from_first S j) in
            λ i. ensure_child (x i) (y i) (z i) (hf i) (tree_of b k)

        step : rest j ≡ plant (ensure_child (order_of ord) keeps one f (tree_of b k)) (rest (suc j))
        step =
            ap (ensure_each (from W j) (from B j) (from S j) F) next_split
            ∙ (λ i. plant (sym child_is i) (ensure_each (from_next W j i) (from_next B j i) (from_next S j i) F (forest b₀ (drop (suc j) hs))))

        pub child_asks : Ensures b w k × Real ord × Sortable (tree_of b k) (order_of ord) f
        child_asks =
            let x = kid_below p.arena p.here q.made l e in let y = q.made.more in let s = ap size next_split in let v = q.left in
            let t = shown.few in let m = q.made.long in let z = p.room in let c = p.small in let g = p.few in
            let dl = ap length (drop-cons hs j 0 l) in let d = drop-size b₀ hs j in let n = kids_are in
            let nl = length_facts b₀ hs in
            let fit = keys_of_lem (get_or fs j nothing).width (W j) (wants_at W fs (wanted-fits o fs shown.ok.0) j (omega arith)) in (
              record { arena = q.made.arena; here = omega arith; room = omega arith; small = omega arith; few = omega arith },
              ho.real,
              subst (λ ks. Sortable (tree_of b k) ks f) (sym ho.is)
                  (subst (λ G. Sortable (tree_of b k) (W j) G) (sym hf)
                  (record {
                    short = fit.short;
                    inside = subst (λ G. All (λ y. y.col < G.width) (W j)) width_is fit.inside;
                    fetch = output_ok o (map (λ G. G.width) fs) shown.ok.0;
                  })),
            )

        pub going_more : (b' : List ℕ) → length b' ≡ length b → (a : At) → Grown b w b' a (ensure_child (order_of ord) keeps one f (tree_of b k))
            (w + 2 * size_t (tree_of b k) + 1) → Going b₀ u h (j + 1) a.used (set kids j a.root) b'
        going_more b' lb a g =
            let t = shown.few in let s = ap size next_split in let v = q.left in let top = g.room in let dl = ap length (drop-cons hs j 0 l) in
            record {
              made = kids_more b₀ u j w kids b q.made (omega arith) b' lb a (ensure_child (order_of ord) keeps one f (tree_of b k))
                  (w + 2 * size_t (tree_of b k) + 1) g;
              is = kids_forest b₀ u j w kids b q.made (omega arith) b' lb a (ensure_child (order_of ord) keeps one f (tree_of b k))
                  (w + 2 * size_t (tree_of b k) + 1) g (rest (j + 1))
                  ∙ rw (add-one j) (ap (λ x. forest b (take j kids) ⊕ x) (sym step)) ∙ q.is;
              left = rw (add-one j) (omega arith);
            }

    -- all children are done
    module _ (n : ℕ) (e : n ≡ j) (c : n ≡ length (slot b₀ (index h)).kids) (r : List ℕ) (hr : r ≡ (slot b₀ (index h)).rec) where
      same : slot b (index h) ≡ slot b₀ (index h)
      same = same_slot p.arena p.here q.made

      news : forest b (take n kids) ≡ ensured_kids (decode (slot b₀ (index h)).rec) (forest b₀ (slot b₀ (index h)).kids)
      news = new_kids p.arena p.here q.made e c (ensure_each (from W j) (from B j) (from S j) F) (ensured_kids o c₀) refl q.is

      finish-is : finish (shape (decode (slot b₀ (index h)).rec)) (rebuild (decode (slot b₀ (index h)).rec) false (forest b (take n kids))) ≡ finish
          (shape (op_t (tree_of b₀ h))) (after_loop (tree_of b₀ h))
      finish-is = ap (λ x. finish (shape o) (rebuild o false x)) news ∙ sym (ap (λ t. finish (shape (op_t t)) (after_loop t)) (tree_is b₀ u h standing))

      pub going_ends : Finishes b w h r (take n kids)
      going_ends =
          let v = q.left in let t = shown.few in let l = q.made.long in let x = p.room in let s = p.small in let f = p.few in
          let m = q.made.more in let y = half p.arena p.here in
          let i = kids_are in let g = ap size news in let z = each_size W B S F c₀ in let a = count-roots b₀ hs in
          record {
            arena = q.made.arena;
            here = still.here;
            same = hr ∙ sym (ap (λ k. k.rec) same);
            room = omega arith;
            small = omega arith;
            below = new_below p.arena p.here q.made e c;
            count = counted p.arena p.here q.made e c ∙ ap (λ x. length x.kids) (sym same);
            opened = subst (λ k. OkT (node (decode k) false (forest b (take n kids)))) (sym hr)
                (subst (λ k. OkT (node o false k)) (sym news) (after_ok o c₀ shown.ok));
            few = omega arith;
            ok = subst (λ k. OkT (finish (shape (decode k)) (rebuild (decode k) false (forest b (take n kids))))) (sym hr)
                (subst OkT (sym finish-is) p.ok);
          }

      pub end_grown : (b' : List ℕ) (a : At) → Grown b w b' a (finish (shape (decode r)) (rebuild (decode r) false (forest b (take n kids)))) (w + 1)
          → Grown b₀ u b' a (finish (shape (op_t (tree_of b₀ h))) (after_loop (tree_of b₀ h))) (u + 2 * size (tree_of b₀ h).kids + 9)
      end_grown b' a g =
          let v = q.left in let t = shown.few in let x = g.room in let y = g.more in let z = q.made.more in let i = kids_are in
          record {
            arena = g.arena;
            old = same_trans u w b₀ b b' z q.made.old g.old;
            more = omega arith;
            here = g.here;
            tree = g.tree ∙ ap (λ k. finish (shape (decode k)) (rebuild (decode k) false (forest b (take n kids)))) hr ∙ finish-is;
            room = omega arith;
          }
