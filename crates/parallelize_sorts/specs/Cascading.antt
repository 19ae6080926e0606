-- A sort, a merge or a coalesce rebuilt over what is left below it, and the step.
use Rattle.std.specs.Prelude.{◌≡◌, refl, Bool, true, false, cond, List, [], ◌∷◌, ℕ, suc, ◌+◌, ◌*◌, ◌≤◌, ◌<◌, ltb, length, get_or, Option}
use Rattle.std.proofs.Common.{sym, ap, ap₂, ◌∙◌, subst, arith}
use Rattle.row_order.specs.Iso.{Key}
use Rattle.row_order.specs.Lists.{All}
use Rattle.plan.specs.Forest.{Forest, none, tree, size}
use Rattle.plan.specs.Op.{Op, coalesce, sort_op, merge_op}
use Rattle.plan.specs.WellFormed.{fetch_ok, node_ok}
use Rattle.plan_codec.specs.Decode.{decode}
use Rattle.plan_codec.specs.Encode.{encode}
use Rattle.semantics.specs.Facts.{met}
use Rattle.semantics.specs.Properties.{cuts, fresh_keys}
use Rattle.key_lists.specs.Keys.{keys_of}
use Rattle.record_fields.specs.Proper.{Proper}
use Rattle.arena.specs.Arena.{slot_size}
use Rattle.arena.specs.Laws.{below_at}
use Rattle.arena.specs.declared.At.{At}
use Rattle.walks.specs.Marks.{Marked, Tree, strip, node, plant, over, cover, fact, size_t, head_mark, shape}
use Rattle.walks.specs.Utils.{is_coalesce_partitions, new_sort, add_sort_above_with_check}
use Rattle.walks.specs.Terms.{passing}
use Rattle.walks.specs.Trees.{OkT, FitT, FitsA}
use Rattle.walks.proofs.Theorems.Common.Trees.{ok_fit, children_fit}
use Rattle.walks.proofs.Theorems.Common.NewNodes.{coalesce_ok, narrow_t, node_fetch}
use Rattle.walks.proofs.Theorems.Common.Keeps.{Keeps, pass_one}
use Rattle.walks.proofs.Theorems.Common.Base.{ease_blank}
use Rattle.walks.proofs.Theorems.Common.Skeleton.{pass_ease}
use Rattle.walks.proofs.Theorems.Parallelize.Kept.{without_self_kept}
use Rattle.walks.specs.ParallelizeSorts.{without_self, parallel_by, parallelize_sorts, update_coalesce_ctx_children}
use Rattle.plan_context.specs.View.{tree_of, forest, most_slots, Arena, Grown, Here, Puts}
use Rattle.plan_updates.specs.Covering.{Under, cover_puts, cover_grown, ok_of}
use Rattle.plan_context.specs.Laws.{here}
use Rattle.plan_context.specs.Nodes.{rule}
use Rattle.plan_updates.specs.ProperRecords.{record_proper}
use Rattle.plan_updates.specs.Opened.{Opened, step_room}
use Rattle.plan_updates.specs.Opening.{opened_over, grown_more, grown_then}
use Rattle.utils.specs.Sorting.{Sortable}
use Rattle.parallelize_sorts.specs.declared.SortExprs.{SortExprs}
use Rattle.bottleneck_removal.specs.Connecting.{some_first}
use Rattle.bottleneck_removal.specs.Removing.{Opens, without_self_size}
use Rattle.parallelize_sorts.specs.Exprs.{Exprs, cascades, Cascaded, cascaded, merge_keys, Coalesced, stays_else}

-- A node with the record r over the tree at h, that stands in no slot
pub record Rebuilds (m : List ℕ) (u : ℕ) (r : List ℕ) (h : ℕ) : Type 0 where
  pub arena : Arena m u
  pub here : h < 2 * u
  pub room : (u + size_t (tree_of m h) + 2) * slot_size ≤ length m
  pub small : u + size_t (tree_of m h) + 2 ≤ most_slots
  pub canon : r ≡ encode 1 (decode r)
  pub ok : OkT (over (decode r) false (tree_of m h))
  pub few : size_t (tree_of m h) ≤ 125

-- ---- a sort above changes no width and adds one node

above_by : (P : Tree → Type 0) (ks : List Key) (f : Option ℕ) (t : Tree) → P t → ((p : Bool) (k : Key) (l : List Key) → P (over (sort_op p (k ∷ l) f) false t))
    → P (add_sort_above_with_check ks f t)
above_by P ks f t a b = go (met (fact t) ks)
  where
    sorted : (p : Bool) (l : List Key) → P (cover (new_sort p l f) t)
    sorted p [] = a
    sorted p (k ∷ l) = b p k l

    go : (x : Bool) → P (cond x t (cover (new_sort (ltb 1 (fact t).streams) (fresh_keys (fact t) [] ks) f) t))
    go true = a
    go false = sorted (ltb 1 (fact t).streams) (fresh_keys (fact t) [] ks)

above_width : (ks : List Key) (f : Option ℕ) (t : Tree) → (fact (add_sort_above_with_check ks f t)).width ≡ (fact t).width
above_width ks f t = above_by (λ x. (fact x).width ≡ (fact t).width) ks f t refl (λ p k l. refl)

above_size : (ks : List Key) (f : Option ℕ) (t : Tree) → size_t (add_sort_above_with_check ks f t) ≤ suc (size_t t)
above_size ks f t = above_by (λ x. size_t x ≤ suc (size_t t)) ks f t (omega arith) (λ p k l. omega arith)

module _ (m : List ℕ) (u : ℕ) (r : List ℕ) (h : ℕ) (p : Rebuilds m u r h) where
  abbrev o : Op
  o = decode r

  abbrev T : Tree
  T = tree_of m h

  abbrev L : Tree
  L = without_self (over (decode r) false (tree_of m h))

  pub rebuilds_opens : Opens m u h
  rebuilds_opens = let x = p.room in let y = p.small in record { arena = p.arena; here = p.here; room = omega arith; small = omega arith }

  pub rebuilds_proper : Proper r
  rebuilds_proper = record_proper r 1 (plant (tree_of m h) none) p.canon p.ok

  fitting : FitT (over (decode r) false (tree_of m h))
  fitting = let f = ok_fit (tree o (strip (plant T none)) none) (p.ok.0, p.ok.1, tt) in (f.0, f.1)

  module _ (pass : passing (decode r) ≡ true) where
    kept : Keeps false true true (over (decode r) false (tree_of m h)) (without_self (over (decode r) false (tree_of m h)))
    kept = without_self_kept (over o false T) pass fitting

    without_self_width : (fact (without_self (over (decode r) false (tree_of m h)))).width ≡ (fact (tree_of m h)).width
    without_self_width = ap (λ F. F.width) (kept.base ∙ ease_blank o (fact T ∷ []) (pass_ease o pass))

    -- what is left below it
    module _ (m₁ : List ℕ) (lm : length m₁ ≡ length m) (a : At)
        (g : Grown m u m₁ a (without_self (over (decode r) false (tree_of m h))) (u + size_t (tree_of m h))) where
      left_under : Under m₁ a.used a.root 1
      left_under =
          let x = g.room in let y = p.room in let z = p.small in let s = ap size_t g.tree in let f = without_self_size o false T in let n = p.few in
          record { arena = g.arena; here = g.here; room = omega arith; small = omega arith; few = omega arith }

      left_width : (fact (tree_of m₁ a.root)).width ≡ (fact (tree_of m h)).width
      left_width = ap (λ t. (fact t).width) g.tree ∙ without_self_width

      -- the sort over it
      module _ (s : SortExprs) (c : Cascaded (decode r) s (fact (tree_of m h)).width (tree_of m h)) where
        abbrev ks : List Key
        ks = keys_of s.keys

        pub sort_asks : Under m₁ a.used a.root 1 × Sortable (tree_of m₁ a.root) (keys_of s.keys) s.fetch
        sort_asks =
            let k = merge_keys (fact T).width ks s.fetch c.merge in
            (left_under, record { short = k.0.short; inside = subst (λ w. All (λ x. x.col < w) ks) (sym left_width) k.0.inside; fetch = k.1 })

        -- the merge over that
        module _ (m₂ : List ℕ) (ln : length m₂ ≡ length m₁) (z : At)
            (k : Grown m₁ a.used m₂ z (add_sort_above_with_check (keys_of s.keys) s.fetch (tree_of m₁ a.root)) (a.used + 1))
            (x : List ℕ) (e : x ≡ encode 1 (merge_op (keys_of s.keys) s.fetch)) where
          merge_under : Under m₂ z.used z.root 1
          merge_under =
              let y = k.room in let q = g.room in let v = p.room in let w = p.small in let i = ap size_t k.tree in
              let j = above_size ks s.fetch (tree_of m₁ a.root) in let l = ap size_t g.tree in let f = without_self_size o false T in
              let n = p.few in
              record { arena = k.arena; here = k.here; room = omega arith; small = omega arith; few = omega arith }

          merge_ok : node_ok (merge_op (keys_of s.keys) s.fetch) ((fact (tree_of m₂ z.root)).width ∷ []) ≡ true
          merge_ok = ap (λ w. node_ok (merge_op ks s.fetch) (w ∷ [])) (ap (λ t. (fact t).width) k.tree ∙ above_width ks s.fetch (tree_of m₁ a.root)
              ∙ left_width) ∙ c.merge

          pub merge_puts : Puts m₂ z.used x (z.root ∷ [])
          merge_puts = cover_puts m₂ z.used z.root merge_under (merge_op ks s.fetch) merge_ok x e
              (ok_of m₂ z.used z.root k.arena k.here)

          pub merge_grown : (m₃ : List ℕ) (b : At) → Grown m₂ z.used m₃ b (node (decode x) false (forest m₂ (z.root ∷ []))) (z.used + 1)
              → Grown m u m₃ b (parallel_by (shape (decode r)) (over (decode r) false (tree_of m h))) (u + size_t (tree_of m h) + 2)
          merge_grown m₃ b v =
              let y = k.room in let q = g.room in
              subst (λ t. Grown m u m₃ b t (u + size_t (tree_of m h) + 2))
              (ap (over (merge_op ks s.fetch) false) (k.tree ∙ ap (add_sort_above_with_check ks s.fetch) g.tree) ∙ sym (c.is false))
              (grown_then m u m₁ a L (u + size_t T) m₃ b (over (merge_op ks s.fetch) false (tree_of m₂ z.root)) (z.used + 1) (u + size_t T + 2) g
              (grown_then m₁ a.used m₂ z (add_sort_above_with_check ks s.fetch (tree_of m₁ a.root)) (a.used + 1) m₃ b
              (over (merge_op ks s.fetch) false (tree_of m₂ z.root)) (z.used + 1) (z.used + 1) k
              (cover_grown m₂ z.used z.root merge_under (merge_op ks s.fetch) merge_ok x e m₃ b (z.used + 1) v) (omega arith)) (omega arith))

      -- the coalesce over it
      module _ (c : Coalesced (decode r) (tree_of m h)) (f : Option ℕ) (hf : f ≡ (cuts (decode r)).fetch) (x : List ℕ) (e : x ≡ encode 1 (coalesce f)) where
        again_ok : node_ok (coalesce f) ((fact (tree_of m₁ a.root)).width ∷ []) ≡ true
        again_ok = coalesce_ok f ((fact (tree_of m₁ a.root)).width ∷ []) (ap fetch_ok hf ∙ node_fetch o ((fact T).width ∷ []) p.ok.0)
            (refl, narrow_t (tree_of m₁ a.root) (ok_of m₁ a.used a.root g.arena g.here))

        pub again_puts : Puts m₁ a.used x (a.root ∷ [])
        again_puts = cover_puts m₁ a.used a.root left_under (coalesce f) again_ok x e (ok_of m₁ a.used a.root g.arena g.here)

        pub again_grown : (m₂ : List ℕ) (b : At) → Grown m₁ a.used m₂ b (node (decode x) false (forest m₁ (a.root ∷ []))) (a.used + 1)
            → Grown m u m₂ b (parallel_by (shape (decode r)) (over (decode r) false (tree_of m h))) (u + size_t (tree_of m h) + 2)
        again_grown m₂ b v =
            let q = g.room in
            subst (λ t. Grown m u m₂ b t (u + size_t (tree_of m h) + 2)) (ap₂ (λ y t. over (coalesce y) false t) hf g.tree ∙ sym (c.is false))
            (grown_then m u m₁ a L (u + size_t T) m₂ b (over (coalesce f) false (tree_of m₁ a.root)) (a.used + 1) (u + size_t T + 2) g
            (cover_grown m₁ a.used a.root left_under (coalesce f) again_ok x e m₂ b (a.used + 1) v) (omega arith))

  -- the sort or merge that it is
  pub is_cascaded : (s : SortExprs) → Exprs (shape (decode r)) s → cascades (decode r) (fact (tree_of m h)) ≡ true
      → Cascaded (decode r) s (fact (tree_of m h)).width (tree_of m h)
  is_cascaded s x c = cascaded o s (fact T).width T x p.ok.0 c

-- ---- the step

only : (m ks : List ℕ) → length ks ≡ 1 → forest m ks ≡ plant (tree_of m (get_or ks 0 0)) none
unfolding forest
only m [] n = absurd (omega arith)
only m (k ∷ []) n = refl
only m (k ∷ j ∷ ks) n = absurd (omega arith)

module _ (m : List ℕ) (u : ℕ) (r ks : List ℕ) (i : ℕ) (p : Opened m u r ks i) where
  abbrev c : Forest Marked
  c = forest m ks

  -- the node's mark
  abbrev y : Bool
  y = update_coalesce_ctx_children (decode r) (forest m ks)

  abbrev top : ℕ
  top = u + step_room (suc (size (forest m ks)))

  pub step_proper : Proper r
  step_proper = record_proper r (length ks) c p.canon p.ok

  module _ (b : Bool) (hb : b ≡ update_coalesce_ctx_children (decode r) (forest m ks)) (m' : List ℕ) (a : At)
      (g : Grown m u m' a (node (decode r) b (forest m ks)) (u + 1)) where
    stay_grown : node (decode r) (update_coalesce_ctx_children (decode r) (forest m ks)) (forest m ks) ≡ parallelize_sorts (node (decode r) false (forest m ks))
        → Grown m u m' a (parallelize_sorts (node (decode r) false (forest m ks))) (u + step_room (suc (size (forest m ks))))
    stay_grown e = grown_more m u m' a (parallelize_sorts (node (decode r) false c)) (u + 1) top (omega arith)
        (subst (λ t. Grown m u m' a t (u + 1)) (ap (λ x. node (decode r) x c) hb ∙ e) g)

    pub unconnected : head_mark (forest m ks) ≡ false → Grown m u m' a (parallelize_sorts (node (decode r) false (forest m ks)))
        (u + step_room (suc (size (forest m ks))))
    unconnected e = stay_grown (sym (ap (λ x. cond x (parallel_by (shape (decode r)) (node (decode r) y c)) (node (decode r) y c)) e))

  module _ (e : head_mark (forest m ks) ≡ true) (h : ℕ) (q : h ≡ get_or ks 0 0) where
    connected : parallel_by (shape (decode r)) (node (decode r) (update_coalesce_ctx_children (decode r) (forest m ks)) (forest m ks)) ≡ parallelize_sorts
        (node (decode r) false (forest m ks))
    connected = sym (ap (λ x. cond x (parallel_by (shape (decode r)) (node (decode r) y c)) (node (decode r) y c)) e)

    first_low : h < 2 * u
    first_low = let l = below_at (2 * u) ks 0 p.below (some_first ks m e) in omega arith

    pub first_here : Here m h
    first_here = here m u h p.arena first_low

    single : passing (decode r) ≡ true → length ks ≡ 1
    single x = subst (λ z. FitsA z (length ks)) (pass_one (decode r) x)
        (children_fit (decode r) (length ks) (rule m r ks (opened_over m u r ks i p)).count)

    alone : passing (decode r) ≡ true → forest m ks ≡ plant (tree_of m h) none
    alone x = only m ks (single x) ∙ ap (λ k. plant (tree_of m k) none) (sym q)

    pub step_rebuilds : passing (decode r) ≡ true → Rebuilds m u r h
    step_rebuilds x =
        let s = ap size (alone x) in let a = p.room in let b = p.small in let f = p.few in
        record {
          arena = p.arena;
          here = first_low;
          room = omega arith;
          small = omega arith;
          canon = p.canon ∙ ap (λ n. encode n (decode r)) (single x);
          ok = subst (λ f. OkT (node (decode r) false f)) (alone x) p.ok;
          few = omega arith;
        }

    -- rebuilt over what is left below it
    pub rebuilt_grown : passing (decode r) ≡ true
        → ((x : Bool) → parallel_by (shape (decode r)) (over (decode r) false (tree_of m h)) ≡ parallel_by (shape (decode r)) (over (decode r) x (tree_of m h)))
        → (m' : List ℕ) (a : At) → Grown m u m' a (parallel_by (shape (decode r)) (over (decode r) false (tree_of m h))) (u + size_t (tree_of m h) + 2)
        → Grown m u m' a (parallelize_sorts (node (decode r) false (forest m ks))) (u + step_room (suc (size (forest m ks))))
    rebuilt_grown x k m' a g =
        let s = ap size (alone x) in
        grown_more m u m' a (parallelize_sorts (node (decode r) false c)) (u + size_t (tree_of m h) + 2) top (omega arith)
        (subst (λ t. Grown m u m' a t (u + size_t (tree_of m h) + 2)) (k y ∙ ap (λ f. parallel_by (shape (decode r)) (node (decode r) y f)) (sym (alone x))
        ∙ connected) g)

    pub left_grown : cascades (decode r) (fact (tree_of m h)) ≡ false → is_coalesce_partitions (decode r) ≡ false → (b : Bool) → b ≡ update_coalesce_ctx_children
        (decode r) (forest m ks) → (m' : List ℕ) (a : At) → Grown m u m' a (node (decode r) b (forest m ks)) (u + 1)
        → Grown m u m' a (parallelize_sorts (node (decode r) false (forest m ks))) (u + step_room (suc (size (forest m ks))))
    left_grown s t b hb m' a g = stay_grown b hb m' a g (sym (stays_else (decode r) y c (tree_of m h) alone s t) ∙ connected)
