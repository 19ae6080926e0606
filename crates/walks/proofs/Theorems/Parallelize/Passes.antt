-- Parallelizing keeps the order check, and each node's facts at its own step: `parallelize-passes`.
use Rattle.std.specs.Prelude.{◌≡◌, refl, Bool, true, false, cond, not, ◌&&◌, ◌||◌, List, [], ◌∷◌, map, ℕ, ◌<◌, eqb, ltb, leb, Option}
use Rattle.std.proofs.Common.{sym, ap, ap₂, ◌∙◌, subst, arith, leb-true, leb-false}
use Rattle.row_order.specs.Iso.{Key}
use Rattle.row_order.proofs.Order.{no_bool}
use Rattle.row_order.specs.ListLaws.{all_head}
use Rattle.plan.specs.Forest.{Forest, none, tree}
use Rattle.plan.specs.Op.{coalesce, merge_op, Op, Plan, repartition, sort_op}
use Rattle.plan.specs.Numbers.{code}
use Rattle.plan.specs.WellFormed.{node_ok}
use Rattle.semantics.specs.Facts.{Facts, facts, facts_op, met, nf, ordered}
use Rattle.semantics.specs.Properties.{fresh_keys, singles}
use Rattle.semantics.specs.Check.{check, wants_met}
use Rattle.semantics.proofs.Theorems.Common.Bools.{and_left, and_right, or_false}
use Rattle.semantics.proofs.Theorems.Facts.StreamCounts.{streams_some}
use Rattle.walks.specs.Marks.{bare, cover, fact, head_mark, known, Marked, node, op_t, over, rebuild, set_mark, Shape, strip, transform_up, Tree}
use Rattle.walks.specs.Utils.{add_sort_above, add_sort_above_with_check, is_sort, new_sort}
use Rattle.walks.specs.ParallelizeSorts.{any_mark_at, cascade, without_self, remove_bottleneck_in_subplan_impl, bottlenecks_removed, parallel_by, parallelize, parallelize_sorts, parallel_marked, remove_bottleneck_in_subplan, update_coalesce_ctx_children}
use Rattle.walks.specs.Counted.{has_partial_sort, one}
use Rattle.walks.specs.Terms.{blank, passing}
use Rattle.walks.specs.Trees.{Arity, arity, count, FitsA, FitT, Ok, OkT}
use Rattle.walks.proofs.Theorems.Common.Trees.{ok_fit, ok_to}
use Rattle.walks.proofs.Theorems.Common.Keeps.{Keeps, KeepsAll, kept_rebuild, pass_one, remark-same, shape_ind, strip-bare, walk_kept}
use Rattle.walks.proofs.Theorems.Parallelize.Kept.{without_self_kept, remove_bottleneck_in_subplan_impl_kept, first_removed_kept, parallelize_sorts_kept}
use Rattle.walks.proofs.Theorems.Common.OrderMet.{wants_remark}
use Rattle.walks.proofs.Theorems.Ensure.Removal.{is_other, other_code}
use Rattle.walks.proofs.Theorems.Ensure.Passes.{add_sort_met}
use Rattle.walks.proofs.Theorems.Parallelize.Bottlenecks.{MarksStay, FineT, kid_pass, open_each_opens, Widened, first_removed_opens, pass_plant, PassT, rebuilt_facts}

-- ---- the step: the node's facts stay
facts_are : (F G : Facts) → blank F ≡ blank G → F.streams ≡ G.streams → F.order ≡ G.order → F ≡ G
facts_are F G b n k = ap (λ (B : Facts). ordered B F.streams F.order) b ∙ ap₂ (λ (m : ℕ) (l : List Key). ordered G m l) n k

record Stepped (t u : Tree) : Type 0 where
  same : fact u ≡ fact t
  passes : PassT u
  fine : FineT u

-- what the step gets
record Ready (t : Tree) : Type 0 where
  fit : FitT t
  ok : OkT t
  kids : MarksStay t.kids
  whole : eqb (code (op_t t)) 14 ≡ false
  passes : PassT t

module _ (t : Tree) (h : Ready t) where
  root_opens : Widened t.kids (bottlenecks_removed t)
  root_opens = first_removed_opens true (op_t t) t.kids (remove_bottleneck_in_subplan_impl (λ i. true) t.kids) h.fit.1 h.passes.1
      (open_each_opens (λ i. true) t.kids h.fit.1 h.ok.1 h.kids h.passes.1)

  root_count : passing (op_t t) ≡ true → count (strip (bottlenecks_removed t)) ≡ 1
  root_count e =
      let k : KeepsAll false true true t.kids (bottlenecks_removed t) = first_removed_kept true (op_t t) t.kids
      (remove_bottleneck_in_subplan_impl (λ i. true) t.kids) h.fit.1 (remove_bottleneck_in_subplan_impl_kept (λ i. true) t.kids h.fit.1) in
      k.same ∙ subst (λ (a : Arity). FitsA a (count (strip t.kids))) (pass_one (op_t t) e) h.fit.0

  without_self_pass : passing (op_t t) ≡ true → PassT (without_self t)
  without_self_pass e = kid_pass (remove_bottleneck_in_subplan t) (bottlenecks_removed t) (root_count e) root_opens.passes

  -- a node that stays, with its mark
  unchanged : (t.top.mark ≡ true → is_sort (op_t t) ≡ true → 1 < (fact t).streams) → Stepped t t
  unchanged g = record { same = refl; passes = h.passes; fine = λ e. ((g e, h.whole), h.kids) }

checked_base : (ks : List Key) (f : Option ℕ) (u : Tree) → blank (fact (add_sort_above_with_check ks f u)) ≡ blank (fact u)
checked_base ks f u = go (met (fact u) ks) (fresh_keys (fact u) [] ks)
  where
    go : (b : Bool) (l : List Key) → blank (fact (cond b u (cover (new_sort (ltb 1 (fact u).streams) l f) u))) ≡ blank (fact u)
    go true l = refl
    go false [] = refl
    go false (k ∷ l) = refl

checked_pass : (ks : List Key) (f : Option ℕ) (u : Tree) → PassT u → PassT (add_sort_above_with_check ks f u)
checked_pass ks f u h = go (met (fact u) ks) (fresh_keys (fact u) [] ks)
  where
    go : (b : Bool) (l : List Key) → PassT (cond b u (cover (new_sort (ltb 1 (fact u).streams) l f) u))
    go true l = h
    go false [] = h
    go false (k ∷ l) = (refl, pass_plant u none h refl)

checked_met : (ks : List Key) (f : Option ℕ) (u : Tree) → met (fact (add_sort_above_with_check ks f u)) ks ≡ true
checked_met ks f u = go (met (fact u) ks) refl
  where
    go : (b : Bool) → met (fact u) ks ≡ b → met (fact (cond b u (add_sort_above ks f u))) ks ≡ true
    go true e = e
    go false e = add_sort_met ks f u

-- a sort or a merge of keys ks with one stream becomes a merge of them
cascade_steps : (ks : List Key) (f : Option ℕ) (t : Tree) → Ready t → passing (op_t t) ≡ true → (fact t).order ≡ nf (fact t) [] ks → Stepped t (cascade ks f t)
cascade_steps ks f t h e o = go (leb (fact t).streams 1) refl
  where
    u : Tree
    u = add_sort_above_with_check ks f (without_self t)

    base : blank (fact u) ≡ blank (fact t)
    base = checked_base ks f (without_self t) ∙ (without_self_kept {b = false} {h = false} t e h.fit).base

    go : (b : Bool) → leb (fact t).streams 1 ≡ b → Stepped t (cond b (over (merge_op ks f) false u) t)
    go true l =
        let one : (fact t).streams ≡ 1 =
        omega (
          arith,
          leb-true (fact t).streams 1 l,
          all_head (streams_some (tree (op_t t) (strip t.kids) none) (ok_to (tree (op_t t) (strip t.kids) none) (h.ok.0, h.ok.1, tt))),
        ) in
        record {
          same = facts_are (fact (over (merge_op ks f) false u)) (fact t) base (sym one) (ap (λ (B : Facts). nf B [] ks) base ∙ sym o);
          passes = (ap₂ ◌&&◌ (checked_met ks f (without_self t)) refl, pass_plant u none (checked_pass ks f (without_self t) (without_self_pass t h e)) refl);
          fine = λ q. no_bool q;
        }
    go false l = unchanged t h (λ _ _. leb-false (fact t).streams 1 l)

-- a sort whose child has no connection has none
no_mark : (q : ℕ → Bool) (c : Forest Marked) → count (strip c) ≡ 1 → head_mark c ≡ false → any_mark_at q c ≡ false
no_mark q none n e = refl
no_mark q (tree m c none) n e = ap (λ (b : Bool). (b && q 0) || false) e
no_mark q (tree m c (tree j d r)) n e = absurd (omega arith)

abbrev Parallel : Bool → Forest Marked → Op → Type 0
Parallel x c o = Ready (node o x c) → (x ≡ true → is_sort o ≡ true → head_mark c ≡ true) → Stepped (node o x c) (parallel_marked (node o x c))

-- the step with the mark x
marked_steps : (x : Bool) (c : Forest Marked) (o : Op) → Parallel x c o
marked_steps x c =
    shape_ind (Parallel x c)
    (λ p ks f h g. connected_or (sort_op p ks f) h g (cascade_steps ks f (node (sort_op p ks f) x c) h refl refl))
    (λ ks f h g. connected_or (merge_op ks f) h g (cascade_steps ks f (node (merge_op ks f) x c) h refl refl))
    (λ p n q ks h g. connected_or (repartition p n q ks) h g (unchanged (node (repartition p n q ks) x c) h (λ _ z. no_bool z)))
    (λ f h g. connected_or (coalesce f) h g (coalesce_steps f h))
    (λ o s h g. subst (λ (z : Shape). Stepped (node o x c) (cond (head_mark c) (parallel_by z (node o x c)) (node o x c))) (sym s)
    (connected_or o h g (unchanged (node o x c) h (λ _ z. no_bool (sym (other_code o (ap is_other s)).0 ∙ z)))))
  where
    -- without a connected child the node stays, and is no marked sort
    connected_or : {v : Tree} (o : Op) → Ready (node o x c) → (x ≡ true → is_sort o ≡ true → head_mark c ≡ true) → Stepped (node o x c) v
        → Stepped (node o x c) (cond (head_mark c) v (node o x c))
    connected_or {v} o h g s = go (head_mark c) refl
      where
        go : (b : Bool) → head_mark c ≡ b → Stepped (node o x c) (cond b v (node o x c))
        go true e = s
        go false e = unchanged (node o x c) h (λ y z. no_bool (sym e ∙ g y z))

    coalesce_steps : (f : Option ℕ) → Ready (node (coalesce f) x c) → Stepped (node (coalesce f) x c)
        (over (coalesce f) false (without_self (node (coalesce f) x c)))
    coalesce_steps f h =
        let t : Tree = node (coalesce f) x c in
        record {
          same = ap (λ (B : Facts). ordered B 1 []) (without_self_kept {b = false} {h = false} t refl h.fit).base;
          passes = (refl, pass_plant (without_self t) none (without_self_pass t h refl) refl);
          fine = λ q. no_bool q;
        }

step_steps : (t : Tree) → Ready t → Stepped t (parallelize_sorts t)
step_steps t h =
    let s : Stepped (set_mark x t) (parallelize_sorts t) = marked_steps x t.kids (op_t t) ready sorts in
    record { same = s.same; passes = s.passes; fine = s.fine }
  where
    x : Bool
    x = update_coalesce_ctx_children (op_t t) t.kids

    ready : Ready (node (op_t t) x t.kids)
    ready = record { fit = h.fit; ok = h.ok; kids = h.kids; whole = h.whole; passes = h.passes }

    -- a sort is marked by its one child
    sort_child : (o : Op) (c : Forest Marked) → FitsA (arity o) (count (strip c)) → update_coalesce_ctx_children o c ≡ true → is_sort o ≡ true
        → head_mark c ≡ true
    sort_child o c = shape_ind (λ p. FitsA (arity p) (count (strip c)) → update_coalesce_ctx_children p c ≡ true → is_sort p ≡ true → head_mark c ≡ true)
        (λ p ks f i y z. by_child p ks f c i y) (λ ks f i y z. no_bool z) (λ p m q ks i y z. no_bool z) (λ f i y z. no_bool z)
        (λ p s i y z. no_bool (sym (other_code p (ap is_other s)).0 ∙ z)) o
      where
        by_child : (p : Bool) (ks : List Key) (f : Option ℕ) (c : Forest Marked) → count (strip c) ≡ 1 → update_coalesce_ctx_children (sort_op p ks f) c ≡ true
            → head_mark c ≡ true
        by_child p ks f none i y = absurd (omega arith)
        by_child p ks f (tree m d r) i y = go m.mark refl
          where
            go : (b : Bool) → m.mark ≡ b → m.mark ≡ true
            go true e = e
            go false e = no_bool (sym (no_mark (λ j. not (singles (sort_op p ks f) j)) (tree m d r) i e) ∙ y)

    sorts : x ≡ true → is_sort (op_t t) ≡ true → head_mark t.kids ≡ true
    sorts = sort_child (op_t t) t.kids h.fit.0

-- ---- the walk
record Walked (f : Plan) (d : Forest Marked) : Type 0 where
  same : known d ≡ facts f
  passes : check (strip d) ≡ true
  fine : MarksStay d

parallelize_walks : (f : Plan) → Ok f → has_partial_sort f ≡ false → check f ≡ true → Walked f (transform_up parallelize_sorts f)
parallelize_walks none h p e = record { same = refl; passes = refl; fine = tt }
parallelize_walks (tree o c r) h p e =
    let no = or_false (eqb (code o) 14) (has_partial_sort c || has_partial_sort r) p in
    let nos = or_false (has_partial_sort c) (has_partial_sort r) no.1 in
    let d : Forest Marked = transform_up parallelize_sorts c in
    let w : Walked c d = parallelize_walks c h.1 nos.0 (search (and_left, and_right)) in
    let v : Walked r (transform_up parallelize_sorts r) = parallelize_walks r h.2 nos.1 (search (and_left, and_right)) in
    let k : KeepsAll false true true (bare c) d = walk_kept parallelize_sorts (λ t g. parallelize_sorts_kept t g) c (ok_fit c h.1) in
    let i : Keeps false true true (node o false (bare c)) (rebuild o false d) = kept_rebuild o false false (bare c) d
    (subst (λ (g : Plan). FitsA (arity o) (count g)) (sym (strip-bare c)) (ok_fit (tree o c r) h).0) k in
    let t : Tree = rebuild o false d in
    let q : wants_met o (facts c) ≡ true = search and_left in
    let ready : Ready t =
    record {
      fit = i.fit;
      ok = i.ok refl (subst (λ (g : Plan). (node_ok o (map (λ F. F.width) (facts g)) ≡ true) × Ok g) (sym (strip-bare c)) (h.0, h.1));
      kids = w.fine;
      whole = ap (λ (n : ℕ). eqb n 14) (remark-same code _ (λ a b n s ks. refl) o) ∙ no.0;
      passes = (wants_remark _ o (known d) ∙ ap (wants_met o) w.same ∙ q, w.passes);
    }
    in
    let s : Stepped t (parallelize_sorts t) = step_steps t ready in
    record {
      same = ap₂ ◌∷◌ (s.same ∙ rebuilt_facts o (known d) ∙ ap (facts_op o) w.same) v.same;
      passes = pass_plant (parallelize_sorts t) (transform_up parallelize_sorts r) s.passes v.passes;
      fine = (s.fine, v.fine);
    }

pub parallelize-passes : (f : Plan) → Ok f → has_partial_sort f ≡ false → check f ≡ true → check (parallelize f) ≡ true
parallelize-passes f h p e = (parallelize_walks f h p e).passes

-- Every root's facts are unchanged, order and streams too
pub parallelize-facts : (f : Plan) → Ok f → has_partial_sort f ≡ false → check f ≡ true → facts (parallelize f) ≡ facts f
parallelize-facts f h p e = (parallelize_walks f h p e).same
