-- A subplan that is opened, its coalesces and idle repartitions taken out, still passes the order check, and each node's facts are wider.
use Rattle.std.specs.Prelude.{◌≡◌, refl, Bool, true, false, cond, not, ◌&&◌, ◌||◌, ◌⊎◌, List, [], ◌∷◌, ℕ, suc, ◌<◌, eqb, ltb}
use Rattle.std.proofs.Common.{sym, ap, ap₂, ◌∙◌, subst, inl, inr, arith, eqb-true}
use Rattle.row_order.specs.Iso.{Key}
use Rattle.row_order.proofs.Order.{no_bool}
use Rattle.row_order.specs.Lists.{All}
use Rattle.plan.specs.Forest.{Forest, none, tree}
use Rattle.plan.specs.Op.{coalesce, filter, global_limit, hash_join, local_limit, merge_op, Op, output_requirement, partial_sort, aggregate, projection, repartition, sort_merge_join, sort_op, source, union}
use Rattle.plan.specs.Numbers.{code}
use Rattle.semantics.specs.Facts.{at0, Facts, facts_op, is_nil, keeps_order, ordered}
use Rattle.semantics.specs.Properties.{rebuilt, singles}
use Rattle.semantics.specs.Check.{check, wants_met}
use Rattle.semantics.specs.Runs.{Each, each_cons, each_nil}
use Rattle.semantics.proofs.Theorems.Common.Bools.{and_left, and_right, or_cases}
use Rattle.semantics.proofs.Theorems.Facts.StreamCounts.{streams_some}
use Rattle.walks.specs.Marks.{a_repartition, at, fact, kid0, known, Marked, op_t, plant, rebuild, Shape, shape, strip, Tree}
use Rattle.walks.specs.ParallelizeSorts.{bottleneck, eq_partitioning, first_is, idle, lift_first, remove_bottleneck_in_subplan_impl, first_bottleneck_removed, parted, partitioning, same_partitioning, without_idle, skip_same}
use Rattle.walks.specs.Trees.{arity, count, Fit, FitsA, Ok}
use Rattle.walks.proofs.Theorems.Common.Trees.{ok_to}
use Rattle.walks.proofs.Theorems.Common.Keeps.{Keeps, KeepsAll, shape_ind}
use Rattle.walks.proofs.Theorems.Parallelize.Kept.{bottleneck-pass, remove_bottleneck_in_subplan_impl_kept, first_removed_kept, skip_kept}
use Rattle.walks.proofs.Theorems.Common.OrderMet.{wants_remark}
use Rattle.walks.proofs.Theorems.Common.Wider.{Front, front_nil, nth_wider, op_wider, Some, Stays, wants_wider, Wider, wider_refl}

-- ---- one tree passes
abbrev pub PassT : Tree → Type 0
PassT t = (wants_met (op_t t) (known t.kids) ≡ true) × (check (strip t.kids) ≡ true)

pub pass_plant : (t : Tree) (r : Forest Marked) → PassT t → check (strip r) ≡ true → check (strip (plant t r)) ≡ true
pass_plant t r h e = ap₂ ◌&&◌ h.0 (ap₂ ◌&&◌ h.1 e)

first_pass : (m : Marked) (c r : Forest Marked) → check (strip (tree m c r)) ≡ true → PassT (at m c)
first_pass m c r e = (search and_left, search (and_left, and_right))

rest_pass : (m : Marked) (c r : Forest Marked) → check (strip (tree m c r)) ≡ true → check (strip r) ≡ true
rest_pass m c r e = search (and_left, and_right)

pub kid_pass : (d : Tree) (c : Forest Marked) → count (strip c) ≡ 1 → check (strip c) ≡ true → PassT (kid0 d c)
kid_pass d none n e = absurd (omega arith)
kid_pass d (tree m c r) n e = first_pass m c r e

-- ---- the marks: a connected node is no sort of one stream, and no partial sort
abbrev pub MarksStay : Forest Marked → Type 0
MarksStay none = Unit {0}
MarksStay (tree m c r) = (m.mark ≡ true → Stays m.op (known c) × MarksStay c) × MarksStay r

abbrev pub FineT : Tree → Type 0
FineT t = t.top.mark ≡ true → Stays (op_t t) (known t.kids) × MarksStay t.kids

-- ---- rebuilding changes no facts
pub rebuilt_facts : (o : Op) (fs : List Facts) → facts_op (rebuilt o fs) fs ≡ facts_op o fs
rebuilt_facts (source s) fs = refl
rebuilt_facts filter fs = refl
rebuilt_facts (projection cols) fs = refl
rebuilt_facts union fs = refl
rebuilt_facts (repartition p n h ks) fs = ap (λ (b : Bool). ordered (at0 fs) n (cond b (at0 fs).order []))
    (same (eqb (at0 fs).streams 1) p (not (is_nil (at0 fs).order) && ltb 1 (at0 fs).streams))
  where
    same : (a p x : Bool) → a || ((p && x) && x) ≡ a || (p && x)
    same true p x = refl
    same false true true = refl
    same false true false = refl
    same false false x = refl
rebuilt_facts (coalesce f) fs = refl
rebuilt_facts (sort_op p ks f) fs = refl
rebuilt_facts (merge_op ks f) fs = refl
rebuilt_facts (global_limit s f note) fs = refl
rebuilt_facts (local_limit f note) fs = refl
rebuilt_facts (sort_merge_join t on) fs = refl
rebuilt_facts (hash_join t on) fs = refl
rebuilt_facts (output_requirement ks d f) fs = refl
rebuilt_facts (partial_sort p ks n f) fs = refl
rebuilt_facts (aggregate ks n) fs = refl

-- and what is rebuilt stays
pub rebuilt_twice : (o : Op) (fs : List Facts) → rebuilt (rebuilt o fs) fs ≡ rebuilt o fs
rebuilt_twice (source s) fs = refl
rebuilt_twice filter fs = refl
rebuilt_twice (projection cols) fs = refl
rebuilt_twice union fs = refl
rebuilt_twice (repartition p n h ks) fs = ap (λ (b : Bool). repartition b n h ks) (same p (not (is_nil (at0 fs).order) && ltb 1 (at0 fs).streams))
  where
    same : (a x : Bool) → (a && x) && x ≡ a && x
    same true true = refl
    same true false = refl
    same false x = refl
rebuilt_twice (coalesce f) fs = refl
rebuilt_twice (sort_op p ks f) fs = refl
rebuilt_twice (merge_op ks f) fs = refl
rebuilt_twice (global_limit s f note) fs = refl
rebuilt_twice (local_limit f note) fs = refl
rebuilt_twice (sort_merge_join t on) fs = refl
rebuilt_twice (hash_join t on) fs = refl
rebuilt_twice (output_requirement ks d f) fs = refl
rebuilt_twice (partial_sort p ks n f) fs = refl
rebuilt_twice (aggregate ks n) fs = refl

-- ---- a subplan opened
pub record Widened (c d : Forest Marked) : Type 0 where
  pub wider : Each Wider (known c) (known d)
  pub passes : check (strip d) ≡ true

record WidenedT (t u : Tree) : Type 0 where
  wider : Wider (fact t) (fact u)
  passes : PassT u

same_each : (fs : List Facts) → Each Wider fs fs
same_each [] = each_nil
same_each (F ∷ fs) = each_cons (wider_refl F) (same_each fs)

-- ---- a coalesce gives its place to what stands below it
skip_pass : (o : Op) (d : Tree) (c : Forest Marked) → PassT d → check (strip c) ≡ true → PassT (skip_same o d c)
skip_pass o d none h e = h
skip_pass o d (tree m c r) h e = go (same_partitioning o m.op) (skip_pass o (at m c) c (first_pass m c r e) (first_pass m c r e).1)
  where
    go : (b : Bool) → PassT (skip_same o (at m c) c) → PassT (cond b (skip_same o (at m c) c) (at m c))
    go true ih = ih
    go false ih = first_pass m c r e

coalesce_facts : (o : Op) (fs : List Facts) → eqb (code o) 6 ≡ true → ((facts_op o fs).streams ≡ 1) × ((facts_op o fs).order ≡ [])
coalesce_facts (source s) fs e = no_bool e
coalesce_facts filter fs e = no_bool e
coalesce_facts (projection cols) fs e = no_bool e
coalesce_facts union fs e = no_bool e
coalesce_facts (repartition p n h ks) fs e = no_bool e
coalesce_facts (coalesce f) fs e = (refl, refl)
coalesce_facts (sort_op p ks f) fs e = no_bool e
coalesce_facts (merge_op ks f) fs e = no_bool e
coalesce_facts (global_limit s f note) fs e = no_bool e
coalesce_facts (local_limit f note) fs e = no_bool e
coalesce_facts (sort_merge_join t on) fs e = no_bool e
coalesce_facts (hash_join t on) fs e = no_bool e
coalesce_facts (output_requirement ks d f) fs e = no_bool e
coalesce_facts (partial_sort p ks n f) fs e = no_bool e
coalesce_facts (aggregate ks n) fs e = no_bool e

lift_opens : (o : Op) (c : Forest Marked) → first_is bottleneck c ≡ true → Fit (strip c) → check (strip c) ≡ true → Widened c (lift_first o c)
lift_opens o none b f e = record { wider = each_nil; passes = refl }
lift_opens o (tree m c r) b f e =
    let h : PassT (at m c) = first_pass m c r e in
    let x : Tree = skip_same o (at m c) c in
    let k : Keeps false true true (at m c) x = skip_kept o m.op m.mark c (bottleneck-pass m.op b) f.0 f.1 in
    let z = coalesce_facts m.op (known c) (search and_left) in
    record {
      wider = each_cons (record {
        base = k.base;
        order = subst (λ (l : List Key). Front l (fact x).order) (sym z.1) front_nil;
        alone = λ _. inl z.1;
        several = λ (l : 1 < (facts_op m.op (known c)).streams). absurd (omega (arith, z.0));
      }) (same_each (known r));
      passes = pass_plant x r (skip_pass o (at m c) c h h.1) (rest_pass m c r e);
    }

pub first_removed_opens : (x : Bool) (o : Op) (c d : Forest Marked) → Fit (strip c) → check (strip c) ≡ true → Widened c d
    → Widened c (first_bottleneck_removed x o c d)
first_removed_opens x o c d f e k = go (first_is bottleneck c) refl x
  where
    go : (y : Bool) → first_is bottleneck c ≡ y → (z : Bool) → Widened c (cond (y && z) (lift_first o c) d)
    go true q true = lift_opens o c q f e
    go true q false = k
    go false q z = k

-- ---- a node put back over opened children
same_streams : (p : Bool) (n : ℕ) (h : Bool) (ks : List Key) (o : Op) (fs : List Facts) → same_partitioning (repartition p n h ks) o ≡ true
    → (facts_op o fs).streams ≡ n
same_streams p n h ks o fs =
    shape_ind (λ x. same_partitioning (repartition p n h ks) x ≡ true → (facts_op x fs).streams ≡ n)
    (λ q l f e. no_bool e)
    (λ l f e. no_bool e)
    (λ q m g l e. sym (eqb-true n m (search and_left)))
    (λ f e. no_bool e)
    (λ x s e. no_bool (ap (λ (z : Shape). eq_partitioning (parted n h ks) (partitioning z)) (sym s) ∙ e))
    o

idle_streams : (p : Bool) (n : ℕ) (h : Bool) (ks : List Key) (d : Forest Marked) → idle (a_repartition p n h ks) (repartition p n h ks) d ≡ true
    → (at0 (known d)).streams ≡ n
idle_streams p n h ks d e = go (or_cases (not h && eqb n (at0 (known d)).streams) (first_is (same_partitioning (repartition p n h ks)) d) e)
  where
    first : (c : Forest Marked) → first_is (same_partitioning (repartition p n h ks)) c ≡ true → (at0 (known c)).streams ≡ n
    first none q = no_bool q
    first (tree m c r) q = same_streams p n h ks m.op (known c) q

    go : (not h && eqb n (at0 (known d)).streams ≡ true) ⊎ (first_is (same_partitioning (repartition p n h ks)) d ≡ true) → (at0 (known d)).streams ≡ n
    go (inl q) = sym (eqb-true n (at0 (known d)).streams (and_right (not h) (eqb n (at0 (known d)).streams) q))
    go (inr q) = first d q

idle-wider : (p : Bool) (n : ℕ) (F G : Facts) → Wider F G → G.streams ≡ n → Wider (ordered F n (cond (keeps_order p F) F.order [])) G
idle-wider p n F G w e = record { base = w.base; order = go (keeps_order p F); alone = λ q. inr (e ∙ q); several = λ l. subst (λ (m : ℕ). 1 < m) (sym e) l }
  where
    go : (b : Bool) → Front (cond b F.order []) G.order
    go true = w.order
    go false = front_nil

first-fact : (d : Tree) (c : Forest Marked) → count (strip c) ≡ 1 → fact (kid0 d c) ≡ at0 (known c)
first-fact d none n = absurd (omega arith)
first-fact d (tree m c r) n = refl

-- a repartition that is idle now
abbrev Gone : Forest Marked → Forest Marked → Op → Type 0
Gone c d o = FitsA (arity o) (count (strip c)) → idle (shape o) o d ≡ true → Wider (facts_op o (known c)) (at0 (known d)) × (count (strip d) ≡ 1)

idle_opens : (m : Marked) (c d : Forest Marked) → FitsA (arity m.op) (count (strip c)) → KeepsAll false true true c d → All Some (known c)
    → All Some (known d) → Stays m.op (known c) → wants_met m.op (known c) ≡ true → Widened c d → WidenedT (at m c) (without_idle m d)
idle_opens m c d f k hs ks st e op = go (idle (shape m.op) m.op d) refl
  where
    t : Tree
    t = rebuild m.op m.mark d

    over_opened : Wider (facts_op m.op (known c)) (fact t)
    over_opened = subst (Wider (facts_op m.op (known c))) (sym (rebuilt_facts m.op (known d))) (op_wider op.wider hs ks m.op st)

    gone : (o : Op) → Gone c d o
    gone =
        shape_ind (Gone c d)
        (λ p ks f n q. no_bool q)
        (λ ks f n q. no_bool q)
        (λ p j h ks n q. (idle-wider p j (at0 (known c)) (at0 (known d)) (nth_wider op.wider 0) (idle_streams p j h ks d q), k.same ∙ n))
        (λ f n q. no_bool q)
        (λ o s n q. no_bool (ap (λ (z : Shape). idle z o d) (sym s) ∙ q))

    go : (y : Bool) → idle (shape m.op) m.op d ≡ y → WidenedT (at m c) (cond y (kid0 t d) t)
    go true q = let g = gone m.op f q in
        record { wider = subst (Wider (facts_op m.op (known c))) (sym (first-fact t d g.1)) g.0; passes = kid_pass t d g.1 op.passes }
    go false q = record { wider = over_opened; passes = (wants_remark _ m.op (known d) ∙ wants_wider m.op op.wider e, op.passes) }

some_known : (c : Forest Marked) → Ok (strip c) → All Some (known c)
some_known c h = streams_some (strip c) (ok_to (strip c) h)

open_node : (m : Marked) (c d : Forest Marked) (b : Bool) → FitsA (arity m.op) (count (strip c)) → Ok (strip c) → KeepsAll false true true c d
    → (m.mark ≡ true → Stays m.op (known c) × Widened c d) → PassT (at m c) → WidenedT (at m c) (cond (m.mark && b) (without_idle m d) (at m c))
open_node m c d b f h k s p = go m.mark refl b
  where
    as_it_was : WidenedT (at m c) (at m c)
    as_it_was = record { wider = wider_refl (fact (at m c)); passes = p }

    go : (x : Bool) → m.mark ≡ x → (y : Bool) → WidenedT (at m c) (cond (x && y) (without_idle m d) (at m c))
    go true e true = let v = s e in idle_opens m c d f k (some_known c h) (some_known d (k.ok refl h)) v.0 p.0 v.1
    go true e false = as_it_was
    go false e y = as_it_was

pub open_each_opens : (q : ℕ → Bool) (c : Forest Marked) → Fit (strip c) → Ok (strip c) → MarksStay c → check (strip c) ≡ true
    → Widened c (remove_bottleneck_in_subplan_impl q c)
open_each_opens q none f h n e = record { wider = each_nil; passes = refl }
open_each_opens q (tree m c r) f h n e =
    let x : Bool = not (singles m.op 0) in
    let o : Forest Marked = remove_bottleneck_in_subplan_impl (λ i. not (singles m.op i)) c in
    let d : Forest Marked = first_bottleneck_removed x m.op c o in
    let k : KeepsAll false true true c d = first_removed_kept x m.op c o f.1
    (remove_bottleneck_in_subplan_impl_kept (λ i. not (singles m.op i)) c f.1) in
    let p : PassT (at m c) = first_pass m c r e in
    let here : WidenedT (at m c) (cond (m.mark && q 0) (without_idle m d) (at m c)) = open_node m c d (q 0) f.0 h.1 k (λ i. let y = n.0 i in
    (y.0, first_removed_opens x m.op c o f.1 p.1 (open_each_opens (λ i. not (singles m.op i)) c f.1 h.1 y.1 p.1))) p in
    let rest : Widened r (remove_bottleneck_in_subplan_impl (λ i. q (suc i)) r) = open_each_opens (λ i. q (suc i)) r f.2 h.2 n.1 (rest_pass m c r e) in
    record {
      wider = each_cons here.wider rest.wider;
      passes = pass_plant (cond (m.mark && q 0) (without_idle m d) (at m c))
          (remove_bottleneck_in_subplan_impl (λ i. q (suc i)) r) here.passes rest.passes;
    }
