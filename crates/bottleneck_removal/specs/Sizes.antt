-- Taking bottlenecks out makes no tree larger.
use Rattle.std.specs.Prelude.{Bool, true, false, cond, not, ◌&&◌, ℕ, suc, ◌≤◌}
use Rattle.std.proofs.Common.{arith}
use Rattle.plan.specs.Forest.{Forest, none, tree, size}
use Rattle.plan.specs.Op.{Op}
use Rattle.semantics.specs.Properties.{singles}
use Rattle.walks.specs.Marks.{Marked, Tree, at, size_t, kid0, rebuild, shape}
use Rattle.walks.specs.ParallelizeSorts.{bottleneck, first_is, idle, lift_first, remove_bottleneck_in_subplan_impl, first_bottleneck_removed, same_partitioning, without_idle, skip_same}
use Rattle.walks.proofs.Theorems.Calls.Counts.{cond_le}

pub skip_size : (o : Op) (d : Tree) (c : Forest Marked) → size c ≤ size d.kids → size_t (skip_same o d c) ≤ size_t d
skip_size o d none h = omega arith
skip_size o d (tree m c r) h = let x = skip_size o (at m c) c (omega arith) in
    cond_le (size_t d) (same_partitioning o m.op) (skip_same o (at m c) c) (at m c) (omega arith) (omega arith)

pub lift_size : (o : Op) (c : Forest Marked) → size (lift_first o c) ≤ size c
lift_size o none = omega arith
lift_size o (tree m c r) = let x = skip_size o (at m c) c (omega arith) in omega arith

first_removed_size : (x : Bool) (o : Op) (c d : Forest Marked) → size d ≤ size c → size (first_bottleneck_removed x o c d) ≤ size c
first_removed_size x o c d h = go (first_is bottleneck c && x)
  where
    go : (y : Bool) → size (cond y (lift_first o c) d) ≤ size c
    go true = lift_size o c
    go false = h

idle-size : (m : Marked) (d : Forest Marked) → size_t (without_idle m d) ≤ suc (size d)
idle-size m d = cond_le (suc (size d)) (idle (shape m.op) m.op d) (kid0 (rebuild m.op m.mark d) d) (rebuild m.op m.mark d) (first d)
    (omega arith)
  where
    first : (e : Forest Marked) → size_t (kid0 (rebuild m.op m.mark e) e) ≤ suc (size e)
    first none = omega arith
    first (tree j c r) = omega arith

-- the tree t, opened
pub one_size : (q : Bool) (m : Marked) (c d : Forest Marked) → size d ≤ size c
    → size_t (cond (m.mark && q) (without_idle m (first_bottleneck_removed (not (singles m.op 0)) m.op c d)) (at m c)) ≤ suc (size c)
one_size q m c d h =
    let x = idle-size m (first_bottleneck_removed (not (singles m.op 0)) m.op c d) in
    let y = first_removed_size (not (singles m.op 0)) m.op c d h in
    cond_le (suc (size c)) (m.mark && q) (without_idle m (first_bottleneck_removed (not (singles m.op 0)) m.op c d)) (at m c) (omega arith)
    (omega arith)

pub each_size : (q : ℕ → Bool) (c : Forest Marked) → size (remove_bottleneck_in_subplan_impl q c) ≤ size c
each_size q none = omega arith
each_size q (tree m c r) =
    let x = one_size (q 0) m c (remove_bottleneck_in_subplan_impl (λ i. not (singles m.op i)) c) (each_size (λ i. not (singles m.op i)) c) in
    let y = each_size (λ i. q (suc i)) r in omega arith
