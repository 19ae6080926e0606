use native.Mathlib.Omega.{arith}
use mathlib.Core.Path.{◌≡◌}
use lib.ListN.{length, get_or}
use Rattle.row_order.specs.Packed.{bit}
use Rattle.column_sets.specs.Collecting.{collected_none, collected_next}
use Rattle.class_tables.proofs.projection_set.Goals as goal

pub loop-j-init : goal.loop-j-init
loop-j-init c = let s = c.args in (collected_none (λ k. bit s.set (get_or s.cols.now k 0)))

pub loop-j-preserved : goal.loop-j-preserved
loop-j-preserved c = let s = c.args in let l = c.loop-j in
    collected_next (λ k. bit s.set (get_or s.cols.now k 0)) l.r l.j c.with_if-r.result l.invariant
    (rw (← c.has.ensures) c.with_if-r.ensures)

pub returns : goal.returns
returns c = let l = c.loop-j in let e : l.j ≡ length c.args.cols.now = omega arith in let h = l.invariant in rw e at h
