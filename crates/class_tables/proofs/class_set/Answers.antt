use native.Mathlib.Omega.{arith}
use mathlib.Core.Path.{◌≡◌}
use Rattle.class_tables.specs.Tables.{in_classes}
use Rattle.column_sets.specs.Collecting.{collected_none, collected_next}
use Rattle.class_tables.proofs.class_set.Goals as goal

pub loop-c-init : goal.loop-c-init
loop-c-init c = let s = c.args in (collected_none (in_classes s.table.now s.x s.y))

pub loop-c-preserved : goal.loop-c-preserved
loop-c-preserved c = let s = c.args in let l = c.loop-c in
    collected_next (in_classes s.table.now s.x s.y) l.r l.c c.with_if-r.result l.invariant
    (rw (← c.low.ensures, ← c.one_of.ensures) c.with_if-r.ensures)

pub returns : goal.returns
returns c = let l = c.loop-c in let e : l.c ≡ c.args.width = omega arith in let h = l.invariant in rw e at h
