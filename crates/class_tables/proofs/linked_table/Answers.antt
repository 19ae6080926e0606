use native.Mathlib.Omega.{arith}
use mathlib.Core.Path.{◌≡◌}
use Rattle.class_tables.specs.Tables.{linked_low}
use Rattle.class_tables.specs.Filling.{filled_none, filled_more, read}
use Rattle.class_tables.proofs.linked_table.Goals as goal

pub loop-c-init : goal.loop-c-init
loop-c-init c = let s = c.args in (filled_none (linked_low s.table.now s.x s.y) c.alone-r.result c.alone-r.ensures)

pub loop-c-preserved : goal.loop-c-preserved
loop-c-preserved c = let s = c.args in let l = c.loop-c in
    filled_more (linked_low s.table.now s.x s.y) l.r l.c c.joined.result l.invariant (omega arith)
    (rw (← read s.table.now l.c (omega arith)) c.joined.ensures)

pub returns : goal.returns
returns c = let l = c.loop-c in let e : l.c ≡ c.args.width = omega arith in let h = l.invariant in rw e at h
