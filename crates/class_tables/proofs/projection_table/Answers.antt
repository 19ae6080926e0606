use native.Mathlib.Omega.{arith}
use mathlib.Core.Path.{◌≡◌, ◌∙◌}
use lib.ListN.{length}
use Rattle.semantics.proofs.Theorems.Common.Lowest.{lowest_le}
use Rattle.class_tables.specs.Tables.{carries, projection_low}
use Rattle.class_tables.specs.Filling.{filled_none, filled_more}
use Rattle.class_tables.proofs.projection_table.Goals as goal

pub loop-j-init : goal.loop-j-init
loop-j-init c = let s = c.args in
    (filled_none (projection_low s.table.now s.cols.now) c.alone-r.result c.alone-r.ensures)

pub low-requires : goal.low-requires
low-requires c = c.requires.0 c.loop-j.j

pub carried-requires : goal.carried-requires
carried-requires c = (c.requires.0, omega arith)

pub entry-requires : goal.entry-requires
entry-requires c = let s = c.args in let l = c.loop-j in
    let e = c.carried.ensures in let z = lowest_le (carries s.table.now s.cols.now c.low.result) l.j in omega arith

pub loop-j-preserved : goal.loop-j-preserved
loop-j-preserved c = let s = c.args in let l = c.loop-j in
    filled_more (projection_low s.table.now s.cols.now) l.r l.j c.entry.result l.invariant (omega arith)
    (c.entry.ensures ∙ rw (← c.low.ensures) c.carried.ensures)

pub returns : goal.returns
returns c = let l = c.loop-j in let e : l.j ≡ length c.args.cols.now = omega arith in let h = l.invariant in
    rw e at h
