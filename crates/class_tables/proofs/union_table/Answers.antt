use native.Mathlib.Omega.{arith}
use mathlib.Core.Path.{◌≡◌, ◌∙◌}
use Rattle.semantics.proofs.Theorems.Common.Lowest.{lowest_le}
use Rattle.class_tables.specs.Tables.{alike_at, union_low}
use Rattle.class_tables.specs.Filling.{filled_none, filled_more}
use Rattle.class_tables.proofs.union_table.Goals as goal

pub loop-c-init : goal.loop-c-init
loop-c-init c = let s = c.args in (filled_none (union_low s.a.now s.b.now) c.alone-r.result c.alone-r.ensures)

pub entry-requires : goal.entry-requires
entry-requires c = let s = c.args in let l = c.loop-c in let e = c.union_low.ensures in
    let z = lowest_le (alike_at s.a.now s.b.now l.c) l.c in omega arith

pub loop-c-preserved : goal.loop-c-preserved
loop-c-preserved c = let s = c.args in let l = c.loop-c in
    filled_more (union_low s.a.now s.b.now) l.r l.c c.entry.result l.invariant (omega arith)
    (c.entry.ensures ∙ c.union_low.ensures)

pub returns : goal.returns
returns c = let l = c.loop-c in let e : l.c ≡ c.args.width = omega arith in let h = l.invariant in rw e at h
