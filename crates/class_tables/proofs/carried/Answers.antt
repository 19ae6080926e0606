use native.Mathlib.Omega.{arith}
use mathlib.Core.Path.{◌≡◌, sym, ◌∙◌, ap}
use Rattle.class_tables.specs.Tables.{carries}
use lib.Dec.{eqb}
use borrow.Author.Count.{below_none, below_more}
use borrow.Author.Tests.{eq-eqb, ne_eqb}
use Rattle.semantics.proofs.Theorems.Common.Lowest.{lowest_none}
use Rattle.class_tables.specs.Lowest.{lowest_at}
use Rattle.class_tables.proofs.carried.Goals as goal

pub loop-j-init : goal.loop-j-init
loop-j-init c = (below_none _)

pub low-requires : goal.low-requires
low-requires c = c.requires.0 c.loop-j.j

pub returns-then-low-class : goal.returns-then-low-class
returns-then-low-class c = let s = c.args in let l = c.loop-j in
    sym (lowest_at (carries s.table.now s.cols.now s.class) s.n l.j c.loop-j-test.true l.invariant
    (ap (λ x. eqb x s.class) (sym c.low.ensures) ∙ eq-eqb _ _ c.if-low-class.true))

pub loop-j-preserved : goal.loop-j-preserved
loop-j-preserved c = let s = c.args in let l = c.loop-j in
    (below_more _ _ l.invariant (ap (λ x. eqb x s.class) (sym c.low.ensures) ∙ ne_eqb _ _ c.if-low-class.false))

pub returns : goal.returns
returns c = let s = c.args in let l = c.loop-j in let e : l.j ≡ s.n = omega arith in let n = l.invariant in
    sym (lowest_none (carries s.table.now s.cols.now s.class) s.n (rw e at n))
