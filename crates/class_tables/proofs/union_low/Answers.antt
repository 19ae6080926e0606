use native.Mathlib.Omega.{arith}
use mathlib.Core.Path.{◌≡◌, sym, ◌∙◌}
use Rattle.class_tables.specs.Tables.{alike_at}
use borrow.Author.Count.{below_none, below_more}
use Rattle.semantics.proofs.Theorems.Common.Lowest.{lowest_none}
use Rattle.class_tables.specs.Lowest.{lowest_at}
use Rattle.class_tables.proofs.union_low.Goals as goal

pub loop-i-init : goal.loop-i-init
loop-i-init c = (below_none _)

pub returns-then-alike : goal.returns-then-alike
returns-then-alike c = let s = c.args in let l = c.loop-i in
    sym (lowest_at (alike_at s.a.now s.b.now s.c) s.c l.i c.loop-i-test.true l.invariant
    (sym c.alike.ensures ∙ c.if-alike.true))

pub loop-i-preserved : goal.loop-i-preserved
loop-i-preserved c = let l = c.loop-i in (below_more _ _ l.invariant (sym c.alike.ensures ∙ c.if-alike.false))

pub returns : goal.returns
returns c = let s = c.args in let l = c.loop-i in let e : l.i ≡ s.c = omega arith in let n = l.invariant in
    sym (lowest_none (alike_at s.a.now s.b.now s.c) s.c (rw e at n))
