use native.Mathlib.Omega.{arith}
use mathlib.Core.Path.{◌≡◌, sym, ap, ◌∙◌}
use Prim.Native.Nat.{ℕ}
use lib.Dec.{eqb}
use borrow.Author.Count.{below_none, below_more}
use borrow.Author.Tests.{eq-eqb, ne_eqb}
use Rattle.semantics.specs.Facts.{cl}
use Rattle.asked_facts.specs.Asked.{told}
use Rattle.join_sides.proofs.Searching.{here, nowhere}
use Rattle.join_sides.proofs.lowest_on_side.Goals as goal

pub loop-j-init : goal.loop-j-init
loop-j-init c = below_none _

pub lowest_equal-requires : goal.lowest_equal-requires
lowest_equal-requires c = (c.requires.0, (let p = c.requires.1 in omega (arith, c.loop-j-test.true)))

pub returns-then-lowest_equal-class : goal.returns-then-lowest_equal-class
returns-then-lowest_equal-class c = let s = c.args in let l = c.loop-j in
    here (cl (told s.own.now)) s.lo s.n s.class l.j c.loop-j-test.true l.invariant
    (ap (λ (x : ℕ). eqb x s.class) (sym c.lowest_equal.ensures.0) ∙ eq-eqb _ _ c.if-lowest_equal-class.true)

pub loop-j-preserved : goal.loop-j-preserved
loop-j-preserved c = let s = c.args in let l = c.loop-j in
    below_more _ _ l.invariant (ap (λ (x : ℕ). eqb x s.class) (sym c.lowest_equal.ensures.0) ∙ ne_eqb _ _ c.if-lowest_equal-class.false)

pub returns : goal.returns
returns c = let s = c.args in let l = c.loop-j in let e : l.j ≡ s.n = omega arith in let n = l.invariant in
    nowhere (cl (told s.own.now)) s.lo s.n s.class (rw e at n)
