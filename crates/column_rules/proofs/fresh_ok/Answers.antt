use mathlib.Core.Path.{ap}
use mathlib.Core.Bool.{not}
use native.Mathlib.Omega.{arith}
use lib.Dec.{eqb}
use lib.ListN.{get_or}
use borrow.Author.Tests.{eq-eqb, ne_eqb}
use Rattle.plan_format.specs.LastPass.{fresh_ok}
use Rattle.scan.specs.Below.{all_none, all_more, all_fail, all_end}
use Rattle.column_rules.proofs.fresh_ok.Goals as goal

pub loop-j-init : goal.loop-j-init
loop-j-init c = all_none _

pub returns-then-l-j : goal.returns-then-l-j
unfolding fresh_ok
returns-then-l-j c = let b = c.args.l.now in let k = c.loop-j.j in
    all_fail (λ j. not (eqb (get_or b j 0) (get_or b c.args.i 0))) k c.args.i c.loop-j-test.true
    (ap not (eq-eqb (get_or b k 0) (get_or b c.args.i 0) c.if-l-j.true))

pub loop-j-preserved : goal.loop-j-preserved
loop-j-preserved c = let b = c.args.l.now in let l = c.loop-j in let k = l.j in
    all_more (λ j. not (eqb (get_or b j 0) (get_or b c.args.i 0))) k l.invariant
    (ap not (ne_eqb (get_or b k 0) (get_or b c.args.i 0) c.if-l-j.false))

pub returns : goal.returns
unfolding fresh_ok
returns c = let b = c.args.l.now in let l = c.loop-j in
    all_end (λ j. not (eqb (get_or b j 0) (get_or b c.args.i 0))) l.j c.args.i (omega arith) c.loop-j-test.false l.invariant
