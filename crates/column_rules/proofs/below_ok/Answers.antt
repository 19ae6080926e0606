use native.Mathlib.Omega.{arith}
use lib.Dec.{ltb}
use lib.ListN.{length, get_or}
use borrow.Author.Tests.{lt-ltb, le-ltb}
use Rattle.plan_format.specs.LastPass.{below_ok}
use Rattle.scan.specs.Below.{all_none, all_more, all_fail, all_end}
use Rattle.column_rules.proofs.below_ok.Goals as goal

pub loop-x-init : goal.loop-x-init
loop-x-init c = all_none _

pub returns-then-limit-x : goal.returns-then-limit-x
unfolding below_ok
returns-then-limit-x c = let b = c.args.l.now in let k = c.loop-x.x-index in
    all_fail (λ i. ltb (get_or b i 0) c.args.limit) k (length b) c.loop-x-test.true
    (le-ltb (get_or b k 0) c.args.limit c.if-limit-x.true)

pub loop-x-preserved : goal.loop-x-preserved
loop-x-preserved c = let b = c.args.l.now in let l = c.loop-x in let k = l.x-index in
    all_more (λ i. ltb (get_or b i 0) c.args.limit) k l.invariant (lt-ltb (get_or b k 0) c.args.limit c.if-limit-x.false)

pub returns : goal.returns
unfolding below_ok
returns c = let b = c.args.l.now in let l = c.loop-x in
    all_end (λ i. ltb (get_or b i 0) c.args.limit) l.x-index (length b) (omega arith) c.loop-x-test.false l.invariant
