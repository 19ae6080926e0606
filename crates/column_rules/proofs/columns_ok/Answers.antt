use mathlib.Core.Path.{sym, ◌∙◌}
use native.Mathlib.Omega.{arith}
use lib.ListN.{length}
use borrow.Author.Tests.{not-true, not-false}
use Rattle.plan_format.specs.LastPass.{column_ok, columns_ok}
use Rattle.scan.specs.Below.{all_none, all_more, all_fail, all_end}
use Rattle.std.proofs.Common.{ap}
use Rattle.std.specs.Prelude.{not}
use Rattle.column_rules.proofs.columns_ok.Goals as goal

pub loop-i-init : goal.loop-i-init
loop-i-init c = all_none _

pub returns-then-not-column_ok : goal.returns-then-not-column_ok
unfolding columns_ok
returns-then-not-column_ok c = let b = c.args.l.now in let k = c.loop-i.i in
    all_fail (column_ok b c.args.limit) k (length b) c.loop-i-test.true
    (sym c.column_ok.ensures ∙ not-true _ (ap not c.if-not-column_ok.true))

pub loop-i-preserved : goal.loop-i-preserved
loop-i-preserved c = let b = c.args.l.now in let l = c.loop-i in let k = l.i in
    all_more (column_ok b c.args.limit) k l.invariant (sym c.column_ok.ensures ∙ not-false _ (ap not c.if-not-column_ok.false))

pub returns : goal.returns
unfolding columns_ok
returns c = let b = c.args.l.now in let l = c.loop-i in
    all_end (column_ok b c.args.limit) l.i (length b) (omega arith) c.loop-i-test.false l.invariant
