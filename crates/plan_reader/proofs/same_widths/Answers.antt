use mathlib.Core.Path.{sym, ◌∙◌}
use native.Mathlib.Omega.{arith}
use lib.Dec.{eqb}
use lib.ListN.{length, get_or}
use borrow.Author.Tests.{eq-eqb, ne_eqb}
use Rattle.plan_format.specs.LastPass.{same_widths}
use Rattle.scan.specs.Below.{all_none, all_more, all_fail, all_end}
use Rattle.plan_reader.proofs.same_widths.Goals as goal

pub loop-w-init : goal.loop-w-init
loop-w-init c = all_none _

pub returns-then-w-x : goal.returns-then-w-x
unfolding same_widths
returns-then-w-x c = let b = c.args.ws.now in let k = c.loop-w.w-index in
    all_fail (λ i. eqb (get_or b i 0) (get_or b 0 0)) k (length b) (omega arith)
    (ne_eqb (get_or b k 0) (get_or b 0 0) (λ e. c.if-w-x.true (e ∙ sym c.at_or_zero-x.ensures)))

pub loop-w-preserved : goal.loop-w-preserved
loop-w-preserved c = let b = c.args.ws.now in let l = c.loop-w in let k = l.w-index in
    all_more (λ i. eqb (get_or b i 0) (get_or b 0 0)) k l.invariant (eq-eqb (get_or b k 0) (get_or b 0 0) (c.if-w-x.false ∙ c.at_or_zero-x.ensures))

pub returns : goal.returns
unfolding same_widths
returns c = let b = c.args.ws.now in let l = c.loop-w in
    all_end (λ i. eqb (get_or b i 0) (get_or b 0 0)) l.w-index (length b) (omega arith) (omega arith) l.invariant
