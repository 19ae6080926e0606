use mathlib.Core.Path.{sym, ap}
use Rattle.scan.specs.Words.{value}
use Rattle.record_lists.specs.Slots.{forbidden}
use Rattle.record_lists.proofs.keys.no_options.Goals as goal

pub returns-then-plain : goal.returns-then-plain
returns-then-plain c = ap (λ p. value (forbidden p 4)) (sym c.if-plain.true)

pub returns : goal.returns
returns c = ap (λ p. value (forbidden p 4)) (sym c.if-plain.false)
