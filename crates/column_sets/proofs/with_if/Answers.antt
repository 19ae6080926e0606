use mathlib.Core.Path.{refl}
use Rattle.column_sets.proofs.with_if.Goals as goal

pub returns-then-test : goal.returns-then-test
returns-then-test c = rw c.if-test.true c.with.ensures

pub returns-else-test : goal.returns-else-test
returns-else-test c = rw c.if-test.false (λ d. refl)
