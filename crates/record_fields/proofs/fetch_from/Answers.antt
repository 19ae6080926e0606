use borrow.Author.Tests.{eq-eqb, ne_eqb}
use mathlib.Core.Bool.{cond}
use mathlib.Core.Path.{ap, sym}
use Rattle.plan.specs.Numbers.{no_fetch}
use Rattle.std.specs.Prelude.{Some, None}
use Rattle.record_fields.proofs.fetch_from.Goals as goal

pub returns-then-n-eq-NO_FETCH : goal.returns-then-n-eq-NO_FETCH
returns-then-n-eq-NO_FETCH c = let n = c.args.n in sym (ap (λ b. cond b None (Some n)) (eq-eqb n no_fetch c.if-n-eq-NO_FETCH.true))

pub returns-else-n-eq-NO_FETCH : goal.returns-else-n-eq-NO_FETCH
returns-else-n-eq-NO_FETCH c = let n = c.args.n in sym (ap (λ b. cond b None (Some n)) (ne_eqb n no_fetch c.if-n-eq-NO_FETCH.false))
