use Rattle.wanted_inputs.specs.Wanted.{keyed_by}
use Rattle.wanted_inputs.proofs.distribution_from.Goals as goal

pub returns : goal.returns
returns c = keyed_by c.args.role c.args.set c.if-role-eq0.false c.if-role-eq1.false
