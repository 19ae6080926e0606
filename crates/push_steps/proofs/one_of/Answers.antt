use Rattle.push_steps.specs.Stepping.{one-some}
use Rattle.push_steps.proofs.one_of.Goals as goal

pub returns : goal.returns
returns c = one-some c.args.o _ c.requires c.in-Some.is
