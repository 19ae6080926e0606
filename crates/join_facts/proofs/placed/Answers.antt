use Rattle.join_facts.specs.Placing.{says-placed}
use Rattle.join_facts.proofs.placed.Goals as goal

pub returns : goal.returns
returns c = says-placed c.args.f c.requires.0 c.args.n c.requires.1
