use Rattle.key_lists.specs.Lists.{placed_is}
use Rattle.key_lists.proofs.placed.Goals as goal

pub returns : goal.returns
returns c = placed_is c.args.n c.args.key c.requires
