use lib.ListN.{get_or}
use Rattle.node_properties.specs.Fields.{masked}
use Rattle.node_properties.proofs.hash_mark.Goals as goal

pub returns : goal.returns
returns c = masked (get_or c.args.r.now 3 0) 1
