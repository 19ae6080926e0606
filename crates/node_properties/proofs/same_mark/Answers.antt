use Rattle.node_properties.specs.Partitionings.{same_true}
use Rattle.node_properties.proofs.same_mark.Goals as goal

pub returns-then-a : goal.returns-then-a
returns-then-a c = same_true c.args.a c.args.b c.if-a.true
