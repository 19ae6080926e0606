use Rattle.asked_facts.specs.Answers.{ordered_is}
use Rattle.asked_facts.proofs.is_ordered.Goals as goal

pub returns : goal.returns
returns c = ordered_is c.args.b.now c.requires
