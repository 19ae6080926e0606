use Rattle.asked_facts.specs.Answers.{lengths_are}
use Rattle.asked_facts.proofs.equally_long.Goals as goal

pub returns : goal.returns
returns c = lengths_are c.args.a.now c.args.b.now
