use Rattle.wanted_inputs.specs.Wanted.{others_free}
use Rattle.wanted_inputs.proofs.left_single.Goals as goal

pub returns : goal.returns
returns c = others_free c.args.j c.if-j-eq0.false
