use Rattle.sort_pushdown.specs.Deciding.{other_child}
use Rattle.sort_pushdown.proofs.children.of_child.Goals as goal

pub returns : goal.returns
returns c = other_child c.args.reqs c.args.j c.if-j-eq0.false
