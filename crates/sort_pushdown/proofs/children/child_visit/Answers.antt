use mathlib.Core.Path.{ap}
use Rattle.sort_pushdown.specs.Deciding.{child_is}
use Rattle.sort_pushdown.proofs.children.child_visit.Goals as goal

pub returns : goal.returns
returns c = (
  λ ts e. child_is c.args.d c.args.j c.args.own ts c.of_child-req.result c.fetch_for.result c.of_child-req.ensures
      c.fetch_for.ensures e,
  ap (λ q. q.order) c.of_child-req.ensures,
)
