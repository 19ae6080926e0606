use Rattle.push_requirements.specs.Answers.{alike}
use Rattle.child_requirements.proofs.handle_custom_pushdown.Goals as goal

pub returns : goal.returns
returns c = λ m. alike m _ _ c.order_of-order.ensures
