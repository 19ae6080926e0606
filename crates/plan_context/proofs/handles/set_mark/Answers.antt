use native.Mathlib.Omega.{arith}
use Rattle.plan_context.specs.Handles.{marks, num_small}
use Rattle.plan_context.proofs.handles.set_mark.Goals as goal

pub overflow_add-result : goal.overflow_add-result
overflow_add-result c = let h = c.requires in let n = num_small c.args.b in omega arith

pub returns : goal.returns
returns c = marks c.args.h c.args.b
