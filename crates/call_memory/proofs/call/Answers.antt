use native.Mathlib.Omega.{arith}
use mathlib.Core.Path.{ap, ◌∙◌}
use Rattle.plan.specs.Numbers.{number_of}
use Rattle.plan_format.specs.Blocks.{block_count}
use Rattle.plan_calls.specs.Results.{result_of}
use Rattle.call_memory.specs.Memory.{inside, outside}
use Rattle.call_memory.proofs.call.Goals as goal

pub returns-then-blocks : goal.returns-then-blocks
returns-then-blocks c = outside (result_of c.args.k) c.args.plan.now c.args.out.now _ (c.number_of.ensures ∙ ap number_of c.refusal_of.ensures) c.if-blocks.true

pub overflow_sub-last : goal.overflow_sub-last
overflow_sub-last c = let i = (inside (block_count c.args.plan.now) c.if-blocks.false).0 in omega arith

pub bounds-plan-blocks : goal.bounds-plan-blocks
bounds-plan-blocks c = let i = (inside (block_count c.args.plan.now) c.if-blocks.false).0 in omega arith

pub first_slots-requires : goal.first_slots-requires
first_slots-requires c = inside _ c.if-blocks.false

pub climb-requires : goal.climb-requires
climb-requires c = let i = inside _ c.if-blocks.false in (i.0, i.1, c.first_slots.ensures)
