use native.Mathlib.Omega.{arith}
use Rattle.key_lists.specs.Keys.{order_of}
use Rattle.push_steps.specs.Stepping.{some_le, count_is}
use Rattle.push_steps.proofs.new_count.Goals as goal

pub overflow_add-result : goal.overflow_add-result
overflow_add-result c = let t = c.args.t in
    omega (arith, c.one_of.ensures, c.one_of-2.ensures, some_le (order_of t.merge), some_le (order_of t.sort))

pub returns : goal.returns
returns c = let t = c.args.t in (
  count_is t _ _ c.one_of.ensures c.one_of-2.ensures,
  omega (arith, c.one_of.ensures, c.one_of-2.ensures, some_le (order_of t.merge), some_le (order_of t.sort)),
)
