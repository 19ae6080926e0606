use native.Mathlib.Omega.{arith}
use mathlib.Core.Path.{refl, subst}
use Prim.Native.Nat.{◌+◌, ◌≤◌}
use Rattle.row_order.specs.Lists.{All}
use Rattle.row_order.specs.ListLaws.{all_map}
use Rattle.plan.specs.WellFormed.{join_width}
use Rattle.plan.specs.declared.JoinType.{JoinType}
use Rattle.key_lists.specs.Keys.{keys_of}
use Rattle.join_orders.proofs.right_order.Goals as goal

pub moved_order-requires : goal.moved_order-requires
moved_order-requires c = (
  c.requires.0,
  all_map (λ k l. omega arith) (subst (λ (t : JoinType). All (λ k. join_width t c.args.w (k.col + 1) ≤ 32) (keys_of c.args.keys))
      c.in-Inner.is c.requires.1),
  c.requires.2,
)

pub moved_order-requires-in-Right : goal.moved_order-requires-in-Right
moved_order-requires-in-Right c = (
  c.requires.0,
  all_map (λ k l. omega arith) (subst (λ (t : JoinType). All (λ k. join_width t c.args.w (k.col + 1) ≤ 32) (keys_of c.args.keys))
      c.in-Right.is c.requires.1),
  c.requires.2,
)

pub returns-in-Inner : goal.returns-in-Inner
returns-in-Inner c = rw c.in-Inner.is c.moved_order.ensures

pub returns-in-Left : goal.returns-in-Left
returns-in-Left c = rw c.in-Left.is c.no_keys.ensures.0

pub returns-in-Right : goal.returns-in-Right
returns-in-Right c = rw c.in-Right.is c.moved_order-in-Right.ensures

pub returns-in-Full : goal.returns-in-Full
returns-in-Full c = rw c.in-Full.is c.no_keys-in-Full.ensures.0

pub returns-in-LeftSemi : goal.returns-in-LeftSemi
returns-in-LeftSemi c = rw c.in-LeftSemi.is c.no_keys-in-LeftSemi.ensures.0

pub returns-in-LeftAnti : goal.returns-in-LeftAnti
returns-in-LeftAnti c = rw c.in-LeftAnti.is c.no_keys-in-LeftAnti.ensures.0

pub returns-in-RightSemi : goal.returns-in-RightSemi
returns-in-RightSemi c = rw c.in-RightSemi.is (record { is = refl; few = c.requires.2 })

pub returns-in-RightAnti : goal.returns-in-RightAnti
returns-in-RightAnti c = rw c.in-RightAnti.is (record { is = refl; few = c.requires.2 })
