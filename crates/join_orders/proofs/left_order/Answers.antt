use mathlib.Core.Path.{refl}
use Rattle.join_orders.specs.Orders.{left_kept}
use Rattle.join_orders.proofs.left_order.Goals as goal

pub returns-in-Inner : goal.returns-in-Inner
returns-in-Inner c w a = rw c.in-Inner.is (left_kept c.args.keys w c.requires a)

pub returns-in-Left : goal.returns-in-Left
returns-in-Left c w a = rw c.in-Left.is (left_kept c.args.keys w c.requires a)

pub returns-in-Right : goal.returns-in-Right
returns-in-Right c w a = rw c.in-Right.is c.no_keys.ensures.0

pub returns-in-Full : goal.returns-in-Full
returns-in-Full c w a = rw c.in-Full.is c.no_keys-in-Full.ensures.0

pub returns-in-LeftSemi : goal.returns-in-LeftSemi
returns-in-LeftSemi c w a = rw c.in-LeftSemi.is (record { is = refl; few = c.requires })

pub returns-in-LeftAnti : goal.returns-in-LeftAnti
returns-in-LeftAnti c w a = rw c.in-LeftAnti.is (record { is = refl; few = c.requires })

pub returns-in-RightSemi : goal.returns-in-RightSemi
returns-in-RightSemi c w a = rw c.in-RightSemi.is c.no_keys-in-RightSemi.ensures.0

pub returns-in-RightAnti : goal.returns-in-RightAnti
returns-in-RightAnti c w a = rw c.in-RightAnti.is c.no_keys-in-RightAnti.ensures.0
