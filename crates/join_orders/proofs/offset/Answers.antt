use native.Mathlib.Omega.{arith}
use lib.IntN.{pos}
use mir.Syntax.{w64}
use mir.ValLaws.{to_z-of_z}
use Rattle.join_orders.proofs.offset.Goals as goal

pub returns : goal.returns
returns c = to_z-of_z w64 (pos c.args.w) (record { sfits = omega arith })
