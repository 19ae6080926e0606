use native.Mathlib.Omega.{arith}
use Prim.Native.Nat.{◌*◌, ◌+◌}
use Rattle.arena.specs.Held.{child_byte_lem}
use Rattle.arena.proofs.child_count.Goals as goal

pub overflow_cast-result : goal.overflow_cast-result
overflow_cast-result c = omega (arith, c.type_inv.m (c.args.i * 192 + 1))

pub returns : goal.returns
returns c = child_byte_lem c.args.m.now c.args.i
