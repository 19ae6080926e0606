use native.Mathlib.Omega.{arith}
use Prim.Native.Nat.{◌+◌, ◌*◌}
use Rattle.scan.specs.Below.{all_none}
use Rattle.row_bytes.specs.Rows.{row_inside}
use Rattle.row_bytes.specs.Streams.{stream_in, stream_room}
use Rattle.row_bytes.specs.Constants.{agree_fails, agree_more, agree_end}
use Rattle.std.proofs.Common.{ap}
use Rattle.std.specs.Prelude.{not}
use Rattle.row_bytes.proofs.stream_agrees.Goals as goal

pub get32-n-requires : goal.get32-n-requires
get32-n-requires c = (stream_in c.args.s.now c.args.at c.args.w c.requires.3).0

pub loop-i-init : goal.loop-i-init
loop-i-init c = (all_none _)

pub overflow_add-at : goal.overflow_add-at
overflow_add-at c = let a = c.args in let r = stream_room a.s.now a.at a.w c.get32-n.result c.requires.3 c.get32-n.ensures in omega (arith, r.0)

pub overflow_mul-i : goal.overflow_mul-i
overflow_mul-i c = let a = c.args in let r = stream_room a.s.now a.at a.w c.get32-n.result c.requires.3 c.get32-n.ensures in omega (arith, r.1, row_inside c.loop-i.i c.get32-n.result (4 + 8 * a.w) (omega arith))

pub overflow_add-at-in-loop-i : goal.overflow_add-at-in-loop-i
overflow_add-at-in-loop-i c = let a = c.args in let r = stream_room a.s.now a.at a.w c.get32-n.result c.requires.3 c.get32-n.ensures in omega (arith, r.1, row_inside c.loop-i.i c.get32-n.result (4 + 8 * a.w) (omega arith))

pub same_cell-requires : goal.same_cell-requires
same_cell-requires c = let a = c.args in let r = stream_room a.s.now a.at a.w c.get32-n.result c.requires.3 c.get32-n.ensures in (omega arith, omega arith, omega (arith, r.1, row_inside c.loop-i.i c.get32-n.result (4 + 8 * a.w) (omega arith)))

pub returns-then-not-same_cell : goal.returns-then-not-same_cell
returns-then-not-same_cell c = let a = c.args in agree_fails a.s.now a.first a.at a.w a.c c.get32-n.result c.loop-i.i _ (omega arith) c.get32-n.ensures (omega arith) c.same_cell.ensures (ap not c.if-not-same_cell.true)

pub loop-i-preserved : goal.loop-i-preserved
loop-i-preserved c = let a = c.args in (agree_more a.s.now a.first a.at a.w a.c c.loop-i.i _ (omega arith) c.loop-i.invariant c.same_cell.ensures (ap not c.if-not-same_cell.false))

pub returns : goal.returns
returns c = let a = c.args in agree_end a.s.now a.first a.at a.w a.c c.get32-n.result c.loop-i.i c.get32-n.ensures (omega arith) (omega arith) c.loop-i.invariant
