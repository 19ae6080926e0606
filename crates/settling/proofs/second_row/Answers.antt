use native.Mathlib.Omega.{arith}
use Rattle.arena.specs.Arena.{slot}
use Rattle.settling.specs.Settling.{shown}
use Rattle.plan_context.specs.Facts.{no_child}
use Rattle.settling.proofs.second_row.Goals as goal

pub child_count-requires : goal.child_count-requires
child_count-requires c = c.requires.0.room

pub child_row-requires : goal.child_row-requires
child_row-requires c = let n = (shown c.args.m.now c.args.i c.requires.0).count in
    let e = c.child_count.ensures in let t = c.if-child_count-gt1.true in (c.requires.0, omega arith)

pub returns-else-child_count-gt1 : goal.returns-else-child_count-gt1
returns-else-child_count-gt1 c = let n = (shown c.args.m.now c.args.i c.requires.0).count in
    let e = c.child_count.ensures in let t = c.if-child_count-gt1.false in let r = c.child_row-else-child_count-gt1.ensures in
    (r.0, no_child c.args.m.now (slot c.args.m.now c.args.i).kids 1 _ (omega arith) r.1.usable)
