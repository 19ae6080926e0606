use native.Mathlib.Omega.{arith}
use Prim.Native.Nat.{◌/◌}
use Rattle.plan_context.specs.Laws.{here}
use Rattle.step_ends.proofs.end_step.Goals as goal

pub nodes-k-requires : goal.nodes-k-requires
nodes-k-requires c = let p = c.requires in here _ _ _ p.arena p.here

pub overflow_add-total : goal.overflow_add-total
overflow_add-total c = let p = c.requires in let h = p.here in
    let f = (p.arena.all (c.args.s.root / 2) (omega arith)).proper.few in let e = c.nodes-k.ensures in let y = p.many in omega arith
