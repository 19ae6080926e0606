use native.Mathlib.Omega.{arith}
use mathlib.Core.Path.{refl, sym, ◌∙◌}
use mathlib.Core.Bool.{false}
use Prim.Native.Nat.{◌-◌}
use Rattle.sort_connection.specs.Standing.{view, slot_room}
use Rattle.sort_connection.specs.Connection.{maintains_unasked, any_next, free_found, free_none}
use Rattle.sort_connection.proofs.update_sort_ctx_children_data.any_maintained.Goals as goal

pub child_count-n-requires : goal.child_count-n-requires
child_count-n-requires c = slot_room c.args.m.now c.args.u c.args.h c.requires

pub loop-j-init : goal.loop-j-init
loop-j-init c = (c.child_count-n.ensures ∙ (view c.args.m.now c.args.u c.args.h c.requires).count, refl)

pub maintains_unasked-requires : goal.maintains_unasked-requires
maintains_unasked-requires c = let x = c.loop-j-test.true in let y = c.loop-j.invariant.0 in
    (c.requires, omega arith)

pub returns-then-maintains_unasked : goal.returns-then-maintains_unasked
returns-then-maintains_unasked c = let x = c.loop-j-test.true in
    let l = c.loop-j in let y = l.invariant.0 in
    free_found c.args.m.now c.args.u c.args.h c.requires l.j (omega arith) (sym c.maintains_unasked.ensures ∙ c.if-maintains_unasked.true)

pub loop-j-preserved : goal.loop-j-preserved
loop-j-preserved c = let x = c.loop-j-test.true in let l = c.loop-j in
    (l.invariant.0, any_next _ l.j l.invariant.1 (sym c.maintains_unasked.ensures ∙ c.if-maintains_unasked.false))

pub returns : goal.returns
returns c = let x = c.loop-j-test.false in let l = c.loop-j in let y = l.invariant.0 in
    free_none c.args.m.now c.args.u c.args.h c.requires l.j (omega arith) l.invariant.1
