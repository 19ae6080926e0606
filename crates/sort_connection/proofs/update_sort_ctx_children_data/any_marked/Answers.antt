use native.Mathlib.Omega.{arith}
use mathlib.Core.Path.{refl, sym, ap, ◌∙◌}
use mathlib.Core.Bool.{false}
use Prim.Native.Nat.{◌-◌}
use Rattle.arena.specs.Arena.{marked}
use Rattle.sort_connection.specs.Standing.{view, slot_room, kid_asks}
use Rattle.sort_connection.specs.Connection.{any_next, mark_found, mark_none}
use Rattle.sort_connection.proofs.update_sort_ctx_children_data.any_marked.Goals as goal

pub child_count-n-requires : goal.child_count-n-requires
child_count-n-requires c = slot_room c.args.m.now c.args.u c.args.h c.requires

pub loop-j-init : goal.loop-j-init
loop-j-init c = (c.child_count-n.ensures ∙ (view c.args.m.now c.args.u c.args.h c.requires).count, refl)

pub child-requires : goal.child-requires
child-requires c = let x = c.loop-j-test.true in let l = c.loop-j in let y = l.invariant.0 in
    kid_asks c.args.m.now c.args.u c.args.h c.requires l.j (omega arith)

pub returns-then-is_marked : goal.returns-then-is_marked
returns-then-is_marked c = let x = c.loop-j-test.true in
    let l = c.loop-j in let y = l.invariant.0 in
    mark_found c.args.m.now c.args.u c.args.h c.requires l.j (omega arith)
    (sym (c.is_marked.ensures ∙ ap marked c.child.ensures) ∙ c.if-is_marked.true)

pub loop-j-preserved : goal.loop-j-preserved
loop-j-preserved c = let x = c.loop-j-test.true in let l = c.loop-j in (
  l.invariant.0,
  any_next _ l.j l.invariant.1 (sym (c.is_marked.ensures ∙ ap marked c.child.ensures)
      ∙ c.if-is_marked.false),
)

pub returns : goal.returns
returns c = let x = c.loop-j-test.false in let l = c.loop-j in let y = l.invariant.0 in
    mark_none c.args.m.now c.args.u c.args.h c.requires l.j (omega arith) l.invariant.1
