use native.Mathlib.Omega.{arith}
use mathlib.Core.Path.{ap, ◌∙◌}
use Prim.Native.Nat.{◌-◌}
use Rattle.walks.specs.Marks.{size_t}
use Rattle.plan_context.specs.View.{tree_of}
use Rattle.sort_connection.specs.Standing.{view, slot_room, is_here, kid_asks, kid_standing}
use Rattle.partial_sort_by_number.specs.AtNumber.{passing_none, passing_more, passing_found, passing_end}
use Rattle.partial_sort_by_number.proofs.locate.Goals as goal

pub child_count-c-requires : goal.child_count-c-requires
child_count-c-requires c = slot_room c.args.m.now c.args.u c.args.h c.requires

pub loop-j-init : goal.loop-j-init
loop-j-init c = (c.child_count-c.ensures ∙ (view c.args.m.now c.args.u c.args.h c.requires).count, passing_none c.args.m.now c.args.h c.args.n)

pub child-requires : goal.child-requires
child-requires c = let l = c.loop-j in let i₀ = l.invariant.0 in
    kid_asks c.args.m.now c.args.u c.args.h c.requires l.j (omega arith)

pub nodes-s-requires : goal.nodes-s-requires
nodes-s-requires c = let l = c.loop-j in let i₀ = l.invariant.0 in
    is_here c.args.m.now c.args.u _ (kid_standing c.args.m.now c.args.u c.args.h c.requires l.j (omega arith) _ c.child.ensures)

pub returns-then-left-s : goal.returns-then-left-s
returns-then-left-s c = let l = c.loop-j in let i₀ = l.invariant.0 in
    passing_found c.args.m.now c.args.h c.args.n l.j l.left l.invariant.1 (omega arith) _
    (c.nodes-s.ensures ∙ ap (λ k. size_t (tree_of c.args.m.now k)) c.child.ensures) c.if-left-s.true

pub loop-j-preserved : goal.loop-j-preserved
loop-j-preserved c = let l = c.loop-j in let i₀ = l.invariant.0 in (
  i₀,
  passing_more c.args.m.now c.args.h c.args.n l.j l.left l.invariant.1 (omega arith) _
      (c.nodes-s.ensures ∙ ap (λ k. size_t (tree_of c.args.m.now k)) c.child.ensures) (let z = c.if-left-s.false in omega arith),
)

pub returns : goal.returns
returns c = let l = c.loop-j in let i₀ = l.invariant.0 in
    passing_end c.args.m.now c.args.h c.args.n l.j l.left _ l.invariant.1 i₀ (omega arith)
