use native.Mathlib.Omega.{arith}
use mathlib.Core.Path.{ap, ◌∙◌}
use Rattle.arena.specs.Arena.{slot}
use Rattle.plan_context.specs.Laws.{length_facts, here}
use Rattle.step_nodes.specs.Laying.{shown, child_asks, child_there, child_facts}
use Rattle.step_nodes.proofs.width_below.Goals as goal

pub child-c-requires : goal.child-c-requires
child-c-requires c = let m = c.args.m.now in let i = c.args.i in let x = length_facts m (slot m i).kids in let p = c.requires.2 in
    let y = (shown m c.args.u i c.requires.0 c.requires.1).count in child_asks m c.args.u i c.requires.0 c.requires.1 0 (omega arith)

pub row-requires : goal.row-requires
row-requires c = let m = c.args.m.now in let i = c.args.i in let x = length_facts m (slot m i).kids in let p = c.requires.2 in
    here m c.args.u _ c.requires.0 (child_there m c.args.u i c.requires.0 c.requires.1 0 (omega arith) _ c.child-c.ensures)

pub returns : goal.returns
returns c = let m = c.args.m.now in let i = c.args.i in let x = length_facts m (slot m i).kids in let p = c.requires.2 in (
  c.width.ensures.0 ∙ ap (λ F. F.width) (child_facts m c.args.u i c.requires.0 c.requires.1 0 (omega arith) _ c.child-c.ensures _ c.row.ensures.1.is),
  c.width.ensures.1,
)
