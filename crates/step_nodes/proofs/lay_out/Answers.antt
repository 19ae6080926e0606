use native.Mathlib.Omega.{arith}
use mathlib.Core.Path.{ap, ◌∙◌}
use Rattle.plan_context.specs.Laws.{here}
use Rattle.step_nodes.specs.Laying.{whole_asks, whole_laid}
use Rattle.step_nodes.proofs.lay_out.Goals as goal

pub nodes-n-requires : goal.nodes-n-requires
nodes-n-requires c = here c.args.m.now c.args.u c.args.h c.requires.0 c.requires.1

pub row-requires : goal.row-requires
row-requires c = here c.args.m.now c.args.u c.args.h c.requires.0 c.requires.1

pub lay-r-requires : goal.lay-r-requires
lay-r-requires c = let m = c.args.m.now in let h = c.args.h in let p = c.requires in let z = p.1 in (
  whole_asks m c.args.u h p.0 p.1 p.2 c.args.table.now c.args.slots.now _ p.3 p.4
      (c.streams-b.ensures ∙ ap (λ F. F.streams) c.row.ensures.1.is),
  omega arith,
)

pub returns : goal.returns
returns c = let m = c.args.m.now in let h = c.args.h in let p = c.requires in let v = c.lay-r in
    let x = v.auto.table in let y = v.auto.slots in let q = p.3 in let k = p.4 in
    whole_laid m c.args.u h p.0 p.1 p.2 c.args.table.now c.args.slots.now v.new.table v.new.slots _ _ v.result
    (omega arith) (omega arith) c.nodes-n.ensures (c.streams-b.ensures ∙ ap (λ F. F.streams) c.row.ensures.1.is) v.ensures
