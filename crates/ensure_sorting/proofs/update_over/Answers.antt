use Rattle.ensure_sorting.specs.Finishing.{settled_puts, settled_grown}
use Rattle.ensure_sorting.proofs.update_over.Goals as goal

pub update_plan_from_children-requires : goal.update_plan_from_children-requires
update_plan_from_children-requires c = settled_puts c.args.m.now c.args.u c.args.h c.args.r.now c.args.ks.now c.requires _
    c.update_sort_ctx_children_data.ensures

pub returns : goal.returns
returns c = settled_grown c.args.m.now c.args.u c.args.h c.args.r.now c.args.ks.now c.requires _
    c.update_sort_ctx_children_data.ensures _ _
    c.update_plan_from_children.ensures
