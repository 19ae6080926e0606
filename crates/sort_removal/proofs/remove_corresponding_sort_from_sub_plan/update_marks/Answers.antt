use mathlib.Core.Path.{refl}
use Rattle.sort_removal.specs.Removing.{asks, update_none, update_all}
use Rattle.sort_removal.proofs.remove_corresponding_sort_from_sub_plan.update_marks.Goals as goal

pub returns-then-x-ks : goal.returns-then-x-ks
returns-then-x-ks c = update_all c.args.m.now c.args.u c.args.h c.args.ks.now c.requires _
    (asks c.args.m.now c.args.u c.args.h c.args.ks.now c.requires _ c.any_marked-x.ensures _ refl)
    c.if-x-ks.true _ c.update_sort_ctx_children_data.ensures

pub returns : goal.returns
returns c = update_none c.args.m.now c.args.u c.args.h c.args.ks.now c.requires _
    (asks c.args.m.now c.args.u c.args.h c.args.ks.now c.requires _ c.any_marked-x.ensures _ refl) c.if-x-ks.false
