use Rattle.plan_context.specs.View.{tree_of}
use Rattle.sort_removal.specs.Removing.{remove_one, marked_grown}
use mathlib.Core.Bool.{false}
use Rattle.sort_removal.proofs.update_child_to_remove_unnecessary_sort.update_child_to_remove_unnecessary_sort.Goals as goal

pub returns : goal.returns
returns c = marked_grown _ _ _ _ (remove_one c.args.single (tree_of c.args.m.now c.args.h)) _
    c.remove_corresponding_sort_from_sub_plan-a.ensures false _ c.set_mark-k.ensures
