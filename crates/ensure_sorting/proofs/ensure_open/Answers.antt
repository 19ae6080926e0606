use Rattle.ensure_sorting.specs.Step.{open_puts, open_marks, open_grown}
use Rattle.ensure_sorting.proofs.ensure_open.Goals as goal

pub put_again-a-requires : goal.put_again-a-requires
put_again-a-requires c = open_puts c.args.m.now c.args.u c.args.r.now c.args.ks.now c.args.i c.requires _
    c.update_sort_ctx_children_data.ensures

pub ensure_marked-requires : goal.ensure_marked-requires
ensure_marked-requires c = open_marks c.args.m.now c.args.u c.args.r.now c.args.ks.now c.args.i c.requires _
    c.update_sort_ctx_children_data.ensures _
    c.put_again-a.auto.m _ c.put_again-a.ensures

pub returns : goal.returns
returns c = open_grown c.args.m.now c.args.u c.args.r.now c.args.ks.now c.args.i c.requires _
    c.update_sort_ctx_children_data.ensures _
    c.put_again-a.auto.m _ c.put_again-a.ensures _ _
    c.ensure_marked.ensures
