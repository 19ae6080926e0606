use Rattle.bottleneck_removal.specs.IdleNodes.{marked_grown, root_small}
use Rattle.parallelize_sorts.proofs.stay.Goals as goal

pub set_mark-requires : goal.set_mark-requires
set_mark-requires c = root_small c.args.m.now
    c.args.u _ c.put_again-a.result _ _
    c.put_again-a.ensures

pub returns : goal.returns
returns c = marked_grown c.args.m.now
    c.args.u _ c.put_again-a.result _ _
    c.put_again-a.ensures _ _ c.set_mark.ensures
