use Rattle.key_lists.specs.Keys.{keys_of}
use Rattle.ensure_sorting.specs.Child.{sort_standing, sort-small, sort_asks, sort_grown}
use Rattle.ensure_sorting.proofs.add_marked_sort.Goals as goal

pub is_connected-requires : goal.is_connected-requires
is_connected-requires c = sort_standing c.args.m.now c.args.u c.args.h (keys_of c.args.keys) c.args.fetch c.requires

pub set_mark-k-requires : goal.set_mark-k-requires
set_mark-k-requires c = sort-small c.args.m.now c.args.u c.args.h (keys_of c.args.keys) c.args.fetch c.requires

pub add_sort_above-a-requires : goal.add_sort_above-a-requires
add_sort_above-a-requires c = sort_asks c.args.m.now c.args.u c.args.h (keys_of c.args.keys) c.args.fetch c.requires _ c.is_connected.ensures _
    c.set_mark-k.ensures

pub returns : goal.returns
returns c = sort_grown c.args.m.now c.args.u c.args.h (keys_of c.args.keys) c.args.fetch c.requires _
    c.is_connected.ensures _ c.set_mark-k.ensures _ _
    c.add_sort_above-a.ensures _ c.set_mark-x.ensures
