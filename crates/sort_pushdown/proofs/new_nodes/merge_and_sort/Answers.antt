use Rattle.key_lists.specs.Keys.{keys_of}
use Rattle.asked_facts.specs.Asked.{told}
use Rattle.sort_pushdown.specs.Deciding.{merge_above_lem}
use Rattle.sort_pushdown.proofs.new_nodes.merge_and_sort.Goals as goal

pub returns : goal.returns
returns c = merge_above_lem (told c.args.own.now) (keys_of c.args.order) _ c.args.sfetch c.order_of-sort.result c.several_streams.result
    c.fresh_keys.ensures.is c.order_of-sort.ensures c.several_streams.ensures (keys_of c.args.keys)
    c.order_of-merge.result c.args.fetch c.order_of-merge.ensures
