use Rattle.key_lists.specs.Keys.{keys_of}
use Rattle.sort_pushdown.specs.Deciding.{merge_alone}
use Rattle.sort_pushdown.proofs.new_nodes.merge_only.Goals as goal

pub returns : goal.returns
returns c = merge_alone (keys_of c.args.keys) c.order_of-merge.result c.args.fetch c.order_of-merge.ensures
