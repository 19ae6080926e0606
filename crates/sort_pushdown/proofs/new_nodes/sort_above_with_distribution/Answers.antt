use mathlib.Core.Path.{sym, ◌∙◌}
use Rattle.key_lists.specs.Keys.{keys_of}
use Rattle.asked_facts.specs.Asked.{told}
use Rattle.sort_pushdown.specs.Deciding.{above_merge, above_sort}
use Rattle.sort_pushdown.proofs.new_nodes.sort_above_with_distribution.Goals as goal

pub returns-then-needs_merge : goal.returns-then-needs_merge
returns-then-needs_merge c = above_merge (told c.args.own.now) (keys_of c.args.order) _ c.args.fetch c.order_of-sort.result
    c.several_streams-preserve.result c.fresh_keys.ensures.is c.order_of-sort.ensures
    c.several_streams-preserve.ensures c.args.d (sym c.needs_merge.ensures ∙ c.if-needs_merge.true)

pub returns : goal.returns
returns c = above_sort (told c.args.own.now) (keys_of c.args.order) _ c.args.fetch c.order_of-sort.result
    c.several_streams-preserve.result c.fresh_keys.ensures.is c.order_of-sort.ensures
    c.several_streams-preserve.ensures c.args.d (sym c.needs_merge.ensures ∙ c.if-needs_merge.false)
