use mathlib.Core.Path.{subst}
use mathlib.Core.List.{List}
use Rattle.row_order.specs.Iso.{Key}
use Rattle.key_lists.specs.Keys.{Keyed}
use Rattle.record_fields.specs.Kinds.{keys_are}
use Rattle.node_properties.proofs.keys.Goals as goal

pub key_list-requires : goal.key_list-requires
key_list-requires c = (c.requires.long, c.requires.few)

pub returns : goal.returns
returns c = subst (λ (l : List Key). Keyed l c.key_list.result) (keys_are c.args.r.now c.requires)
    c.key_list.ensures
