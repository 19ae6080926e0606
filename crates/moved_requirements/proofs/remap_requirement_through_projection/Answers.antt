use mathlib.Core.Path.{ap, subst}
use mathlib.Core.List.{List, []}
use Rattle.row_order.specs.Iso.{Key}
use Rattle.semantics.specs.Facts.{drop_repeats}
use Rattle.key_lists.specs.Keys.{Keyed}
use Rattle.moved_requirements.proofs.remap_requirement_through_projection.Goals as goal

pub drop_repeats-requires : goal.drop_repeats-requires
drop_repeats-requires c = c.at_child_columns-moved.ensures.few

pub returns : goal.returns
returns c = subst (λ (l : List Key). Keyed l c.drop_repeats.result) (ap (drop_repeats []) c.at_child_columns-moved.ensures.is)
    c.drop_repeats.ensures
