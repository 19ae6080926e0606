use mathlib.Core.Path.{◌≡◌, ◌∙◌, ap, subst, subst⁻¹}
use mathlib.Core.List.{List, map}
use lib.IntN.{ℤ, pos}
use mir.Syntax.{w64}
use mir.Val.{to_z, of_z}
use mir.Facts.{to_z-of_z}
use Rattle.row_order.specs.Iso.{Key}
use Rattle.row_order.specs.Lists.{All}
use Rattle.key_lists.specs.Keys.{keys_of, Keyed, Movable, moved_by}
use Rattle.join_orders.specs.Orders.{room, moved_by_lem}
use Rattle.join_orders.proofs.moved_order.Goals as goal
use Rattle.join_orders.proofs.moved_order.Goals.{After-offset}

-- the offset as the machine holds it is the width
signed : (c : After-offset) → to_z w64 (of_z w64 c.offset.result) ≡ pos c.args.w
signed c = to_z-of_z {w = w64} (record { sfits = c.offset.type_inv }) ∙ c.offset.ensures

pub move_keys-requires : goal.move_keys-requires
move_keys-requires c = let ks = keys_of c.args.keys in
    record { all = subst⁻¹ (λ (z : ℤ). All (Movable z) ks) (signed (goal.at.move_keys-requires c).After-offset) (room c.args.w ks c.requires.1); len_bound = c.requires.2 }

pub returns : goal.returns
returns c = let ks = keys_of c.args.keys in
    subst (λ (l : List Key). Keyed l c.move_keys.result) (ap (λ (z : ℤ). map (moved_by z) ks) (signed (goal.at.returns c).After-offset) ∙ moved_by_lem c.args.w ks)
    c.move_keys.ensures
