use mathlib.Core.Path.{◌≡◌, ap, ◌∙◌, subst, subst⁻¹}
use mathlib.Core.List.{List, map}
use lib.IntN.{ℤ, pos, neg_ℤ}
use mir.Syntax.{w64}
use mir.Val.{to_z, of_z}
use mir.Facts.{to_z-of_z}
use Rattle.row_order.specs.Iso.{Key}
use Rattle.row_order.specs.Lists.{All}
use Rattle.key_lists.specs.Keys.{keys_of, Keyed, Movable, moved_by}
use Rattle.moved_requirements.specs.Moving.{back_room, back_by}
use Rattle.moved_requirements.proofs.moved_back.Goals as goal
use Rattle.moved_requirements.proofs.moved_back.Goals.{After-back}

-- the offset as the machine holds it
signed : (c : After-back) → to_z w64 (of_z w64 c.back.result) ≡ neg_ℤ (pos c.args.off)
signed c = to_z-of_z {w = w64} (record { sfits = c.back.type_inv }) ∙ c.back.ensures

pub move_keys-requires : goal.move_keys-requires
move_keys-requires c = let k = c.args.keys in
    record { all = subst⁻¹ (λ (z : ℤ). All (Movable z) (keys_of k)) (signed (goal.at.move_keys-requires c).After-back) (back_room c.args.off k c.requires.1); len_bound = c.requires.2 }

pub returns : goal.returns
returns c = let ks = keys_of c.args.keys in
    subst (λ (l : List Key). Keyed l c.move_keys.result) (ap (λ (z : ℤ). map (moved_by z) ks) (signed (goal.at.returns c).After-back) ∙ back_by c.args.off ks
    c.requires.1) c.move_keys.ensures
