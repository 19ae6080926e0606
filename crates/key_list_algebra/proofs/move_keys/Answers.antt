use native.Mathlib.Omega.{arith}
use mathlib.Core.Path.{◌≡◌, ap, ◌∙◌, subst, subst⁻¹}
use mathlib.Core.List.{map}
use lib.ListN.{length}
use lib.IntN.{ℤ, pos, nat_abs, ◌+ℤ◌}
use mir.Syntax.{w64}
use mir.Val.{to_z, of_z}
use mir.ValLaws.{to_z-of_z}
use Rattle.row_order.specs.Packed.{key_of}
use Rattle.row_order.specs.Lists.{All}
use Rattle.semantics.specs.Facts.{with_column}
use Rattle.key_lists.specs.Keys.{keys_left, keys_of, Keyed, InRange, Movable, moved_by}
use Rattle.key_lists.specs.Lists.{length_keys, no_length, mapped_none, mapped_more, mapped_all, first_of, rest_of}
use Rattle.key_list_algebra.specs.Offsets.{column-below}
use Rattle.key_list_algebra.proofs.move_keys.Goals as goal
use Rattle.key_list_algebra.proofs.move_keys.Goals.{After-column, Start}

signed_is : (c : Start) → (to_z w64 (of_z w64 c.args.by)) ≡ c.args.by
signed_is c = to_z-of_z w64 c.args.by c.ranges.by

ranged : (c : After-column) → InRange (pos c.column.result +ℤ (to_z w64 (of_z w64 c.args.by)))
ranged c =
    let z = to_z w64 (of_z w64 c.args.by) in
    subst⁻¹ InRange (ap (λ a. pos a +ℤ z) c.column.ensures) (first_of (Movable z) c.in-Some.ensures.steps c.loop-key.invariant.1)

pub loop-key-init : goal.loop-key-init
loop-key-init c = let k = c.no_keys-out in let z = no_length k.result k.ensures.0 in let ks = c.args.k in
    let by = to_z w64 (of_z w64 c.args.by) in let i = c.into_iter-key-iterator in let e = ap keys_left i.ensures.into_iter_gives ∙ c.iter-key-items.ensures in (
      omega (arith, c.requires.len_bound, ap length e, length_keys ks.len ks.word),
      subst⁻¹ (All (Movable by)) e (subst⁻¹ (λ (x : ℤ). All (Movable x) (keys_of ks)) (signed_is (goal.at.loop-key-init c).Start) c.requires.all),
      mapped_none (moved_by by) (keys_of ks) (keys_left i.result) k.result e k.ensures.0 k.ensures.1,
    )

pub move_column-c-requires : goal.move_column-c-requires
move_column-c-requires c = (rw c.column.ensures (omega arith), ranged (goal.at.move_column-c-requires c).After-column)

pub with_column-requires : goal.with_column-requires
with_column-requires c = column-below c.move_column-c.result c.move_column-c.ensures (ranged (goal.at.with_column-requires c).After-column)

pub appended-out-requires : goal.appended-out-requires
appended-out-requires c = let b = c.loop-key.invariant in (b.2.tight, omega (arith, b.0, ap length c.in-Some.ensures.steps))

pub loop-key-preserved : goal.loop-key-preserved
loop-key-preserved c = let b = c.loop-key.invariant in let z = to_z w64 (of_z w64 c.args.by) in let e = c.in-Some.ensures.steps in
    let g = c.appended-out.ensures in (
      omega (arith, b.0, g.len, ap length e),
      rest_of (Movable z) e b.1,
      mapped_more (moved_by z) c.in-Some.key c.with_column.result e g
          (c.with_column.ensures ∙ ap (λ d. with_column d (key_of c.in-Some.key)) (ap nat_abs (c.move_column-c.ensures ∙ ap (λ a. pos a +ℤ z) c.column.ensures))) b.2,
    )

pub returns : goal.returns
returns c = let b = c.loop-key.invariant in let z = to_z w64 (of_z w64 c.args.by) in
    subst (λ (y : ℤ). Keyed (map (moved_by y) (keys_of c.args.k)) c.loop-key.out) (signed_is (goal.at.returns c).Start)
    (mapped_all (moved_by z) c.in-None.ensures.steps.0 (omega (arith, b.0)) b.2)
