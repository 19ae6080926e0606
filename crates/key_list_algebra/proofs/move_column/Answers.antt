use native.Mathlib.Omega.{arith}
use mathlib.Core.Path.{sym, ◌∙◌, ap, subst⁻¹}
use lib.Dec.{T}
use lib.IntN.{pos, ◌+ℤ◌, nat_abs}
use lib.Signed.{non_neg}
use mir.Syntax.{w64}
use mir.Val.{SFits, Fits}
use Rattle.key_list_algebra.specs.Offsets.{Column, column, added, back}
use Rattle.key_list_algebra.proofs.move_column.Goals as goal
use Rattle.key_list_algebra.proofs.move_column.Goals.{Start}

here : (c : Start) → Column (pos c.args.c +ℤ c.args.by)
here c = column (pos c.args.c +ℤ c.args.by) c.requires.1

pub overflow_add-result : goal.overflow_add-result
overflow_add-result c = let k = here (goal.at.overflow_add-result c).Start in let l = k.below in
    subst⁻¹ (SFits w64) (added c.args.c c.args.by c.requires.0 c.ranges.by ∙ k.is) (record { sfits = omega arith })

pub overflow_cast-result-2 : goal.overflow_cast-result-2
overflow_cast-result-2 c = let k = here (goal.at.overflow_cast-result-2 c).Start in let l = k.below in
    subst⁻¹ (λ z. T (non_neg z) × Fits w64 (nat_abs z)) (back c.args.c c.args.by c.requires.0 c.ranges.by k) (tt, record { fits = omega arith })

pub returns : goal.returns
returns c = let k = here (goal.at.returns c).Start in ap (λ z. pos (nat_abs z)) (back c.args.c c.args.by c.requires.0 c.ranges.by k) ∙ sym k.is
