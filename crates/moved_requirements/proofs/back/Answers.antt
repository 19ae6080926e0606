use mathlib.Core.Path.{◌∙◌, subst⁻¹}
use lib.IntN.{pos, ◌-ℤ◌}
use mir.Syntax.{w64}
use mir.Val.{SFits, to_z}
use mir.ValLaws.{to_z-of_z}
use Rattle.moved_requirements.specs.Moving.{neg_fits, minus}
use Rattle.moved_requirements.proofs.back.Goals as goal

pub overflow_sub-result : goal.overflow_sub-result
overflow_sub-result c = subst⁻¹ (SFits w64) (minus c.args.off c.requires) (neg_fits c.args.off c.requires)

pub returns : goal.returns
returns c = to_z-of_z w64 (pos 0 -ℤ to_z w64 c.args.off) (subst⁻¹ (SFits w64) (minus c.args.off c.requires) (neg_fits c.args.off c.requires))
    ∙ minus c.args.off c.requires
