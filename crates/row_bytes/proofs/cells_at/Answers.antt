use native.Mathlib.Omega.{arith}
use mathlib.Core.Path.{refl, ◌∙◌}
use mir.Syntax.{w64}
use mir.Facts.{to_z-of_z}
use lib.ListN.{length-set}
use Rattle.row_bytes.specs.Cells.{numbers_more, numbers_end}
use Rattle.row_bytes.proofs.cells_at.Goals as goal

-- src/lib.rt:115:5
pub loop-c-init : goal.loop-c-init
loop-c-init c = (refl, refl)

-- src/lib.rt:117:20
pub signed_number-requires : goal.signed_number-requires
signed_number-requires c = tt

-- src/lib.rt:115:5
pub loop-c-preserved : goal.loop-c-preserved
loop-c-preserved c = let a = c.args in (simp length-set c.loop-c.invariant.0, numbers_more a.s.now a.at c.loop-c.c c.loop-c.cells _ _ (omega arith) c.loop-c.invariant.1 c.get64-x.ensures (to_z-of_z {w = w64} {z = c.signed_number.result} (record { sfits = c.signed_number.type_inv }) ∙ c.signed_number.ensures))

-- src/lib.rt:109:1
pub returns : goal.returns
returns c = let a = c.args in numbers_end a.s.now a.at a.w c.loop-c.c c.loop-c.cells (omega arith) (omega arith) c.loop-c.invariant.1
