use native.Mathlib.Omega.{arith}
use Rattle.row_bytes.specs.Rows.{set_whole}
use Rattle.row_bytes.proofs.set_fits.Goals as goal

-- src/lib.rt:12:1
pub returns-else-w-lt32 : goal.returns-else-w-lt32
returns-else-w-lt32 c = set_whole _ _ c.ranges.nulls.fits (omega arith) (omega arith)
