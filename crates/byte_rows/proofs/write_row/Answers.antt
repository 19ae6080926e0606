use Rattle.std.proofs.Common.{arith}
use Rattle.std.proofs.lemmas.Grind.{common_steps}
use Rattle.byte_rows.specs.Rows.{low_mask, length_low}
use Rattle.byte_rows.proofs.write_row.Goals as goal

pub loop-i-preserved : goal.loop-i-preserved
loop-i-preserved c = grind (arith, common_steps, length_low, low_mask)
