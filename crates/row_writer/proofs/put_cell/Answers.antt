use mathlib.Core.Path.{ap, ◌∙◌}
use mir.Syntax.{w64}
use mir.Facts.{to_z-of_z}
use Rattle.stepping.specs.RowBytes.{unsigned}
use Rattle.row_writer.specs.Rows.{null_is, number_is}
use Rattle.row_writer.proofs.put_cell.Goals as goal

pub returns-then-is_null : goal.returns-then-is_null
returns-then-is_null c = let a = c.args in null_is a.d.now _ a.is_null a.z c.requires c.if-is_null.true c.put_number.ensures

pub returns-else-is_null : goal.returns-else-is_null
returns-else-is_null c = let a = c.args in
    number_is a.d.now _ a.is_null a.z _ c.requires c.if-is_null.false
    (c.unsigned_number.ensures ∙ ap unsigned (to_z-of_z {w = w64} {z = a.z} c.ranges.z)) c.put_number-else-is_null.ensures
