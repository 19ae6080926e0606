use mathlib.Core.Path.{refl, ap}
use lib.ListN.{set}
use Rattle.row_reader.proofs.read_row.Goals as goal

pub returns : goal.returns
returns c = let a = c.args in
    (c.read_cells.ensures, ap (set a.nulls.now a.r) c.get32.ensures, refl, refl)
