use Rattle.row_writer.specs.Streams.{row_put}
use Rattle.row_writer.proofs.put_row_at.Goals as goal

pub returns : goal.returns
returns c = let a = c.args in
    row_put a.cells.now a.nulls.now a.widths.now a.r c.requires.0 a.out.now _ a.at c.put_row.ensures
