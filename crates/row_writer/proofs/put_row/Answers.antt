use native.Mathlib.Omega.{arith}
use mathlib.Core.Path.{sym, ◌∙◌}
use lib.IntN.{pos}
use lib.ListN.{get_or, length-take, length-drop}
use mir.Syntax.{w64}
use mir.Facts.{to_z-of_z}
use Rattle.row_writer.specs.Rows.{cells_none, cells_more, cells_all}
use Rattle.row_writer.proofs.put_row.Goals as goal

pub slice_bounds-put_number-end-2 : goal.slice_bounds-put_number-end-2
slice_bounds-put_number-end-2 c = simp length-take (omega arith)

pub loop-c-init : goal.loop-c-init
loop-c-init c = let a = c.args in
    cells_none a.set a.cells.now a.d.now _ _ c.requires.1 c.null_set-s.ensures c.put_number.ensures

pub put_cell-requires : goal.put_cell-requires
put_cell-requires c = simp (length-take, length-drop) (omega arith)

pub loop-c-preserved : goal.loop-c-preserved
loop-c-preserved c = let a = c.args in let l = c.loop-c in
    cells_more a.set a.cells.now l.c l.d _ _ _ (omega arith) c.has.ensures
    (to_z-of_z {w = w64} {z = get_or a.cells.now l.c (pos 0)} (record { sfits = search })) c.put_cell.ensures l.invariant

pub shape_of-d : goal.shape_of-d
shape_of-d c = c.loop-c.invariant.long ∙ sym c.requires.1

pub returns : goal.returns
returns c = let a = c.args in let l = c.loop-c in
    cells_all a.set a.cells.now l.c l.d (omega arith) l.invariant
