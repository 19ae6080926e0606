use mathlib.Core.Path.{ap₂, ◌∙◌}
use mathlib.Core.List.{map}
use Rattle.row_order.specs.Packed.{key_of, row_of}
use Rattle.row_order.specs.Compared.{compared}
use Rattle.row_bytes.specs.Cells.{numbers_length}
use Rattle.row_bytes.proofs.compare_at.Goals as goal

-- src/lib.rt:132:44
pub slice_bounds-compare_rows-end : goal.slice_bounds-compare_rows-end
slice_bounds-compare_rows-end c = let a = c.args in numbers_length a.s.now a.a a.w c.cells_at-x.result c.cells_at-x.ensures

-- src/lib.rt:132:62
pub slice_bounds-compare_rows-end-2 : goal.slice_bounds-compare_rows-end-2
slice_bounds-compare_rows-end-2 c = let a = c.args in numbers_length a.s.now a.b a.w c.cells_at-y.result c.cells_at-y.ensures

-- src/lib.rt:124:1
pub returns : goal.returns
returns c = c.compare_rows.ensures ∙ ap₂ (compared (map key_of c.args.keys.now)) (ap₂ row_of c.get32-x_nulls.ensures c.cells_at-x.ensures) (ap₂ row_of c.get32-y_nulls.ensures c.cells_at-y.ensures)
