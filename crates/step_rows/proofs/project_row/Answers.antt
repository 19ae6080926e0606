use native.Mathlib.Omega.{arith}
use Prim.Native.Nat.{◌+◌, ◌*◌, ◌-◌}
use lib.ListN.{length, length-set}
use Rattle.step_rows.specs.Projecting.{stored_copied, projected}
use Rattle.step_rows.proofs.project_row.Goals as goal

pub overflow_mul-a : goal.overflow_mul-a
overflow_mul-a c = omega (arith, c.requires.2.numbers)

pub picked_cells-picked-requires : goal.picked_cells-picked-requires
picked_cells-picked-requires c = let p = c.requires in (p.0, p.2.numbers, p.1)

pub overflow_add-a : goal.overflow_add-a
overflow_add-a c = omega (arith, c.requires.2.numbers)

pub offset_bounds-nulls-r : goal.offset_bounds-nulls-r
offset_bounds-nulls-r c = omega (arith, c.requires.2.set)

pub bounds-nulls-r : goal.bounds-nulls-r
bounds-nulls-r c = c.requires.2.set

pub offset_bounds-widths-r : goal.offset_bounds-widths-r
offset_bounds-widths-r c = omega (arith, c.requires.2.width)

pub bounds-widths-r : goal.bounds-widths-r
bounds-widths-r c = c.requires.2.width

pub offset_bounds-nulls-r-2 : goal.offset_bounds-nulls-r-2
offset_bounds-nulls-r-2 c = omega (arith, c.requires.2.set)

pub bounds-nulls-r-2 : goal.bounds-nulls-r-2
bounds-nulls-r-2 c = c.requires.2.set

pub offset_bounds-widths-r-2 : goal.offset_bounds-widths-r-2
offset_bounds-widths-r-2 c = omega (arith, c.requires.2.width)

pub bounds-widths-r-2 : goal.bounds-widths-r-2
bounds-widths-r-2 c = c.requires.2.width

pub shape_of-nulls : goal.shape_of-nulls
shape_of-nulls c = simp length-set

pub shape_of-widths : goal.shape_of-widths
shape_of-widths c = simp length-set

pub returns : goal.returns
returns c = let a = c.args in let p = c.requires in
    let x = c.picked_cells-picked in let o = c.with_past-old in
    let b = a.r * 32 in
    let n = length a.cols.now in
    let t = stored_copied a.cells.now b x.result n (b + n - b) c.copy_from_slice.new.self (omega arith) (omega (arith, p.2.numbers))
    c.copy_from_slice.ensures.after (omega arith) in
    projected a.cells.now _ a.nulls.now a.widths.now a.r o.result c.projection_set.result a.cols.now x.result
    p.2 p.0 p.1 x.ensures t o.ensures c.projection_set.ensures
