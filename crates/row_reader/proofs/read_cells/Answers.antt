use native.Mathlib.Omega.{arith}
use Prim.Native.Nat.{◌*◌}
use mathlib.Core.Path.{refl, ◌∙◌}
use mir.Syntax.{w64}
use mir.Facts.{to_z-of_z}
use lib.ListN.{take, length-set}
use Rattle.row_reader.specs.Reading.{cells_more, cells_none, cells_end}
use Rattle.row_reader.proofs.read_cells.Goals as goal

pub loop-c-init : goal.loop-c-init
loop-c-init c = let a = c.args in (refl, cells_none a.rows.now a.at (a.r * 32) a.cells.now)

pub signed_number-requires : goal.signed_number-requires
signed_number-requires c = tt

pub loop-c-preserved : goal.loop-c-preserved
loop-c-preserved c = let a = c.args in let l = c.loop-c in (
  simp length-set l.invariant.0,
  cells_more a.rows.now a.at (a.r * 32) l.c (take (a.r * 32) a.cells.now) l.cells _ _ (omega arith) l.invariant.1
      c.get64-x.ensures
      (to_z-of_z {w = w64} {z = c.signed_number.result} (record { sfits = c.signed_number.type_inv }) ∙ c.signed_number.ensures),
)

pub shape_of-cells : goal.shape_of-cells
shape_of-cells c = c.loop-c.invariant.0

pub returns : goal.returns
returns c = let a = c.args in let l = c.loop-c in
    cells_end a.rows.now a.at (a.r * 32) l.c a.w (take (a.r * 32) a.cells.now) l.cells (omega arith) (omega arith)
    l.invariant.1
