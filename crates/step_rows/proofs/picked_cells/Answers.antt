use native.Mathlib.Omega.{arith}
use mathlib.Core.Path.{refl, subst}
use mir.Syntax.{w64}
use mir.Facts.{to_z-of_z}
use Prim.Native.Nat.{ℕ, ◌-◌}
use lib.ListN.{length, length-set}
use Rattle.step_rows.specs.Projecting.{Picks, picks_more}
use Rattle.step_rows.proofs.picked_cells.Goals as goal

pub loop-j-init : goal.loop-j-init
loop-j-init c = (refl, λ k h. absurd (omega arith))

pub overflow_add-picked : goal.overflow_add-picked
overflow_add-picked c = let h = c.requires.2 c.loop-j.j (omega arith) in omega arith

pub offset_bounds-cells-a : goal.offset_bounds-cells-a
offset_bounds-cells-a c = let h = c.requires.2 c.loop-j.j (omega arith) in omega arith

pub bounds-cells-a : goal.bounds-cells-a
bounds-cells-a c = let h = c.requires.2 c.loop-j.j (omega arith) in omega arith

pub loop-j-preserved : goal.loop-j-preserved
loop-j-preserved c = let a = c.args in let l = c.loop-j in (
  simp length-set l.invariant.0,
  picks_more a.cells.now a.a a.cols.now l.j l.picked _ l.invariant.1 (omega arith) (to_z-of_z {w = w64} (record { sfits = c.picked-1.given })),
)

pub returns : goal.returns
returns c = let a = c.args in let l = c.loop-j in
    subst (λ (n : ℕ). Picks a.cells.now a.a a.cols.now n l.picked) (omega arith) l.invariant.1
