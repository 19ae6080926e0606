use native.Mathlib.Omega.{arith}
use mathlib.Core.Path.{subst}
use mathlib.Core.List.{map}
use Prim.Native.Nat.{ℕ, suc, ◌-◌}
use Rattle.row_order.specs.Packed.{key_of}
use Rattle.step_tables.specs.Rows.{row_in}
use Rattle.step_rows.specs.Heads.{BestFrom, best_none, best_more, best_all}
use Rattle.step_rows.proofs.least_head.Goals as goal

pub loop-i-init : goal.loop-i-init
loop-i-init c = let a = c.args in best_none ((map key_of c.args.keys.now)) ((row_in c.args.cells.now c.args.nulls.now c.args.widths.now)) a.places.now a.order.now a.g a.n

pub turn_back-best-requires : goal.turn_back-best-requires
turn_back-best-requires c = record { known = c.requires.known; tells = (c.requires.tells.0, omega arith) }

pub loop-i-preserved : goal.loop-i-preserved
loop-i-preserved c = let a = c.args in let l = c.loop-i in
    let x = l.best.stream in let y = l.best.at in
    let b : BestFrom ((map key_of c.args.keys.now)) ((row_in c.args.cells.now c.args.nulls.now c.args.widths.now)) a.places.now a.order.now a.g a.n (suc (l.i - 1)) x y =
    subst (λ (k : ℕ). BestFrom ((map key_of c.args.keys.now)) ((row_in c.args.cells.now c.args.nulls.now c.args.widths.now)) a.places.now a.order.now a.g a.n k x y) (omega arith) l.invariant in
    best_more ((map key_of c.args.keys.now)) ((row_in c.args.cells.now c.args.nulls.now c.args.widths.now)) a.places.now a.order.now a.g a.n (l.i - 1) x y _ _ (omega arith) b c.turn_back-best.ensures

pub returns : goal.returns
returns c = let a = c.args in let l = c.loop-i in
    best_all ((map key_of c.args.keys.now)) ((row_in c.args.cells.now c.args.nulls.now c.args.widths.now)) a.places.now a.order.now a.g a.n l.i l.best.stream l.best.at (omega arith) l.invariant
