use native.Mathlib.Omega.{arith}
use Prim.Native.Nat.{◌-◌}
use mathlib.Core.Path.{◌≡◌, refl, subst}
use Prim.Native.Nat.{ℕ, suc}
use Rattle.row_writer.specs.Writing.{Nulls, nulls_none, nulls_more, nulls_small, nulls_room}
use Rattle.row_writer.proofs.null_set.Goals as goal

pub loop-c-init : goal.loop-c-init
loop-c-init c = nulls_none c.args.set c.args.cells.now _ refl

pub overflow_mul-s : goal.overflow_mul-s
overflow_mul-s c = let l = c.loop-c in
    omega (arith, nulls_small c.args.set c.args.cells.now l.c l.s c.requires l.invariant)

pub overflow_add-s : goal.overflow_add-s
overflow_add-s c = let l = c.loop-c in
    nulls_room c.args.set c.args.cells.now l.c l.s c.has.result c.requires l.invariant

pub loop-c-preserved : goal.loop-c-preserved
loop-c-preserved c = let a = c.args in
    let l = c.loop-c in
    nulls_more a.set a.cells.now (l.c - 1) l.s _ (omega arith)
    (let e : l.c ≡ suc (l.c - 1) = omega arith in subst (λ (k : ℕ). Nulls a.set a.cells.now k l.s) e l.invariant) c.has.ensures

pub returns : goal.returns
returns c = let e : c.loop-c.c ≡ 0 = omega arith in
    subst (λ (k : ℕ). Nulls c.args.set c.args.cells.now k c.loop-c.s) e c.loop-c.invariant
