use mathlib.Core.Path.{◌≡◌, sym, ap, ap₂, ◌∙◌}
use mathlib.Core.Bool.{Bool, true, false, ◌&&◌}
use Prim.Native.Nat.{ℕ, ◌+◌, ◌*◌, ◌-◌}
use native.Mathlib.Omega.{arith}
use lib.ListN.{get_or, take, drop}
use Rattle.scan.specs.Bytes.{zeros}
use Rattle.block_passes.proofs.padding_ok.Goals as goal

with-true : (z a r : Bool) → z ≡ a → r ≡ true → z ≡ (a && r)
with-true z true r e h = e ∙ sym h
with-true z false r e h = e

pub overflow_cast-c : goal.overflow_cast-c
overflow_cast-c c = omega (arith, c.type_inv.b 4)

pub overflow_mul-at : goal.overflow_mul-at
overflow_mul-at c = omega (arith, c.type_inv.b 4)

pub overflow_add-at : goal.overflow_add-at
overflow_add-at c = omega (arith, c.type_inv.b 4)

pub returns-then-at-ge508 : goal.returns-then-at-ge508
returns-then-at-ge508 c = let b = c.args.b.now in
    let e : 508 - (8 + 64 * get_or b 4 0) ≡ 0 = (let x = c.if-at-ge508.true in omega arith) in
    with-true c.all_zero-z.result _ _ c.all_zero-z.ensures (ap (λ (k : ℕ). zeros (take k (drop (8 + 64 * get_or b 4 0) b))) e)

pub returns : goal.returns
returns c = ap₂ ◌&&◌ c.all_zero-z.ensures c.all_zero-y.ensures
