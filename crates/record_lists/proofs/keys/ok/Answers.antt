use native.Mathlib.Omega.{arith}
use Prim.Native.Nat.{ℕ, ◌-◌, ◌*◌, ◌/◌, ◌^◌}
use mathlib.Core.Path.{ap, ap₂, ◌∙◌}
use mathlib.Core.Bool.{◌&&◌}
use lib.Dec.{eqb}
use lib.Bits.{bit_and}
use lib.ListN.{get_or}
use Rattle.record_lists.proofs.Slots.{few_keys, many_keys}
use Rattle.record_lists.proofs.keys.ok.Goals as goal

pub returns-then-n-lt4 : goal.returns-then-n-lt4
returns-then-n-lt4 c = let r = c.args.r.now in let n : ℕ = get_or r 12 0 in
    ap₂ ◌&&◌ (c.four.ensures ∙ ap₂ (λ (x o : ℕ). eqb (bit_and x o) 0 && eqb (x / 2 ^ (16 * n)) 0) c.get64-x.ensures
    c.no_options-options.ensures) (ap (λ (y : ℕ). eqb y 0) c.get64-y.ensures)
    ∙ few_keys c.args.plain r (λ i. omega (arith, c.type_inv.r i)) c.requires c.if-n-lt4.true

pub returns : goal.returns
returns c = let r = c.args.r.now in let n : ℕ = get_or r 12 0 in
    ap₂ ◌&&◌ (ap₂ (λ (x o : ℕ). eqb (bit_and x o) 0) c.get64-x.ensures c.no_options-options.ensures)
    (c.four-2.ensures ∙ ap₂ (λ (x o : ℕ). eqb (bit_and x o) 0 && eqb (x / 2 ^ (16 * (n - 4))) 0) c.get64-y.ensures
    c.no_options-options.ensures)
    ∙ many_keys c.args.plain r (λ i. omega (arith, c.type_inv.r i)) c.requires c.if-n-lt4.false
