use Prim.Native.Nat.{◌+◌}
use Rattle.key_lists.specs.Lists.{row_keys}
use Rattle.key_lists.proofs.keys_of.Goals as goal

pub returns : goal.returns
returns c = let p₀ = c.placed.ensures in
    let p₁ = c.placed-2.ensures in
    let p₂ = c.placed-3.ensures in
    let p₃ = c.placed-4.ensures in
    let p₄ = c.placed-5.ensures in let p₅ = c.placed-6.ensures in
    let p₆ = c.placed-7.ensures in let p₇ = c.placed-8.ensures in
    record {
      is = row_keys c.args.row.now c.args.len _ c.requires.0 c.requires.1 (λ i. (p₀ i + p₁ i + p₂ i + p₃ i) + (p₄ i + p₅ i + p₆ i + p₇ i));
      few = c.requires.1;
    }
