use mathlib.Core.Path.{◌≡◌}
use Prim.Native.Nat.{ℕ, ◌+◌, ◌*◌, ◌%◌, ◌^◌, ◌<◌}
use native.Mathlib.Omega.{arith}
use lib.Bits.{bit_and, bit_or, and_mask, or_shifted}
use Rattle.record_keys.proofs.packed.Goals as goal

-- the code's shift, mask and or
bits : (c o : ℕ) → o < 256 → bit_or (o * 32 % 2 ^ 64) (bit_and c 31) ≡ 32 * o + c % 32
bits c o h =
    let e : o * 32 % 2 ^ 64 ≡ o * 32 = omega arith in
    rw (e, and_mask c 5, or_shifted o 5 (c % 32) (omega arith)) (omega arith)

pub returns : goal.returns
returns c = bits c.args.column c.args.options c.ranges.options.fits
