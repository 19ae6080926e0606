use native.Mathlib.Omega.{arith}
use Prim.Native.Nat.{ℕ, ◌*◌}
use mathlib.Core.Path.{sym, ap, ◌∙◌}
use mathlib.Core.Bool.{◌&&◌}
use lib.Dec.{eqb}
use lib.Bits.{bit_and}
use Rattle.scan.specs.Below.{and_true}
use Rattle.scan.specs.Words.{shifted_out}
use Rattle.record_lists.proofs.keys.four.Goals as goal

pub returns : goal.returns
returns c = let x = c.args.x in let b = eqb (bit_and x c.args.options) 0 in
    sym (and_true b) ∙ ap (λ (v : ℕ). b && eqb v 0) (sym (shifted_out x 64 (16 * c.args.n) (omega (arith, c.ranges.x)) (omega arith)))
