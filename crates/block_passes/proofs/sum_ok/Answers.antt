use mathlib.Core.Path.{sym, ap₂}
use native.Mathlib.Omega.{arith}
use lib.Dec.{eqb}
use lib.Seq.{length-take-le}
use Rattle.block_passes.proofs.sum_ok.Goals as goal

pub slice_bounds-sum-end : goal.slice_bounds-sum-end
slice_bounds-sum-end c = sym (length-take-le 508 c.args.b.now (omega arith))

pub sum-sum-requires : goal.sum-sum-requires
sum-sum-requires c = omega (arith, length-take-le 508 c.args.b.now (omega arith))

pub returns : goal.returns
returns c = ap₂ eqb c.sum-sum.ensures c.get32-said.ensures
