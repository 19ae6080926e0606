use mathlib.Core.Path.{◌≡◌}
use mathlib.Core.Bool.{true}
use Rattle.plan_format.specs.Blocks.{block, sum_ok}
use Rattle.scan.specs.Bytes.{all_below}
use Rattle.block_passes.proofs.sums_ok.Given as goal

abbrev pub invariant-loop-k : goal.invariant-loop-k
invariant-loop-k l = all_below (λ k'. sum_ok (block l.s k')) l.k ≡ true
