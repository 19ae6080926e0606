use mathlib.Core.Path.{ap, ◌∙◌}
use Prim.Native.Nat.{◌*◌}
use native.Mathlib.Omega.{arith}
use lib.ListN.{length}
use Rattle.plan_format.specs.Blocks.{block, block_count, sum_ok}
use Rattle.plan_format.specs.Reading.{sums_ok}
use Rattle.scan.specs.Below.{all_none, all_more, all_fail, all_end}
use Rattle.scan.specs.ByteLaws.{cut, length_part}
use Rattle.block_passes.specs.Laws.{fails, holds}
use Rattle.std.specs.Prelude.{not}
use Rattle.block_passes.proofs.sums_ok.Goals as goal

pub loop-k-init : goal.loop-k-init
loop-k-init c = all_none _

pub sum_ok-requires : goal.sum_ok-requires
sum_ok-requires c = let b = c.args.s.now in let pre = c.requires in let l = c.loop-k in let k = l.k in
    let t = c.loop-k-test.true in
    ap length (cut b (k * 512) 512) ∙ length_part b (k * 512) 512 (omega arith)

pub returns-then-not-sum_ok : goal.returns-then-not-sum_ok
unfolding sums_ok
returns-then-not-sum_ok c = let b = c.args.s.now in let pre = c.requires in let k = c.loop-k.k in let t = c.loop-k-test.true in
    all_fail (λ k. sum_ok (block b k)) k (block_count b) (omega arith) (fails (sum_ok) b (k * 512) 512 c.sum_ok.result c.sum_ok.ensures
    (ap not c.if-not-sum_ok.true))

pub loop-k-preserved : goal.loop-k-preserved
loop-k-preserved c = let b = c.args.s.now in let pre = c.requires in let l = c.loop-k in let k = l.k in
    all_more (λ k. sum_ok (block b k)) k l.invariant
    (holds (sum_ok) b (k * 512) 512 c.sum_ok.result c.sum_ok.ensures (ap not c.if-not-sum_ok.false))

pub returns : goal.returns
unfolding sums_ok
returns c = let b = c.args.s.now in let pre = c.requires in let l = c.loop-k in let t = c.loop-k-test.false in
    all_end (λ k. sum_ok (block b k)) l.k (block_count b) (omega arith) (omega arith) l.invariant
