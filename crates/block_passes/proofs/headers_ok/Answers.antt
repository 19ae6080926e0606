use mathlib.Core.Path.{ap, ◌∙◌}
use Prim.Native.Nat.{ℕ, ◌+◌, ◌*◌, ◌-◌}
use native.Mathlib.Omega.{arith}
use lib.ListN.{length, take, drop}
use Rattle.plan_format.specs.Blocks.{block, block_count, header_ok}
use Rattle.plan_format.specs.Reading.{headers_ok}
use Rattle.scan.specs.Below.{all_none, all_more, all_fail, all_end}
use Rattle.scan.specs.ByteLaws.{cut, length_part}
use Rattle.block_passes.specs.Laws.{fails, holds}
use Rattle.std.specs.Prelude.{not}
use Rattle.block_passes.proofs.headers_ok.Goals as goal

pub loop-k-init : goal.loop-k-init
loop-k-init c = all_none _

pub header_ok-requires : goal.header_ok-requires
header_ok-requires c = let b = c.args.s.now in let pre = c.requires in let l = c.loop-k in let k = l.k in
    let t = c.loop-k-test.true in
    (ap length (cut b (k * 512) 512) ∙ length_part b (k * 512) 512 (omega arith), t)

pub returns-then-not-header_ok : goal.returns-then-not-header_ok
unfolding headers_ok
returns-then-not-header_ok c = let b = c.args.s.now in let pre = c.requires in let k = c.loop-k.k in let t = c.loop-k-test.true in
    all_fail (λ k. header_ok (block_count b) k (block b k)) k (block_count b) (omega arith)
    (fails (header_ok (block_count b) k) b (k * 512) 512 c.header_ok.result
    (c.header_ok.ensures ∙ ap (λ (n : ℕ). header_ok n k (take (k * 512 + 512 - k * 512) (drop (k * 512) b))) pre) (ap not c.if-not-header_ok.true))

pub loop-k-preserved : goal.loop-k-preserved
loop-k-preserved c = let b = c.args.s.now in let pre = c.requires in let l = c.loop-k in let k = l.k in
    all_more (λ k. header_ok (block_count b) k (block b k)) k l.invariant
    (holds (header_ok (block_count b) k) b (k * 512) 512 c.header_ok.result
    (c.header_ok.ensures ∙ ap (λ (n : ℕ). header_ok n k (take (k * 512 + 512 - k * 512) (drop (k * 512) b))) pre) (ap not c.if-not-header_ok.false))

pub returns : goal.returns
unfolding headers_ok
returns c = let b = c.args.s.now in let pre = c.requires in let l = c.loop-k in let t = c.loop-k-test.false in
    all_end (λ k. header_ok (block_count b) k (block b k)) l.k (block_count b) (omega arith) (omega arith) l.invariant
