use native.Mathlib.Omega.{arith}
use mathlib.Core.Path.{◌∙◌}
use Rattle.node_facts.specs.Ready.{count}
use Prim.Native.Nat.{◌-◌}
use Rattle.arena.specs.Arena.{slot}
use Rattle.plan_context.specs.Summaries.{summing_none, summing_more, summing_all, drop-size}
use Rattle.settling.specs.Settling.{shown}
use Rattle.settling.proofs.below.Goals as goal

pub child_count-j-requires : goal.child_count-j-requires
child_count-j-requires c = c.requires.room

pub loop-j-init : goal.loop-j-init
loop-j-init c = let m = c.args.m.now in let i = c.args.i in let a = c.requires in
    summing_none m (slot m i).kids c.child_count-j.result (c.child_count-j.ensures ∙ (shown m i a).count)

pub child_summary-x-requires : goal.child_summary-x-requires
child_summary-x-requires c = let m = c.args.m.now in let i = c.args.i in let a = c.requires in
    let z = c.loop-j.invariant.low in let t = c.loop-j-test.true in (a, omega arith)

pub overflow_add-s : goal.overflow_add-s
overflow_add-s c = let m = c.args.m.now in
    let i = c.args.i in let a = c.requires in
    let p = summing_more m (slot m i).kids c.loop-j.j
    c.child_summary-x.result c.loop-j.s
    c.loop-j-test.true
    c.child_summary-x.ensures
    c.loop-j.invariant in let n = p.sums.nodes in
    let w = drop-size m (slot m i).kids (c.loop-j.j - 1) in let z = (shown m i a).small in
    omega arith

pub loop-j-preserved : goal.loop-j-preserved
loop-j-preserved c = let m = c.args.m.now in
    let i = c.args.i in summing_more m (slot m i).kids c.loop-j.j
    c.child_summary-x.result c.loop-j.s
    c.loop-j-test.true
    c.child_summary-x.ensures
    c.loop-j.invariant

pub returns : goal.returns
returns c = summing_all _ _ c.loop-j.j c.loop-j.s (omega arith) c.loop-j.invariant
