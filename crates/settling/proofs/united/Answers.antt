use native.Mathlib.Omega.{arith}
use mathlib.Core.Path.{sym, ◌∙◌}
use Rattle.node_facts.specs.Ready.{count}
use Rattle.walks.specs.Marks.{known}
use Rattle.arena.specs.Arena.{slot}
use Rattle.plan_context.specs.View.{forest}
use Rattle.plan_context.specs.Laws.{length_facts}
use Rattle.plan_context.specs.Facts.{united_last, united_fits, united_more, united_all}
use Rattle.settling.specs.Settling.{shown}
use Rattle.settling.proofs.united.Goals as goal

pub child_count-last-requires : goal.child_count-last-requires
child_count-last-requires c = c.requires.0.room

pub overflow_sub-last : goal.overflow_sub-last
overflow_sub-last c = let m = c.args.m.now in let i = c.args.i in let a = c.requires.0 in let n = (shown m i a).count in
    let e = c.child_count-last.ensures in let z = c.requires.1 in omega arith

pub child_facts-f-requires : goal.child_facts-f-requires
child_facts-f-requires c = let m = c.args.m.now in let i = c.args.i in let a = c.requires.0 in let n = (shown m i a).count in
    let e = c.child_count-last.ensures in let z = c.requires.1 in (a, omega arith)

pub loop-j-init : goal.loop-j-init
loop-j-init c = let m = c.args.m.now in let i = c.args.i in let a = c.requires.0 in let n = (shown m i a).count in
    let e = c.child_count-last.ensures in let z = c.requires.1 in
    united_last (known (forest m (slot m i).kids)) c.child_count-last.result c.child_facts-f.result
    (e ∙ n ∙ sym (length_facts m (slot m i).kids)) (omega arith) c.child_facts-f.ensures

pub child_facts-a-requires : goal.child_facts-a-requires
child_facts-a-requires c = let m = c.args.m.now in let i = c.args.i in let a = c.requires.0 in
    let n = length_facts m (slot m i).kids in let z = c.loop-j.invariant.low in (a, omega arith)

pub union_facts-f-requires : goal.union_facts-f-requires
union_facts-f-requires c = let m = c.args.m.now in let i = c.args.i in
    let a = c.requires.0 in let n = length_facts m (slot m i).kids in let w = (shown m i a).few in
    let x = united_fits (known (forest m (slot m i).kids)) c.loop-j.j c.loop-j.f c.child_facts-a.result
    c.loop-j-test.true c.child_facts-a.ensures c.loop-j.invariant (omega arith) in
    (c.child_facts-a.ensures.usable.fine, c.loop-j.invariant.says.fine, omega arith)

pub loop-j-preserved : goal.loop-j-preserved
loop-j-preserved c = let m = c.args.m.now in let i = c.args.i in
    united_more (known (forest m (slot m i).kids)) c.loop-j.j c.loop-j.f
    c.child_facts-a.result c.loop-j-test.true c.child_facts-a.ensures c.loop-j.invariant
    c.union_facts-f.result c.union_facts-f.ensures

pub returns : goal.returns
returns c = united_all _ c.loop-j.j c.loop-j.f (omega arith) c.loop-j.invariant
