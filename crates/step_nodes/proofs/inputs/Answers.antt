use native.Mathlib.Omega.{arith}
use mathlib.Core.Path.{sym, ap, ◌∙◌}
use Rattle.semantics.specs.Facts.{facts}
use Rattle.arena.specs.Arena.{slot}
use Rattle.plan_context.specs.Laws.{length_facts, here}
use Rattle.step_nodes.specs.Laying.{below_in, in_room, shown, child_asks, child_there, child_facts, summed_none, summed_more, summed_all}
use Rattle.step_nodes.proofs.inputs.Goals as goal

pub child_count-k-requires : goal.child_count-k-requires
child_count-k-requires c = in_room c.args.m.now c.args.u c.args.i c.requires.0 c.requires.1

pub loop-k-init : goal.loop-k-init
loop-k-init c = let m = c.args.m.now in let i = c.args.i in
    let x = length_facts m (slot m i).kids in let y = (shown m c.args.u i c.requires.0 c.requires.1).count in
    summed_none (facts (below_in m i)) _ (c.child_count-k.ensures ∙ y ∙ sym x)

pub child-c-requires : goal.child-c-requires
child-c-requires c = let m = c.args.m.now in let i = c.args.i in let v = c.loop-k.invariant.low in let t = c.loop-k-test.true in
    let x = length_facts m (slot m i).kids in let y = (shown m c.args.u i c.requires.0 c.requires.1).count in
    child_asks m c.args.u i c.requires.0 c.requires.1 _ (omega arith)

pub row-requires : goal.row-requires
row-requires c = let m = c.args.m.now in let i = c.args.i in let v = c.loop-k.invariant.low in let t = c.loop-k-test.true in
    let x = length_facts m (slot m i).kids in
    here m c.args.u c.child-c.result c.requires.0 (child_there m c.args.u i c.requires.0 c.requires.1 _ (omega arith) _ c.child-c.ensures)

pub streams-s-requires : goal.streams-s-requires
streams-s-requires c = c.row.ensures.1.row

pub overflow_add-s : goal.overflow_add-s
overflow_add-s c = let m = c.args.m.now in let i = c.args.i in let v = c.loop-k.invariant.few in let j = c.loop-k.invariant.low in let t = c.loop-k-test.true in
    let x = length_facts m (slot m i).kids in let y = (shown m c.args.u i c.requires.0 c.requires.1).few in
    let f = c.row.ensures.1.usable.few in let e = c.streams-s.ensures in omega arith

pub loop-k-preserved : goal.loop-k-preserved
loop-k-preserved c = let m = c.args.m.now in let i = c.args.i in let j = c.loop-k.invariant.low in let t = c.loop-k-test.true in
    let x = length_facts m (slot m i).kids in
    let f = c.row.ensures.1.usable.few in let e = c.streams-s.ensures in
    summed_more (facts (below_in m i)) c.loop-k.k c.loop-k.s c.streams-s.result t c.loop-k.invariant
    (c.streams-s.ensures ∙ ap (λ F. F.streams) (child_facts m c.args.u i c.requires.0 c.requires.1 _ (omega arith) _ c.child-c.ensures _ c.row.ensures.1.is))
    (omega arith)

pub returns : goal.returns
returns c = summed_all _ c.loop-k.k c.loop-k.s (omega arith) c.loop-k.invariant
