use native.Mathlib.Omega.{arith}
use Rattle.plan_context.specs.Laws.{here}
use Rattle.call_parts.specs.Filing.{arena_loaded}
use Rattle.push_calls.specs.Pushing.{few, pushable, partial_refused, push_no_room, as_read}
use Rattle.push_calls.proofs.push_in.Goals as goal

pub has_partial_sort-requires : goal.has_partial_sort-requires
has_partial_sort-requires c = let t = c.settle_all in let x = c.requires.here in (arena_loaded t.new.m c.args.u t.ensures.0, omega arith)

pub returns-then-has_partial_sort : goal.returns-then-has_partial_sort
returns-then-has_partial_sort c = let t = c.settle_all in partial_refused c.args.m.now c.args.u c.args.h c.requires t.new.m t.ensures.0 t.ensures.1 _ c.has_partial_sort.ensures c.if-has_partial_sort.true c.args.out.now 0

pub nodes-n-requires : goal.nodes-n-requires
nodes-n-requires c = let t = c.settle_all in here t.new.m c.args.u c.args.h t.ensures.0 c.requires.here

pub overflow_mul-n : goal.overflow_mul-n
overflow_mul-n c = let t = c.settle_all in
    let f = few c.args.m.now c.args.u c.args.h c.requires t.new.m t.ensures.0 t.ensures.1 _ c.nodes-n.ensures in omega arith

pub returns-then-b-n : goal.returns-then-b-n
returns-then-b-n c = let t = c.settle_all in push_no_room c.args.m.now c.args.u c.args.h c.requires t.new.m t.ensures.0 t.ensures.1 _ c.nodes-n.ensures c.args.b.now c.if-b-n.true c.args.out.now

pub push_to-requires : goal.push_to-requires
push_to-requires c = let t = c.settle_all in let q = pushable c.args.m.now c.args.u c.args.h c.requires t.new.m t.ensures.0 t.ensures.1 _ c.has_partial_sort.ensures c.if-has_partial_sort.false _ c.nodes-n.ensures in let z = c.if-b-n.false in (q, omega arith)

pub returns : goal.returns
returns c = let t = c.settle_all in let y = c.push_to in as_read c.args.m.now c.args.u c.args.h c.requires t.new.m t.ensures.0 t.ensures.1 y.result c.args.out.now y.new.out y.ensures _
