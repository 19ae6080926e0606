use native.Mathlib.Omega.{arith}
use Prim.Native.Nat.{◌-◌}
use Rattle.sort_connection.specs.Connection.{connecting_none, next_at, next_small, connecting_more, connecting_all}
use Rattle.sort_connection.proofs.update_sort_ctx_children_data.update_sort_ctx_children_data.Goals as goal

pub loop-k-init : goal.loop-k-init
loop-k-init c = connecting_none c.args.m.now c.args.u c.args.ks.now c.requires.1

pub is_connected-b-requires : goal.is_connected-b-requires
is_connected-b-requires c = let l = c.loop-k in
    next_at c.args.m.now c.args.u c.args.ks.now l.k-index l.ks l.invariant (let x = c.loop-k-test.true in let y = l.invariant.count in omega arith) c.requires.0

pub set_mark-requires : goal.set_mark-requires
set_mark-requires c = let l = c.loop-k in
    next_small c.args.m.now c.args.u c.args.ks.now l.k-index l.ks l.invariant (let x = c.loop-k-test.true in let y = l.invariant.count in omega arith) c.requires.0

pub loop-k-preserved : goal.loop-k-preserved
loop-k-preserved c = let l = c.loop-k in
    connecting_more c.args.m.now c.args.u c.args.ks.now l.k-index l.ks l.invariant (let x = c.loop-k-test.true in let y = l.invariant.count in omega arith)
    c.is_connected-b.result c.is_connected-b.ensures c.set_mark.result c.set_mark.ensures

pub shape_of-ks : goal.shape_of-ks
shape_of-ks c = c.loop-k.invariant.count

pub returns : goal.returns
returns c = let l = c.loop-k in let x = c.loop-k-test.false in let y = l.invariant.count in
    connecting_all c.args.m.now c.args.u c.args.ks.now l.k-index l.ks (omega arith) l.invariant
