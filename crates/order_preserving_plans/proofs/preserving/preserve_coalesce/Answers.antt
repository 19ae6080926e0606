use native.Mathlib.Omega.{arith}
use mathlib.Core.Path.{refl}
use Prim.Native.Nat.{◌*◌}
use borrow.Author.Tests.{not-true, not-false}
use Rattle.arena.specs.Laws.{below_at}
use Rattle.plan_context.specs.Laws.{here}
use Rattle.order_preserving_plans.specs.Preserving.{order_few, one_below, coalesce-plain, coalesce_unordered, merge_puts, merge_grown}
use Rattle.std.proofs.Common.{ap}
use Rattle.std.specs.Prelude.{not}
use Rattle.order_preserving_plans.proofs.preserving.preserve_coalesce.Goals as goal

pub returns-then-not-spm : goal.returns-then-not-spm
returns-then-not-spm c = let m = c.args.m.now in let w = c.args.w in
    let r = c.args.r.now in let ks = c.args.ks.now in let p = c.requires.0 in let e = c.requires.2 in let spm = c.args.spm in let f = c.args.fetch in
    coalesce-plain m w r ks p e spm f (not-true _ (ap not c.if-not-spm.true)) _ c.update_plan_from_children.result
    c.update_plan_from_children.ensures

pub bounds-ks-0 : goal.bounds-ks-0
bounds-ks-0 c = let m = c.args.m.now in let w = c.args.w in let r = c.args.r.now in
    let ks = c.args.ks.now in let p = c.requires.0 in let e = c.requires.2 in let spm = c.args.spm in let f = c.args.fetch in
    let n = one_below m w r ks p e spm f in omega arith

pub row-requires : goal.row-requires
row-requires c = let m = c.args.m.now in let w = c.args.w in let r = c.args.r.now in
    let ks = c.args.ks.now in let p = c.requires.0 in let e = c.requires.2 in let spm = c.args.spm in let f = c.args.fetch in
    let n = one_below m w r ks p e spm f in let l = below_at (2 * w) ks 0 p.below (omega arith) in here m w _ p.arena l

pub returns-in_default : goal.returns-in_default
returns-in_default c = let m = c.args.m.now in let w = c.args.w in let r = c.args.r.now in let ks = c.args.ks.now in let p = c.requires.0 in let e = c.requires.2 in
    let spm = c.args.spm in let f = c.args.fetch in
    coalesce_unordered m w r ks p e spm f _ refl _ c.row.ensures.1 _
    c.known_order-order.ensures c.in_default.is _
    c.update_plan_from_children-in_default.result c.update_plan_from_children-in_default.ensures

pub merge_record-x-requires : goal.merge_record-x-requires
merge_record-x-requires c = order_few _ _ _ c.known_order-order.ensures c.in-Some.is

pub set_mark-requires : goal.set_mark-requires
set_mark-requires c = let m = c.args.m.now in let w = c.args.w in let r = c.args.r.now in let ks = c.args.ks.now in let p = c.requires.0 in let e = c.requires.2 in
    let spm = c.args.spm in let f = c.args.fetch in let n = one_below m w r ks p e spm f in let l = below_at (2 * w) ks 0 p.below (omega arith) in
    let z = p.small in omega arith

pub put_over-requires : goal.put_over-requires
put_over-requires c = let m = c.args.m.now in
    let w = c.args.w in let r = c.args.r.now in let ks = c.args.ks.now in let p = c.requires.0 in let e = c.requires.2 in let spm = c.args.spm in
    let f = c.args.fetch in merge_puts m w r ks p e spm f _ refl _ c.row.ensures.1 _
    c.known_order-order.ensures _ c.in-Some.is
    (not-false _ (ap not c.if-not-spm.false)) c.requires.3 _
    c.merge_record-x.ensures _ c.set_mark.ensures

pub returns : goal.returns
returns c = let m = c.args.m.now in let w = c.args.w in let r = c.args.r.now in let ks = c.args.ks.now in let p = c.requires.0 in
    let e = c.requires.2 in let spm = c.args.spm in let f = c.args.fetch in
    merge_grown m w r ks p e spm f _ refl _ c.row.ensures.1 _
    c.known_order-order.ensures _
    c.in-Some.is
    (not-false _ (ap not c.if-not-spm.false))
    c.requires.3 _ c.merge_record-x.ensures _ c.set_mark.ensures _
    c.put_over.result c.put_over.ensures
