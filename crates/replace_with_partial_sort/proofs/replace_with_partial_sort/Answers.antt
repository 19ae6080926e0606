use borrow.Author.Tests.{not-true, not-false}
use Rattle.sort_connection.specs.Standing.{is_here, own_proper, kid_asks, kid_standing}
use Rattle.replace_with_partial_sort.specs.Replacing.{not_sort, sort_some, bounded, stays, some_met}
use Rattle.std.proofs.Common.{ap}
use Rattle.std.specs.Prelude.{not}
use Rattle.replace_with_partial_sort.proofs.replace_with_partial_sort.Goals as goal

pub is_sort-requires : goal.is_sort-requires
is_sort-requires c = own_proper c.args.m.now c.args.u c.args.h c.requires _ c.record_at-r.ensures

pub returns-then-not-is_sort : goal.returns-then-not-is_sort
returns-then-not-is_sort c = (
  not_sort c.args.m.now c.args.u c.args.h c.requires _ c.record_at-r.ensures _ c.is_sort.ensures
      (not-true _ (ap not c.if-not-is_sort.true)),
  tt,
)

pub child-k-requires : goal.child-k-requires
child-k-requires c = kid_asks c.args.m.now c.args.u c.args.h c.requires 0
    (sort_some c.args.m.now c.args.u c.args.h c.requires _ c.record_at-r.ensures _ c.is_sort.ensures
    (not-false _ (ap not c.if-not-is_sort.false)))

pub summary-s-requires : goal.summary-s-requires
summary-s-requires c = is_here c.args.m.now c.args.u _
    (kid_standing c.args.m.now c.args.u c.args.h c.requires 0
    (sort_some c.args.m.now c.args.u c.args.h c.requires _ c.record_at-r.ensures _
    c.is_sort.ensures (not-false _ (ap not c.if-not-is_sort.false))) _ c.child-k.ensures)

pub returns-then-not-s : goal.returns-then-not-s
returns-then-not-s c = (
  bounded c.args.m.now c.args.u c.args.h c.requires _ c.record_at-r.ensures _
      c.is_sort.ensures (not-false _ (ap not c.if-not-is_sort.false)) _
      c.child-k.ensures _ c.summary-s.ensures (not-true _ c.if-not-s.true),
  tt,
)

pub keys-own-requires : goal.keys-own-requires
keys-own-requires c = own_proper c.args.m.now c.args.u c.args.h c.requires _ c.record_at-r.ensures

pub row-requires : goal.row-requires
row-requires c = is_here c.args.m.now c.args.u _
    (kid_standing c.args.m.now c.args.u c.args.h c.requires 0
    (sort_some c.args.m.now c.args.u c.args.h c.requires _ c.record_at-r.ensures _
    c.is_sort.ensures (not-false _ (ap not c.if-not-is_sort.false))) _
    c.child-k.ensures)

pub returns-then-n-own : goal.returns-then-n-own
returns-then-n-own c = (
  stays c.args.m.now c.args.u c.args.h c.requires _
      c.record_at-r.ensures _
      c.is_sort.ensures
      (not-false _ (ap not c.if-not-is_sort.false)) _
      c.child-k.ensures _
      c.summary-s.ensures (not-false _ c.if-not-s.false) _
      c.row.ensures.1 _ c.keys-own.ensures _ c.met_keys-n.ensures
      c.if-n-own.true,
  tt,
)

pub returns : goal.returns
returns c = some_met c.args.m.now c.args.u c.args.h c.requires _
    c.record_at-r.ensures _
    c.is_sort.ensures
    (not-false _ (ap not c.if-not-is_sort.false)) _
    c.child-k.ensures _
    c.summary-s.ensures (not-false _ c.if-not-s.false) _
    c.row.ensures.1 _ c.keys-own.ensures _ c.met_keys-n.ensures
    c.if-n-own.false
