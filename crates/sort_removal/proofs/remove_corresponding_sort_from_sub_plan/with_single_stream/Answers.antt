use borrow.Author.Tests.{not-true, not-false}
use Rattle.sort_connection.specs.Standing.{is_here}
use Rattle.sort_removal.specs.SingleStream.{whole, mark_small, not_asked, one_stream, with_single_stream_puts, with_single_stream_grown}
use Rattle.std.proofs.Common.{ap}
use Rattle.std.specs.Prelude.{not}
use Rattle.sort_removal.proofs.remove_corresponding_sort_from_sub_plan.with_single_stream.Goals as goal

pub returns-then-not-single : goal.returns-then-not-single
returns-then-not-single c = not_asked c.args.m.now c.args.u c.args.h c.args.single c.requires (not-true _ (ap not c.if-not-single.true))

pub row-own-requires : goal.row-own-requires
row-own-requires c = is_here c.args.m.now c.args.u c.args.h (whole c.args.m.now c.args.u c.args.h c.args.single c.requires)

pub returns-then-not-several_streams : goal.returns-then-not-several_streams
returns-then-not-several_streams c = one_stream c.args.m.now c.args.u c.args.h c.args.single c.requires (not-false _ (ap not c.if-not-single.false)) _
    c.row-own.ensures.1 _ c.several_streams.ensures (not-true _ (ap not c.if-not-several_streams.true))

pub fetch_at-requires : goal.fetch_at-requires
fetch_at-requires c = is_here c.args.m.now c.args.u c.args.h (whole c.args.m.now c.args.u c.args.h c.args.single c.requires)

pub single_stream_record-r-requires : goal.single_stream_record-r-requires
single_stream_record-r-requires c = c.known_order.ensures.real

pub set_mark-k-requires : goal.set_mark-k-requires
set_mark-k-requires c = mark_small c.args.m.now c.args.u c.args.h c.args.single c.requires

pub put_over-requires : goal.put_over-requires
put_over-requires c = with_single_stream_puts c.args.m.now c.args.u c.args.h c.args.single c.requires
    (not-false _ (ap not c.if-not-single.false)) _
    c.row-own.ensures.1 _
    c.several_streams.ensures
    (not-false _ (ap not c.if-not-several_streams.false)) _
    c.known_order.ensures _
    c.fetch_at.ensures _ c.single_stream_record-r.ensures _
    c.is_connected.ensures _ c.set_mark-k.ensures

pub returns : goal.returns
returns c = with_single_stream_grown c.args.m.now c.args.u c.args.h c.args.single c.requires
    (not-false _ (ap not c.if-not-single.false)) _ c.row-own.ensures.1 _
    c.several_streams.ensures
    (not-false _ (ap not c.if-not-several_streams.false)) _
    c.known_order.ensures _
    c.fetch_at.ensures _
    c.single_stream_record-r.ensures _
    c.is_connected.ensures _ c.set_mark-k.ensures _
    c.put_over.result c.put_over.ensures
