use native.Mathlib.Omega.{arith}
use mathlib.Core.Path.{refl, sym, ◌∙◌}
use borrow.Author.Tests.{not-true, not-false}
use lib.ListN.{get_or}
use Rattle.plan_codec.specs.Decode.{decode}
use Rattle.walks.specs.Marks.{fact}
use Rattle.plan_context.specs.View.{tree_of}
use Rattle.plan_updates.specs.Opening.{opened_puts}
use Rattle.bottleneck_removal.specs.Connecting.{some_first}
use Rattle.parallelize_sorts.specs.Exprs.{coalesced, cascades_alike, coalesced_alike, cascades-pass}
use Rattle.parallelize_sorts.specs.Cascading.{step_proper, unconnected, first_here, step_rebuilds, rebuilt_grown, left_grown}
use Rattle.std.proofs.Common.{ap}
use Rattle.std.specs.Prelude.{not}
use Rattle.parallelize_sorts.proofs.parallelize_sorts.Goals as goal

pub update_coalesce_ctx_children-b-requires : goal.update_coalesce_ctx_children-b-requires
update_coalesce_ctx_children-b-requires c = step_proper c.args.m.now c.args.u
    c.args.r.now c.args.ks.now c.args.i
    c.requires

pub stay-requires : goal.stay-requires
stay-requires c = (
  opened_puts c.args.m.now
      c.args.u c.args.r.now
      c.args.ks.now c.args.i
      c.requires,
  c.requires.hint,
)

pub returns-then-not-first_connected : goal.returns-then-not-first_connected
returns-then-not-first_connected c = unconnected c.args.m.now
    c.args.u
    c.args.r.now
    c.args.ks.now
    c.args.i
    c.requires
    c.update_coalesce_ctx_children-b.result
    (c.update_coalesce_ctx_children-b.ensures
    c.args.m.now) _ c.stay.result
    c.stay.ensures
    (sym (c.first_connected.ensures
    c.args.m.now)
    ∙ not-true _ (ap not c.if-not-first_connected.true))

pub bounds-ks-0 : goal.bounds-ks-0
bounds-ks-0 c = let n = some_first c.args.ks.now
    c.args.m.now
    (sym (c.first_connected.ensures c.args.m.now)
    ∙ not-false _ (ap not c.if-not-first_connected.false)) in omega arith

pub sorts_one_stream-requires : goal.sorts_one_stream-requires
sorts_one_stream-requires c = (
  step_proper c.args.m.now
      c.args.u
      c.args.r.now
      c.args.ks.now
      c.args.i
      c.requires,
  first_here c.args.m.now
      c.args.u
      c.args.r.now
      c.args.ks.now
      c.args.i
      c.requires
      (sym (c.first_connected.ensures c.args.m.now)
      ∙ not-false _ (ap not c.if-not-first_connected.false)) _ refl,
)

pub cascade-requires : goal.cascade-requires
cascade-requires c = (
  step_rebuilds c.args.m.now
      c.args.u
      c.args.r.now
      c.args.ks.now
      c.args.i
      c.requires
      (sym (c.first_connected.ensures
      c.args.m.now)
      ∙ not-false _ (ap not c.if-not-first_connected.false)) _ refl
      (cascades-pass (decode c.args.r.now)
      (fact (tree_of c.args.m.now
      (get_or c.args.ks.now 0 0)))
      (sym c.sorts_one_stream.ensures ∙ c.if-sorts_one_stream.true)),
  (sym c.sorts_one_stream.ensures ∙ c.if-sorts_one_stream.true),
)

pub returns-then-sorts_one_stream : goal.returns-then-sorts_one_stream
returns-then-sorts_one_stream c = rebuilt_grown c.args.m.now c.args.u
    c.args.r.now
    c.args.ks.now
    c.args.i
    c.requires
    (sym (c.first_connected.ensures
    c.args.m.now)
    ∙ not-false _ (ap not c.if-not-first_connected.false)) _ refl
    (cascades-pass (decode c.args.r.now) (fact (tree_of c.args.m.now
    (get_or c.args.ks.now 0 0)))
    (sym c.sorts_one_stream.ensures ∙ c.if-sorts_one_stream.true))
    (λ x. cascades_alike (decode c.args.r.now) x (tree_of c.args.m.now
    (get_or c.args.ks.now 0 0))
    (sym c.sorts_one_stream.ensures ∙ c.if-sorts_one_stream.true)) _
    c.cascade.result c.cascade.ensures

pub is_coalesce_partitions-requires : goal.is_coalesce_partitions-requires
is_coalesce_partitions-requires c = step_proper c.args.m.now
    c.args.u
    c.args.r.now
    c.args.ks.now
    c.args.i
    c.requires

pub coalesce_again-requires : goal.coalesce_again-requires
coalesce_again-requires c = (
  step_rebuilds c.args.m.now
      c.args.u
      c.args.r.now
      c.args.ks.now
      c.args.i
      c.requires
      (sym (c.first_connected.ensures
      c.args.m.now)
      ∙ not-false _ (ap not c.if-not-first_connected.false)) _ refl
      (coalesced (decode c.args.r.now)
      (tree_of c.args.m.now
      (get_or c.args.ks.now 0 0))
      (sym c.is_coalesce_partitions.ensures ∙ c.if-is_coalesce_partitions.true)).pass,
  (sym c.is_coalesce_partitions.ensures ∙ c.if-is_coalesce_partitions.true),
)

pub returns-then-is_coalesce_partitions : goal.returns-then-is_coalesce_partitions
returns-then-is_coalesce_partitions c = rebuilt_grown c.args.m.now c.args.u c.args.r.now c.args.ks.now c.args.i c.requires
    (sym (c.first_connected.ensures
    c.args.m.now)
    ∙ not-false _ (ap not c.if-not-first_connected.false)) _ refl
    (coalesced (decode c.args.r.now) (tree_of c.args.m.now (get_or
    c.args.ks.now 0
    0)) (sym c.is_coalesce_partitions.ensures ∙ c.if-is_coalesce_partitions.true)).pass
    (λ x. coalesced_alike (decode
    c.args.r.now) x
    (tree_of c.args.m.now (get_or c.args.ks.now 0 0)) (sym c.is_coalesce_partitions.ensures ∙ c.if-is_coalesce_partitions.true))
    _ c.coalesce_again.result c.coalesce_again.ensures

pub stay-requires-2 : goal.stay-requires-2
stay-requires-2 c = (
  opened_puts
      c.args.m.now
      c.args.u
      c.args.r.now
      c.args.ks.now
      c.args.i
      c.requires,
  c.requires.hint,
)

pub returns : goal.returns
returns c = left_grown c.args.m.now c.args.u c.args.r.now c.args.ks.now c.args.i c.requires
    (sym (c.first_connected.ensures
    c.args.m.now)
    ∙ not-false _ (ap not c.if-not-first_connected.false)) _ refl
    (sym c.sorts_one_stream.ensures
    ∙ c.if-sorts_one_stream.false) (sym c.is_coalesce_partitions.ensures
    ∙ c.if-is_coalesce_partitions.false)
    c.update_coalesce_ctx_children-b.result
    (c.update_coalesce_ctx_children-b.ensures
    c.args.m.now) _
    c.stay-2.result c.stay-2.ensures
