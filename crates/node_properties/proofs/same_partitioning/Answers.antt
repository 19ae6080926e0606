use mathlib.Core.Path.{sym, ap₂, ◌∙◌}
use mathlib.Core.Bool.{beq}
use borrow.Author.Tests.{not-true, not-false}
use Rattle.walks.specs.ParallelizeSorts.{eq_keys}
use Rattle.node_properties.specs.Partitionings.{first_unequal, second_unequal, streams_differ, streams_equal}
use Rattle.std.proofs.Common.{ap}
use Rattle.std.specs.Prelude.{not}
use Rattle.node_properties.proofs.same_partitioning.Goals as goal

pub returns-then-not-is_repartition : goal.returns-then-not-is_repartition
returns-then-not-is_repartition c = let s = c.args in
    first_unequal s.r.now s.s.now (sym c.is_repartition.ensures ∙ not-true _ (ap not c.if-not-is_repartition.true))

pub returns-then-not-is_repartition-2 : goal.returns-then-not-is_repartition-2
returns-then-not-is_repartition-2 c = let s = c.args in
    second_unequal s.r.now s.s.now (sym c.is_repartition-2.ensures ∙ not-true _ (ap not c.if-not-is_repartition-2.true))

pub returns-then-streams_field : goal.returns-then-streams_field
returns-then-streams_field c = let s = c.args in
    streams_equal s.r.now s.s.now
    (sym c.is_repartition.ensures
    ∙ not-false _ (ap not c.if-not-is_repartition.false))
    (sym c.is_repartition-2.ensures
    ∙ not-false _ (ap not c.if-not-is_repartition-2.false))
    (sym c.streams_field.ensures
    ∙ c.if-streams_field.true ∙ c.streams_field-2.ensures)
    c.same_mark.result c.same_keys.result
    (c.same_mark.ensures ∙ ap₂ beq c.hash_mark.ensures
    c.hash_mark-then-streams_field.ensures) (c.same_keys.ensures ∙ ap₂ eq_keys c.keys.ensures.is
    c.keys-then-streams_field.ensures.is)

pub returns : goal.returns
returns c = let s = c.args in
    streams_differ s.r.now s.s.now (sym c.is_repartition.ensures
    ∙ not-false _ (ap not c.if-not-is_repartition.false)) (sym c.is_repartition-2.ensures
    ∙ not-false _ (ap not c.if-not-is_repartition-2.false))
    (λ e. c.if-streams_field.false (c.streams_field.ensures ∙ e ∙ sym c.streams_field-2.ensures))
