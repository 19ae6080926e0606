use mathlib.Core.Path.{sym, ap, ◌∙◌, subst}
use Rattle.plan_codec.specs.Decode.{decode}
use Rattle.arena.specs.Arena.{slot}
use Rattle.semantics.specs.Properties.{singles}
use Rattle.record_fields.specs.Proper.{Proper}
use Rattle.walks.specs.ParallelizeSorts.{bottleneck}
use Rattle.bottleneck_removal.specs.Shown.{room, node_proper, kid_asks, kid_older}
use Rattle.bottleneck_removal.specs.IdleNodes.{no_first, single_first, some_kid, looks_first}
use Rattle.bottleneck_removal.proofs.bottlenecks.removes_first.Goals as goal

pub child_count-requires : goal.child_count-requires
child_count-requires c = room c.args.m.now c.args.i c.requires.0

pub returns-then-child_count-eq0 : goal.returns-then-child_count-eq0
returns-then-child_count-eq0 c = no_first c.args.m.now c.args.i
    c.requires.0
    (decode (slot c.args.m.now c.args.i).rec)
    (sym c.child_count.ensures ∙ c.if-child_count-eq0.true)

pub wants_single-requires : goal.wants_single-requires
wants_single-requires c = subst Proper (sym c.requires.1)
    (node_proper c.args.m.now c.args.i
    c.requires.0)

pub returns-then-wants_single : goal.returns-then-wants_single
returns-then-wants_single c = single_first c.args.m.now
    c.args.i c.requires.0
    (decode (slot c.args.m.now c.args.i).rec)
    (ap (λ x. singles (decode x) 0) (sym c.requires.1) ∙ sym c.wants_single.ensures
    ∙ c.if-wants_single.true)

pub child-k-requires : goal.child-k-requires
child-k-requires c = kid_asks c.args.m.now
    c.args.i c.requires.0 0
    (some_kid c.args.m.now c.args.i
    c.requires.0 (decode c.args.r.now)
    (λ e. c.if-child_count-eq0.false (c.child_count.ensures ∙ e)))

pub record_at-requires : goal.record_at-requires
record_at-requires c = room c.args.m.now _
    (kid_older c.args.m.now
    c.args.i c.requires.0 0
    (some_kid c.args.m.now
    c.args.i c.requires.0
    (decode c.args.r.now)
    (λ e. c.if-child_count-eq0.false (c.child_count.ensures ∙ e))) c.child-k.result
    c.child-k.ensures)

pub is_bottleneck-requires : goal.is_bottleneck-requires
is_bottleneck-requires c = subst Proper (sym c.record_at.ensures)
    (node_proper c.args.m.now _
    (kid_older c.args.m.now
    c.args.i
    c.requires.0 0
    (some_kid c.args.m.now
    c.args.i
    c.requires.0
    (decode c.args.r.now)
    (λ e. c.if-child_count-eq0.false (c.child_count.ensures ∙ e)))
    c.child-k.result c.child-k.ensures))

pub returns : goal.returns
returns c = looks_first c.args.m.now
    c.args.i
    c.requires.0
    (decode (slot c.args.m.now
    c.args.i).rec)
    (λ e. c.if-child_count-eq0.false (c.child_count.ensures ∙ e))
    (ap (λ x. singles (decode x) 0) (sym c.requires.1)
    ∙ sym c.wants_single.ensures ∙ c.if-wants_single.false) c.child-k.result
    c.child-k.ensures c.is_bottleneck.result
    (c.is_bottleneck.ensures ∙ ap (λ x. bottleneck (decode x)) c.record_at.ensures)
