use mathlib.Core.Path.{sym, ap, ◌∙◌, subst}
use lib.Dec.{eqb}
use Rattle.plan.specs.Numbers.{code}
use Rattle.plan_codec.specs.Decode.{decode}
use Rattle.record_fields.specs.Proper.{Proper}
use mathlib.Core.Bool.{true}
use lib.ListN.{length}
use Rattle.arena.specs.Arena.{slot}
use Rattle.walks.specs.Trees.{OkT}
use Rattle.plan_context.specs.View.{forest}
use Rattle.plan_updates.specs.ProperRecords.{record_proper}
use Rattle.order_preservation_marks.specs.Nodes.{shown}
use Rattle.order_preservation_marks.specs.Replacing.{grown_as, slot_arena}
use Rattle.order_preserving_plans.specs.Preserving.{by_repartition, by_coalesce, by_other}
use Rattle.order_preserving_plans.proofs.preserving.preserve_over.Goals as goal

pub record_at-requires : goal.record_at-requires
record_at-requires c = let m = c.args.m.now in let w = c.args.w in let i = c.args.i in
    let ks = c.args.ks.now in let p = c.requires.0 in (slot_arena m w i (slot m i).rec ks p c.requires.1).slots

pub read64-r-requires : goal.read64-r-requires
read64-r-requires c = let m = c.args.m.now in let w = c.args.w in let i = c.args.i in
    let ks = c.args.ks.now in let p = c.requires.0 in
    ap length c.record_at.ensures ∙ (shown m i (slot_arena m w i (slot m i).rec ks p c.requires.1)).long

pub is_repartition-requires : goal.is_repartition-requires
is_repartition-requires c = let m = c.args.m.now in let i = c.args.i in
    let ks = c.args.ks.now in let p = c.requires.0 in let d = forest m ks in
    subst Proper (sym (c.read64-r.ensures ∙ c.record_at.ensures)) (record_proper (slot m i).rec _ d p.canon p.ok)

pub preserve_repartition-requires : goal.preserve_repartition-requires
preserve_repartition-requires c = let p = c.requires.0 in
    let q = (c.read64-r.ensures ∙ c.record_at.ensures) in
    (rw q p, c.requires.1, q, sym c.is_repartition.ensures ∙ c.if-is_repartition.true)

pub returns-then-is_repartition : goal.returns-then-is_repartition
returns-then-is_repartition c = let m = c.args.m.now in
    let i = c.args.i in let ks = c.args.ks.now in let o = decode (slot m i).rec in let f = c.args.fetch in let c₀ = forest m (slot m i).kids in
    let d = forest m ks in grown_as
    (sym (by_repartition c.args.spr c.args.spm f true c₀ d o
    (sym (c.is_repartition.ensures ∙ ap (λ x. eqb (code (decode x)) 5)
    (c.read64-r.ensures
    ∙ c.record_at.ensures))
    ∙ c.if-is_repartition.true)))
    (rw (c.read64-r.ensures
    ∙ c.record_at.ensures) at c.preserve_repartition.ensures)

pub is_coalesce_partitions-requires : goal.is_coalesce_partitions-requires
is_coalesce_partitions-requires c = let m = c.args.m.now in
    let i = c.args.i in let ks = c.args.ks.now in let p = c.requires.0 in let d = forest m ks in
    subst Proper (sym (c.read64-r.ensures ∙ c.record_at.ensures))
    (record_proper (slot m i).rec _ d p.canon p.ok)

pub preserve_coalesce-requires : goal.preserve_coalesce-requires
preserve_coalesce-requires c = let m = c.args.m.now in let i = c.args.i in let ks = c.args.ks.now in let p = c.requires.0 in let o = decode (slot m i).rec in
    let f = c.args.fetch in let c₀ = forest m (slot m i).kids in let d = forest m ks in
    let q = (c.read64-r.ensures
    ∙ c.record_at.ensures) in (
      rw q p,
      c.requires.1,
      sym c.is_coalesce_partitions.ensures ∙ c.if-is_coalesce_partitions.true,
      rw q (subst OkT (by_coalesce c.args.spr c.args.spm f true c₀ d o
          (sym (c.is_coalesce_partitions.ensures ∙ ap (λ x. eqb (code (decode x)) 6)
          (c.read64-r.ensures
          ∙ c.record_at.ensures)) ∙ c.if-is_coalesce_partitions.true) c.requires.2)
          c.requires.3),
    )

pub returns-then-is_coalesce_partitions : goal.returns-then-is_coalesce_partitions
returns-then-is_coalesce_partitions c = let m = c.args.m.now in let i = c.args.i in let ks = c.args.ks.now in let o = decode (slot m i).rec in let f = c.args.fetch in
    let c₀ = forest m (slot m i).kids in let d = forest m ks in
    grown_as (sym (by_coalesce c.args.spr c.args.spm f true c₀ d o
    (sym (c.is_coalesce_partitions.ensures ∙ ap (λ x. eqb (code (decode x)) 6)
    (c.read64-r.ensures
    ∙ c.record_at.ensures))
    ∙ c.if-is_coalesce_partitions.true) c.requires.2))
    (rw (c.read64-r.ensures
    ∙ c.record_at.ensures) at
    c.preserve_coalesce.ensures)

pub update_plan_from_children-requires : goal.update_plan_from_children-requires
update_plan_from_children-requires c = let p = c.requires.0 in
    let q = (c.read64-r.ensures
    ∙ c.record_at.ensures) in (rw q p, c.requires.1)

pub returns : goal.returns
returns c = let m = c.args.m.now in let i = c.args.i in let ks = c.args.ks.now in let o = decode (slot m i).rec in let f = c.args.fetch in
    let c₀ = forest m (slot m i).kids in let d = forest m ks in
    grown_as (sym (by_other c.args.spr c.args.spm f true c₀ d o
    (sym (c.is_repartition.ensures ∙ ap (λ x. eqb (code (decode x)) 5)
    (c.read64-r.ensures
    ∙ c.record_at.ensures))
    ∙ c.if-is_repartition.false)
    (sym (c.is_coalesce_partitions.ensures ∙ ap (λ x. eqb (code (decode x)) 6)
    (c.read64-r.ensures
    ∙ c.record_at.ensures))
    ∙ c.if-is_coalesce_partitions.false)))
    (rw (c.read64-r.ensures
    ∙ c.record_at.ensures) at
    c.update_plan_from_children.ensures)
