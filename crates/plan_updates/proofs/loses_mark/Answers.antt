use native.Mathlib.Omega.{arith}
use mathlib.Core.Path.{◌≡◌, sym, ◌∙◌}
use mathlib.Core.List.{[], ◌∷◌}
use types.Run.{miss}
use Rattle.plan.specs.declared.Kind.TheVariants.{Repartition}
use Rattle.fact_slots.specs.Slots.{loaded}
use Rattle.plan_context.specs.Facts.{child_is}
use Rattle.plan_context.specs.Nodes.{proper}
use Rattle.plan_updates.specs.Rebuild.{one_kid_lem, may_lose, not-losing}
use Rattle.plan_updates.proofs.loses_mark.Goals as goal

pub bounds-r-0 : goal.bounds-r-0
bounds-r-0 c = let m = c.args.m.now in let r = c.args.r.now in
    let ks = c.args.ks.now in let a = c.requires in let l = (proper m r ks a).long in omega arith

pub preserves-p-requires : goal.preserves-p-requires
preserves-p-requires c = let m = c.args.m.now in let r = c.args.r.now in
    let ks = c.args.ks.now in let a = c.requires in (proper m r ks a).long

pub bounds-ks-0 : goal.bounds-ks-0
bounds-ks-0 c = let m = c.args.m.now in
    let r = c.args.r.now in let ks = c.args.ks.now in let a = c.requires in let k = sym c.kind_of-kind.ensures
    ∙ c.in-Repartition.is in let l = one_kid_lem m r ks a k in omega arith

pub row-requires : goal.row-requires
row-requires c = let m = c.args.m.now in
    let r = c.args.r.now in let ks = c.args.ks.now in let a = c.requires in let k = sym c.kind_of-kind.ensures
    ∙ c.in-Repartition.is in let l = one_kid_lem m r ks a k in a.there 0 (omega arith)

pub counts-requires : goal.counts-requires
counts-requires c = c.row.ensures.1.row

pub returns-in-Repartition : goal.returns-in-Repartition
returns-in-Repartition c = let m = c.args.m.now in
    let r = c.args.r.now in let ks = c.args.ks.now in let a = c.requires in
    let k = sym c.kind_of-kind.ensures ∙ c.in-Repartition.is in
    let l = one_kid_lem m r ks a k in let w = c.row.ensures.1 in
    may_lose m r ks a k (loaded c.row.result.now)
    (child_is m ks 0 (omega arith) (loaded c.row.result.now) (record { usable = w.usable; is = w.is }))
    c.preserves-p.result c.counts.result c.preserves-p.ensures c.counts.ensures

pub returns : goal.returns
returns c = let m = c.args.m.now in let r = c.args.r.now in
    let ks = c.args.ks.now in let a = c.requires in
    not-losing m r ks a (λ e. c.in_default.not-Repartition (c.kind_of-kind.ensures ∙ e))
