use native.Mathlib.Omega.{arith}
use mathlib.Core.Path.{ap, ◌∙◌}
use Prim.Native.Nat.{◌*◌}
use Rattle.plan.specs.Op.{coalesce}
use Rattle.plan_codec.specs.Encode.{encode}
use Rattle.arena.specs.Laws.{below_at}
use Rattle.plan_context.specs.View.{forest}
use Rattle.plan_updates.specs.ProperRecords.{record_proper}
use Rattle.order_breaking_plans.specs.Breaking.{one_below, merge_puts, merge_broken}
use Rattle.order_breaking_plans.proofs.breaking.break_merge.Goals as goal

pub fetch-requires : goal.fetch-requires
fetch-requires c = let m = c.args.m.now in let r = c.args.r.now in let ks = c.args.ks.now in
    let p = c.requires.0 in record_proper r _ (forest m ks) p.canon p.ok

pub bounds-ks-0 : goal.bounds-ks-0
bounds-ks-0 c = let m = c.args.m.now in let w = c.args.w in
    let r = c.args.r.now in let ks = c.args.ks.now in let p = c.requires.0 in let e = c.requires.1 in let n = one_below m w r ks p e in omega arith

pub set_mark-requires : goal.set_mark-requires
set_mark-requires c = let m = c.args.m.now in let w = c.args.w in
    let r = c.args.r.now in let ks = c.args.ks.now in let p = c.requires.0 in let e = c.requires.1 in let n = one_below m w r ks p e in
    let l = below_at (2 * w) ks 0 p.below (omega arith) in let z = p.small in omega arith

pub put_over-requires : goal.put_over-requires
put_over-requires c = let m = c.args.m.now in
    let w = c.args.w in let r = c.args.r.now in let ks = c.args.ks.now in let p = c.requires.0 in let e = c.requires.1 in
    merge_puts m w r ks p e _ (c.coalesce_record-x.ensures ∙ ap (λ f. encode 1 (coalesce f))
    c.fetch.ensures) _ c.set_mark.ensures

pub returns : goal.returns
returns c = let m = c.args.m.now in
    let w = c.args.w in let r = c.args.r.now in let ks = c.args.ks.now in let p = c.requires.0 in let e = c.requires.1 in
    merge_broken m w r ks p e _ (c.coalesce_record-x.ensures ∙ ap (λ f. encode 1 (coalesce f))
    c.fetch.ensures) _ c.set_mark.ensures _
    c.put_over.result c.put_over.ensures
