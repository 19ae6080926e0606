use native.Mathlib.Omega.{arith}
use mathlib.Core.Path.{sym, ap, ◌∙◌}
use lib.ListN.{length}
use Rattle.plan.specs.Numbers.{number_of}
use Rattle.plan_format.specs.Passed.{refused_some}
use Rattle.plan_arena.specs.ReadFile.{read_ok, read_err, fillable}
use Rattle.settling.specs.Reading.{loaded_all}
use Rattle.node_lines.specs.Laws.{put_as, put_most}
use Rattle.plan_listing.specs.Laws.{shown_plan, shown_refusal}
use Rattle.plan_listing.proofs.show_in.Goals as goal

pub settle_all-requires : goal.settle_all-requires
settle_all-requires c = let l = c.requires.0 in let k = c.read.auto.m in let q = read_ok c.read.ensures c.in-Ok.is in let r = c.in-Ok.a in
    let by = c.type_inv.plan in
    loaded_all c.args.plan.now q.0 (record { below = λ i g. omega (arith, by i) }) c.read.new.m r.used r.root (omega arith) q.1

pub list-requires : goal.list-requires
list-requires c = let l = c.requires.0 in let k = c.read.auto.m in let q = read_ok c.read.ensures c.in-Ok.is in let r = c.in-Ok.a in
    let j = c.settle_all.auto.m in
    let f = fillable c.args.plan.now r.used (length c.read.new.m) q.0 q.1.used (omega arith) in
    (let h = f.fits in omega arith, f.most, c.requires.1)

pub returns-in-Ok : goal.returns-in-Ok
returns-in-Ok c = let q = read_ok c.read.ensures c.in-Ok.is in
    put_as (shown_plan c.args.plan.now c.settle_all.new.m c.in-Ok.a.used q.0 q.1.used) c.list.ensures

pub returns-in-Err : goal.returns-in-Err
returns-in-Err c = let e = read_err c.read.ensures c.in-Err.is in
    put_as
    (shown_refusal c.args.plan.now c.read.new.m c.number.result (c.number.ensures ∙ sym (ap number_of e)) (λ z. refused_some c.in-Err.x (sym c.number.ensures ∙ z)))
    (put_most 36197 (omega arith) c.refuse.ensures)
