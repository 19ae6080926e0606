use mathlib.Core.Path.{sym, ◌∙◌}
use Rattle.plan_updates.specs.Again.{again_asks, again_counts, again_grown}
use Rattle.plan_updates.proofs.put_again.Goals as goal

pub same_record-requires : goal.same_record-requires
same_record-requires c = let m = c.args.m.now in let u = c.args.u in let r = c.args.r.now in
    let ks = c.args.ks.now in again_asks m u r ks c.requires.0 c.args.i c.requires.1

pub same_children-requires : goal.same_children-requires
same_children-requires c = let m = c.args.m.now in let u = c.args.u in
    let r = c.args.r.now in let ks = c.args.ks.now in
    again_counts m u r ks c.requires.0 c.args.i c.requires.1 (sym c.same_record.ensures ∙ c.if-same_record.true)

pub returns-then-same_children : goal.returns-then-same_children
returns-then-same_children c = let m = c.args.m.now in let u = c.args.u in
    let r = c.args.r.now in let ks = c.args.ks.now in
    again_grown m u r ks c.requires.0 c.args.i c.requires.1 (sym c.same_record.ensures
    ∙ c.if-same_record.true) (sym c.same_children.ensures ∙ c.if-same_children.true)
