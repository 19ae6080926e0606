use native.Mathlib.Omega.{arith}
use Rattle.order_preserving_plans.specs.Preserving.{entered_asks, entered_grown}
use Rattle.order_preserving_plans.proofs.preserving.plan_with_order_preserving_variants.Goals as goal

pub set_mark-requires : goal.set_mark-requires
set_mark-requires c = let p = c.requires in let x = p.enters.here in let y = p.enters.arena.small in omega arith

pub preserve_marked-requires : goal.preserve_marked-requires
preserve_marked-requires c = let m = c.args.m.now in let u = c.args.u in let h = c.args.h in
    let p = c.requires in let spr = c.args.spr in let spm = c.args.spm in let f = c.args.fetch in entered_asks m u h spr spm f p _ c.set_mark.ensures

pub returns : goal.returns
returns c = let m = c.args.m.now in let u = c.args.u in let h = c.args.h in
    let p = c.requires in let spr = c.args.spr in let spm = c.args.spm in let f = c.args.fetch in
    entered_grown m u h spr spm f p _ c.set_mark.ensures _ c.preserve_marked.result
    c.preserve_marked.ensures
