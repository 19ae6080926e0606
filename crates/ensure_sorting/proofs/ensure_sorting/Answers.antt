use native.Mathlib.Omega.{arith}
use mathlib.Core.Path.{sym}
use lib.Seq.{length-take-le}
use Rattle.ensure_sorting.specs.Step.{few_kids, copied_opened, copied_grown}
use Rattle.ensure_sorting.proofs.ensure_sorting.Goals as goal

pub copied-kids-requires : goal.copied-kids-requires
copied-kids-requires c = few_kids c.args.m.now c.args.u c.args.r.now c.args.ks.now c.args.i c.requires

pub slice_bounds-kids-end : goal.slice_bounds-kids-end
slice_bounds-kids-end c = let w = c.copied-kids.ensures.wide in
    let f = few_kids c.args.m.now c.args.u c.args.r.now c.args.ks.now c.args.i c.requires in omega arith

pub slice_bounds-ensure_open-end : goal.slice_bounds-ensure_open-end
slice_bounds-ensure_open-end c = let w = c.copied-kids.ensures.wide in
    let f = few_kids c.args.m.now c.args.u c.args.r.now c.args.ks.now c.args.i c.requires in
    sym (length-take-le _ c.copied-kids.result (omega arith))

pub ensure_open-requires : goal.ensure_open-requires
ensure_open-requires c = copied_opened c.args.m.now c.args.u c.args.r.now c.args.ks.now c.args.i _ c.copied-kids.ensures c.requires

pub returns : goal.returns
returns c = copied_grown c.args.m.now c.args.u c.args.r.now c.args.ks.now c.args.i _
    c.copied-kids.ensures _ _ c.ensure_open.ensures
