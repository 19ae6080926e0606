use native.Mathlib.Omega.{arith}
use mathlib.Core.Path.{sym, ap, ◌∙◌}
use Prim.Native.Nat.{◌/◌}
use lib.ListN.{length}
use lib.Seq.{length-take-le}
use Rattle.arena.specs.Arena.{marked}
use Rattle.order_preservation_marks.specs.Nodes.{shown}
use Rattle.order_preservation_marks.specs.Marking.{half, carry_arena, cut_puts, cut_grown, unmarked_is}
use Rattle.order_preservation_marks.specs.Replacing.{grown_as}
use Rattle.replace_with_order_preserving_variants.proofs.accept.Goals as goal

pub child_count-n-requires : goal.child_count-n-requires
child_count-n-requires c = let m = c.args.m.now in let u = c.args.u in let h = c.args.h in let p = c.requires in
    (carry_arena m u h p).slots

pub unmarked-kids-requires : goal.unmarked-kids-requires
unmarked-kids-requires c = let m = c.args.m.now in let u = c.args.u in let h = c.args.h in
    let p = c.requires in carry_arena m u h p

pub record_at-requires : goal.record_at-requires
record_at-requires c = let m = c.args.m.now in let u = c.args.u in
    let h = c.args.h in let p = c.requires in (carry_arena m u h p).slots

pub read64-r-requires : goal.read64-r-requires
read64-r-requires c = let m = c.args.m.now in let u = c.args.u in
    let h = c.args.h in let p = c.requires in let v = shown m (h / 2) (carry_arena m u h p) in ap length c.record_at.ensures ∙ v.long

pub slice_bounds-kids-end : goal.slice_bounds-kids-end
slice_bounds-kids-end c = let m = c.args.m.now in
    let u = c.args.u in let h = c.args.h in let p = c.requires in let v = shown m (h / 2) (carry_arena m u h p) in let f = v.few in
    let n = c.child_count-n.ensures in let z = v.count in
    let y = c.unmarked-kids.ensures.wide in omega arith

pub slice_bounds-put_again-end-2 : goal.slice_bounds-put_again-end-2
slice_bounds-put_again-end-2 c = let m = c.args.m.now in let u = c.args.u in let h = c.args.h in let p = c.requires in let v = shown m (h / 2) (carry_arena m u h p) in
    let f = v.few in let n = c.child_count-n.ensures in let z = v.count in
    let y = c.unmarked-kids.ensures.wide in
    sym (length-take-le _ c.unmarked-kids.result (omega arith))

pub put_again-a-requires : goal.put_again-a-requires
put_again-a-requires c = let m = c.args.m.now in
    let u = c.args.u in let h = c.args.h in let p = c.requires in let v = shown m (h / 2) (carry_arena m u h p) in
    rw (c.read64-r.ensures, c.record_at.ensures) (
      cut_puts m u h p _ c.unmarked-kids.result
          c.unmarked-kids.ensures
          c.child_count-n.result
          (c.child_count-n.ensures ∙ v.count),
      half m u h p,
    )

pub set_mark-requires : goal.set_mark-requires
set_mark-requires c = let g = c.put_again-a.ensures in let x = g.here in let y = g.arena.small in omega arith

pub shape_of-m : goal.shape_of-m
shape_of-m c = c.put_again-a.auto.m

pub returns : goal.returns
returns c = let m = c.args.m.now in let u = c.args.u in let h = c.args.h in let p = c.requires in let v = shown m (h / 2) (carry_arena m u h p) in
    grown_as (unmarked_is m u h p)
    (cut_grown m u h p _ c.unmarked-kids.result
    c.unmarked-kids.ensures
    c.child_count-n.result
    (c.child_count-n.ensures ∙ v.count)
    (marked h) _ c.put_again-a.result
    (rw (
      c.read64-r.ensures,
      c.record_at.ensures,
    ) at
    c.put_again-a.ensures) _ (rw c.is_marked-b.ensures at c.set_mark.ensures))
