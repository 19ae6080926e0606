use native.Mathlib.Omega.{arith}
use mathlib.Core.Path.{ap, ◌∙◌}
use mathlib.Core.Bool.{true}
use Prim.Native.Nat.{◌+◌, ◌*◌}
use lib.ListN.{length}
use Rattle.scan.specs.ByteLaws.{cut}
use Rattle.arena.specs.Arena.{slot_size, kept_from, kept_size, slot}
use Rattle.arena.specs.Keeping.{kept_long}
use Rattle.plan_context.specs.Nodes.{union_some, union_says}
use Rattle.settling.specs.Settling.{shown, over_kids, few_below, few_streams, settled_with, union_wants}
use Rattle.settling.proofs.settle_union.Goals as goal

pub record_at-requires : goal.record_at-requires
record_at-requires c = c.requires.0.room

pub read64-r-requires : goal.read64-r-requires
read64-r-requires c = let m = c.args.m.now in let i = c.args.i in let a = c.requires.0 in
    ap length c.record_at.ensures ∙ (shown m i a).long

pub united-f-requires : goal.united-f-requires
united-f-requires c = let m = c.args.m.now in let i = c.args.i in let a = c.requires.0 in
    (a, union_some m (slot m i).rec (slot m i).kids (over_kids m i a) c.requires.1)

pub summed-x-requires : goal.summed-x-requires
summed-x-requires c = let m = c.args.m.now in let i = c.args.i in
    let a = c.requires.0 in let e = c.read64-r.ensures ∙ c.record_at.ensures in
    (ap length e ∙ (shown m i a).long, few_below m i a c.args.s c.requires.2)

pub keep-requires : goal.keep-requires
keep-requires c = let m = c.args.m.now in let i = c.args.i in
    let a = c.requires.0 in let u = c.united-f in let n = few_below m i a c.args.s c.requires.2 in
    let z = ap (λ x. x.nodes) c.summed-x.ensures in (
      ap length (cut m (i * slot_size + kept_from) kept_size) ∙ kept_long m i a.room,
      u.ensures.fine,
      few_streams m i a c.args.s c.requires.2 _
          (union_says m (slot m i).rec (slot m i).kids (over_kids m i a) c.requires.1 _ u.ensures),
      omega arith,
    )

pub returns : goal.returns
returns c = let m = c.args.m.now in
    let i = c.args.i in let a = c.requires.0 in let e = c.read64-r.ensures
    ∙ c.record_at.ensures in let k = c.keep in
    let u = union_says m (slot m i).rec (slot m i).kids (over_kids m i a) c.requires.1 _
    c.united-f.ensures in
    settled_with m i a c.args.s c.requires.2 _ e true (union_wants m (slot m i).rec (slot m i).kids (over_kids m i a) c.requires.1) _
    c.summed-x.ensures k.new.b (k.auto.b ∙ ap length (cut m (i * slot_size + kept_from) kept_size)
    ∙ kept_long m i a.room) (record { is = k.ensures.0.is ∙ u.is; fine = k.ensures.0.fine }) k.ensures.1
