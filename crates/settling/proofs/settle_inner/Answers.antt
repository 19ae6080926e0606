use native.Mathlib.Omega.{arith}
use mathlib.Core.Path.{sym, ap, ◌∙◌, subst}
use Rattle.semantics.specs.Check.{wants_met}
use Rattle.fact_slots.specs.Slots.{loaded}
use Rattle.node_facts.specs.Ready.{kids_of, Ready}
use Rattle.row_facts.specs.Over.{OverRows as Rows}
use Prim.Native.Nat.{◌+◌, ◌*◌, ◌-◌}
use lib.ListN.{length, take, drop}
use Rattle.scan.specs.ByteLaws.{cut}
use Rattle.semantics.specs.Facts as sem
use Rattle.plan_codec.specs.Decode.{decode}
use Rattle.facts.specs.Known.{Says}
use Rattle.arena.specs.Arena.{slot_size, kept_from, kept_size, slot}
use Rattle.arena.specs.Keeping.{kept_long}
use Rattle.settling.specs.Settling.{shown, over_kids, few_below, settled_with, inner_ready, inner_rows, inner_says, inner_wants, inner_some}
use Rattle.settling.proofs.settle_inner.Goals as goal

pub record_at-requires : goal.record_at-requires
record_at-requires c = c.requires.0.room

pub read64-r-requires : goal.read64-r-requires
read64-r-requires c = let m = c.args.m.now in let i = c.args.i in let a = c.requires.0 in
    ap length c.record_at.ensures ∙ (shown m i a).long

pub child_row-first-requires : goal.child_row-first-requires
child_row-first-requires c = let m = c.args.m.now in let i = c.args.i in let a = c.requires.0 in
    (a, inner_some m (slot m i).rec (slot m i).kids (over_kids m i a) c.requires.1 c.requires.2)

pub second_row-second-requires : goal.second_row-second-requires
second_row-second-requires c = let m = c.args.m.now in let i = c.args.i in
    let a = c.requires.0 in (a, inner_some m (slot m i).rec (slot m i).kids (over_kids m i a) c.requires.1 c.requires.2)

pub wants_met-met-requires : goal.wants_met-met-requires
wants_met-met-requires c = let m = c.args.m.now in
    let i = c.args.i in let a = c.requires.0 in let e = c.read64-r.ensures
    ∙ c.record_at.ensures in
    let r₁ = c.child_row-first in let r₂ = c.second_row-second in let l₁ = r₁.ensures.0 in
    let l₂ = r₂.ensures.0 in (
      omega arith,
      omega arith,
      subst (λ r. Ready r (loaded r₁.result) (loaded r₂.result)) (sym e)
          (inner_ready m (slot m i).rec (slot m i).kids (over_kids m i a) c.requires.1 r₁.result r₂.result r₁.ensures.0 r₂.ensures.0
          r₁.ensures.1 r₂.ensures.1),
    )

pub summed-x-requires : goal.summed-x-requires
summed-x-requires c = let m = c.args.m.now in let i = c.args.i in let a = c.requires.0 in
    let e = c.read64-r.ensures
    ∙ c.record_at.ensures in
    (ap length e ∙ (shown m i a).long, few_below m i a c.args.s c.requires.3)

pub keep_node-requires : goal.keep_node-requires
keep_node-requires c = let m = c.args.m.now in let i = c.args.i in let a = c.requires.0 in
    let e = c.read64-r.ensures
    ∙ c.record_at.ensures in
    let r₁ = c.child_row-first in
    let r₂ = c.second_row-second in
    let n = few_below m i a c.args.s c.requires.3 in let z = ap (λ x. x.nodes) c.summed-x.ensures in (
      subst (λ r. Rows (take (i * slot_size + kept_from + kept_size - (i * slot_size + kept_from)) (drop (i * slot_size + kept_from) m)) r r₁.result
          r₂.result) (sym e) (inner_rows m (slot m i).rec (slot m i).kids (over_kids m i a) c.requires.1 r₁.result r₂.result r₁.ensures.0
          r₂.ensures.0 r₁.ensures.1 r₂.ensures.1 _ (ap length (cut m (i * slot_size + kept_from) kept_size) ∙ kept_long m i a.room) c.requires.2),
      omega arith,
    )

pub returns : goal.returns
returns c = let m = c.args.m.now in let i = c.args.i in let a = c.requires.0 in
    let e = c.read64-r.ensures ∙ c.record_at.ensures in
    let r₁ = c.child_row-first in
    let r₂ = c.second_row-second in
    let k = c.keep_node in let w = c.wants_met-met in
    let f = subst (λ r. Says (sem.facts_op (decode r) (kids_of r (loaded r₁.result) (loaded r₂.result))) (loaded k.new.b)) e k.ensures.0 in
    settled_with m i a c.args.s c.requires.3 _ e _ (inner_wants m (slot m i).rec (slot m i).kids (over_kids m i a) c.requires.1 r₁.result
    r₂.result r₁.ensures.0 r₂.ensures.0 r₁.ensures.1 r₂.ensures.1 _
    (w.ensures ∙ ap (λ r. wants_met (decode r) (kids_of r (loaded r₁.result) (loaded r₂.result))) e)) _
    c.summed-x.ensures k.new.b
    (k.auto.b ∙ ap length (cut m (i * slot_size + kept_from) kept_size) ∙ kept_long m i a.room)
    (inner_says m (slot m i).rec (slot m i).kids (over_kids m i a) c.requires.1 r₁.result r₂.result r₁.ensures.0 r₂.ensures.0
    r₁.ensures.1 r₂.ensures.1 _ f) k.ensures.1
