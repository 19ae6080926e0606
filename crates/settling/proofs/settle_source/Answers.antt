use native.Mathlib.Omega.{arith}
use mathlib.Core.Path.{◌≡◌, sym, ap, ◌∙◌, subst}
use mathlib.Core.Bool.{true}
use mathlib.Core.List.{map}
use Rattle.row_order.specs.Packed.{key_of}
use Rattle.scan.specs.Bytes.{le32}
use Rattle.plan.specs.WellFormed.{set_fits}
use Rattle.record_fields.specs.Fields.{tail_columns}
use Rattle.node_facts.specs.Ready.{count, lent_keys}
use Prim.Native.Nat.{◌+◌, ◌*◌, ◌≤◌}
use lib.ListN.{length, get_or}
use Rattle.scan.specs.ByteLaws.{cut}
use Rattle.semantics.specs.Facts as sem
use Rattle.facts.specs.Known.{Says}
use Rattle.arena.specs.Arena.{slot_size, kept_from, kept_size, slot}
use Rattle.arena.specs.Keeping.{kept_long}
use Rattle.settling.specs.Settling.{shown, over_kids, few_below, few_streams, settled_with, source_asks, source-fact, source_wants, not_union}
use Rattle.settling.proofs.settle_source.Goals as goal

pub record_at-requires : goal.record_at-requires
record_at-requires c = c.requires.0.room

pub read64-r-requires : goal.read64-r-requires
read64-r-requires c = let m = c.args.m.now in let i = c.args.i in let a = c.requires.0 in
    ap length c.record_at.ensures ∙ (shown m i a).long

pub source_of-f-requires : goal.source_of-f-requires
source_of-f-requires c = let m = c.args.m.now in let i = c.args.i in let a = c.requires.0 in
    let e = c.read64-r.ensures ∙ c.record_at.ensures in
    let q = source_asks m (slot m i).rec (slot m i).kids (over_kids m i a) (not_union c.requires.1) c.requires.1 in
    subst (λ r. (length r ≡ 64) × (count r ≤ 8) × (get_or r 13 0 ≤ 32) × (set_fits (get_or r 13 0) (le32 (tail_columns r) 0) ≡ true)) (sym e) q

pub summed-x-requires : goal.summed-x-requires
summed-x-requires c = let m = c.args.m.now in let i = c.args.i in
    let a = c.requires.0 in let e = c.read64-r.ensures ∙ c.record_at.ensures in
    (ap length e ∙ (shown m i a).long, few_below m i a c.args.s c.requires.2)

pub keep-requires : goal.keep-requires
keep-requires c = let m = c.args.m.now in let i = c.args.i in
    let a = c.requires.0 in let e = c.read64-r.ensures
    ∙ c.record_at.ensures in let u = c.source_of-f in
    let n = few_below m i a c.args.s c.requires.2 in let z = ap (λ x. x.nodes) c.summed-x.ensures in
    let f = source-fact m (slot m i).rec (slot m i).kids (over_kids m i a) (not_union c.requires.1) c.requires.1 _
    (subst (λ r. Says (sem.reorder (sem.source_facts (get_or r 13 0) (get_or r 2 0) (le32 (tail_columns r) 0)) (map key_of (lent_keys r (count r))))
    u.result) e u.ensures) in
    (ap length (cut m (i * slot_size + kept_from) kept_size) ∙ kept_long m i a.room, f.fine, few_streams m i a c.args.s c.requires.2 _ f, omega arith)

pub returns : goal.returns
returns c = let m = c.args.m.now in
    let i = c.args.i in let a = c.requires.0 in let e = c.read64-r.ensures
    ∙ c.record_at.ensures in let k = c.keep in
    let u = c.source_of-f in
    let f = source-fact m (slot m i).rec (slot m i).kids (over_kids m i a) (not_union c.requires.1) c.requires.1 _
    (subst (λ r. Says (sem.reorder (sem.source_facts (get_or r 13 0) (get_or r 2 0) (le32 (tail_columns r) 0)) (map key_of (lent_keys r (count r))))
    u.result) e u.ensures) in
    settled_with m i a c.args.s c.requires.2 _ e true (source_wants m (slot m i).rec (slot m i).kids (over_kids m i a) (not_union c.requires.1)
    c.requires.1) _ c.summed-x.ensures k.new.b (k.auto.b ∙ ap length (cut m (i * slot_size + kept_from) kept_size)
    ∙ kept_long m i a.room) (record { is = k.ensures.0.is ∙ f.is; fine = k.ensures.0.fine }) k.ensures.1
