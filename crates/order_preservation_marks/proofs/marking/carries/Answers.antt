use native.Mathlib.Omega.{arith}
use mathlib.Core.Path.{sym, ap, ◌∙◌, subst}
use Rattle.plan_codec.specs.Decode.{decode}
use Rattle.record_fields.specs.Proper.{Proper}
use Rattle.order_preservation_marks.specs.Nodes.{slot_proper}
use Rattle.order_preservation_marks.specs.Marking.{is_fetched_coalesce, count_same, carries-none, carries_fetched, carries_any, carries-initiates}
use Rattle.order_preservation_marks.proofs.marking.carries.Goals as goal

pub returns-then-ks-eq0 : goal.returns-then-ks-eq0
returns-then-ks-eq0 c = let m = c.args.m.now in let i = c.args.i in let ks = c.args.ks.now in let e = c.requires.1 in
    carries-none m i ks e c.if-ks-eq0.true

pub is_fetched_coalesce-requires : goal.is_fetched_coalesce-requires
is_fetched_coalesce-requires c = let m = c.args.m.now in let i = c.args.i in let a = c.requires.0 in
    subst Proper (sym c.record_at-r.ensures) (slot_proper m i a)

pub returns-then-is_fetched_coalesce : goal.returns-then-is_fetched_coalesce
returns-then-is_fetched_coalesce c = let m = c.args.m.now in let i = c.args.i in let ks = c.args.ks.now in
    let a = c.requires.0 in let e = c.requires.1 in carries_fetched m i ks e (let x = c.if-ks-eq0.false in
    omega arith) _ (c.is_fetched_coalesce.ensures ∙ ap (λ x. is_fetched_coalesce (decode x)) c.record_at-r.ensures)
    c.if-is_fetched_coalesce.true

pub returns-then-any_marked : goal.returns-then-any_marked
returns-then-any_marked c = let m = c.args.m.now in let i = c.args.i in
    let ks = c.args.ks.now in let a = c.requires.0 in let e = c.requires.1 in
    carries_any m i ks e (let x = c.if-ks-eq0.false in
    omega arith) _ (c.is_fetched_coalesce.ensures ∙ ap (λ x. is_fetched_coalesce (decode x))
    c.record_at-r.ensures) c.if-is_fetched_coalesce.false _ c.any_marked.ensures c.if-any_marked.true

pub initiates-requires : goal.initiates-requires
initiates-requires c = let m = c.args.m.now in let i = c.args.i in
    let ks = c.args.ks.now in let a = c.requires.0 in let e = c.requires.1 in
    (a, let n = count_same m i ks e in let x = c.if-ks-eq0.false in omega arith)

pub returns : goal.returns
returns c = let m = c.args.m.now in let i = c.args.i in
    let ks = c.args.ks.now in let a = c.requires.0 in let e = c.requires.1 in
    carries-initiates m i ks e (let x = c.if-ks-eq0.false in
    omega arith) _ (c.is_fetched_coalesce.ensures ∙ ap (λ x. is_fetched_coalesce (decode x))
    c.record_at-r.ensures) c.if-is_fetched_coalesce.false _ c.any_marked.ensures
    c.if-any_marked.false _ c.initiates.ensures
