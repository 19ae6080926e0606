use native.Mathlib.Omega.{arith}
use mathlib.Core.Path.{sym, ap, ◌∙◌, subst}
use lib.ListN.{get_or, length}
use Rattle.plan.specs.Numbers.{kind_of}
use Rattle.plan_codec.specs.Decode.{from_bytes}
use Rattle.semantics.specs.Facts.{facts, known_order}
use Rattle.arena.specs.Arena.{slot}
use Rattle.plan_context.specs.Laws.{here}
use Rattle.step_nodes.specs.Moves.{KeysAre, preserving, by_record, by_nothing}
use Rattle.step_nodes.specs.Laying.{op_in, below_in, shown, slot_proper, kids_ok, child_asks, child_there, child_facts}
use Rattle.step_nodes.proofs.move_keys.Goals as goal

pub bounds-r-0 : goal.bounds-r-0
bounds-r-0 c = let z = (shown c.args.m.now c.args.u c.args.i c.requires.0 c.requires.1).long in
    rw c.record_at-r.ensures (omega arith)

pub record_row-requires : goal.record_row-requires
record_row-requires c = slot_proper c.args.m.now c.args.u c.args.i c.requires.0 c.requires.1 _ c.record_at-r.ensures

pub returns-then-by_own_keys : goal.returns-then-by_own_keys
returns-then-by_own_keys c = let m = c.args.m.now in let i = c.args.i in let e = c.record_at-r.ensures in
    by_record (slot m i).rec (facts (below_in m i)) _ _ (c.kind_of.ensures ∙ ap (λ r. kind_of (get_or r 0 0)) e) c.by_own_keys.ensures c.if-by_own_keys.true
    c.record_row.result (subst (λ r. KeysAre (from_bytes r).keys c.record_row.result) e c.record_row.ensures)

pub child-c-requires : goal.child-c-requires
child-c-requires c = let m = c.args.m.now in let u = c.args.u in let i = c.args.i in let a = c.requires.0 in let l = c.requires.1 in
    let p = preserving (op_in m i) (facts (below_in m i)) (sym c.mark_counts.ensures ∙ c.if-mark_counts.true) in
    let n = p.one (length (slot m i).kids) (kids_ok m u i a l) in
    let y = (shown m u i a l).count in child_asks m u i a l 0 (omega arith)

pub row-requires : goal.row-requires
row-requires c = let m = c.args.m.now in let u = c.args.u in let i = c.args.i in let a = c.requires.0 in let l = c.requires.1 in
    let p = preserving (op_in m i) (facts (below_in m i)) (sym c.mark_counts.ensures ∙ c.if-mark_counts.true) in
    let n = p.one (length (slot m i).kids) (kids_ok m u i a l) in
    here m u _ a (child_there m u i a l 0 (omega arith) _ c.child-c.ensures)

pub order_row-requires : goal.order_row-requires
order_row-requires c = c.known_order.ensures.real

pub returns-then-mark_counts : goal.returns-then-mark_counts
returns-then-mark_counts c = let m = c.args.m.now in let u = c.args.u in let i = c.args.i in let a = c.requires.0 in let l = c.requires.1 in
    let p = preserving (op_in m i) (facts (below_in m i)) (sym c.mark_counts.ensures ∙ c.if-mark_counts.true) in
    let n = p.one (length (slot m i).kids) (kids_ok m u i a l) in
    subst (λ ks. KeysAre ks c.order_row.result)
    (c.known_order.ensures.is ∙ ap known_order (child_facts m u i a l 0 (omega arith) _ c.child-c.ensures _ c.row.ensures.1.is) ∙ sym p.keys)
    c.order_row.ensures

pub returns : goal.returns
returns c = let m = c.args.m.now in let i = c.args.i in let e = c.record_at-r.ensures in
    by_nothing (slot m i).rec (facts (below_in m i)) _ _ (c.kind_of.ensures ∙ ap (λ r. kind_of (get_or r 0 0)) e) c.by_own_keys.ensures c.if-by_own_keys.false
    _ c.mark_counts.ensures c.if-mark_counts.false c.order_row-2.result c.order_row-2.ensures
