use native.Mathlib.Omega.{arith}
use mathlib.Core.Path.{sym, ap, ◌∙◌}
use borrow.Author.Tests.{eq-eqb, ne_eqb}
use lib.Dec.{eqb}
use lib.ListN.{get_or}
use Rattle.call_parts.specs.PartialSorts.{shown, is_one, looking_none, looking_next, looking_found, looking_more, looking_all}
use Rattle.call_parts.proofs.+has_partial_sort.Goals as goal

pub record_at-requires : goal.record_at-requires
record_at-requires t c = let h = c.requires.1 in let s = c.requires.0.slots in omega arith

pub bounds-record_at-0 : goal.bounds-record_at-0
bounds-record_at-0 t c = let y = (shown c.args.m.now c.args.u c.args.i c.requires.0 c.requires.1).long in rw c.record_at.ensures (omega arith)

pub returns-then-record_at-eq14 : goal.returns-then-record_at-eq14
returns-then-record_at-eq14 t c =
    is_one c.args.m.now c.args.u c.args.i c.requires.0 c.requires.1
    (ap (λ r. eqb (get_or r 0 0) 14) (sym c.record_at.ensures) ∙ eq-eqb _ 14 c.if-record_at-eq14.true)

pub child_count-n-requires : goal.child_count-n-requires
child_count-n-requires t c = let h = c.requires.1 in let s = c.requires.0.slots in omega arith

pub loop-j-init : goal.loop-j-init
loop-j-init t c = looking_none c.args.m.now c.args.u c.args.i c.requires.0 c.requires.1

pub child-h-requires : goal.child-h-requires
child-h-requires t c =
    let h = c.requires.1 in let s = c.requires.0.slots in let z = shown c.args.m.now c.args.u c.args.i c.requires.0 c.requires.1 in
    let k = z.count in let f = z.few in
    (omega arith, omega arith, omega arith)

pub has_partial_sort-requires : goal.has_partial_sort-requires
has_partial_sort-requires t c =
    let h = c.requires.1 in let d = c.decreases in let z = (shown c.args.m.now c.args.u c.args.i c.requires.0 h).count in
    let n = looking_next c.args.m.now c.args.u c.args.i c.requires.0 h c.loop-j.j c.loop-j.invariant (omega arith) in
    rw c.child-h.ensures (omega arith, (c.requires.0, omega arith))

pub returns-then-has_partial_sort : goal.returns-then-has_partial_sort
returns-then-has_partial_sort t c =
    let z = (shown c.args.m.now c.args.u c.args.i c.requires.0 c.requires.1).count in
    looking_found c.args.m.now c.args.u c.args.i c.requires.0 c.requires.1 c.loop-j.j c.loop-j.invariant (omega arith) _
    (rw c.child-h.ensures at c.has_partial_sort.ensures) c.if-has_partial_sort.true

pub loop-j-preserved : goal.loop-j-preserved
loop-j-preserved t c =
    let z = (shown c.args.m.now c.args.u c.args.i c.requires.0 c.requires.1).count in
    looking_more c.args.m.now c.args.u c.args.i c.requires.0 c.requires.1 c.loop-j.j c.loop-j.invariant (omega arith) _
    (rw c.child-h.ensures at c.has_partial_sort.ensures) c.if-has_partial_sort.false

pub returns : goal.returns
returns t c =
    let z = (shown c.args.m.now c.args.u c.args.i c.requires.0 c.requires.1).count in
    looking_all c.args.m.now c.args.u c.args.i c.requires.0 c.requires.1 c.loop-j.j (omega arith) c.loop-j.invariant
    (ap (λ r. eqb (get_or r 0 0) 14) (sym c.record_at.ensures) ∙ ne_eqb _ 14 c.if-record_at-eq14.false)
