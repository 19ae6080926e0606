use native.Mathlib.Omega.{arith}
use mathlib.Core.Path.{subst}
use mathlib.Core.List.{List, []}
use lib.ListN.{set, length-set}
use Rattle.row_order.specs.Iso.{Key}
use Rattle.semantics.specs.Facts as sem
use Rattle.facts.specs.Known.{Says}
use Rattle.fact_slots.specs.Slots.{loaded}
use Rattle.asked_facts.specs.Asked.{told}
use Rattle.row_facts.specs.Rows.{one_says}
use Rattle.row_facts.proofs.sort.Goals as goal

pub returns-then-preserve : goal.returns-then-preserve
returns-then-preserve c = rw c.if-preserve.true (subst (λ (l : List Key). Says (sem.reorder (told c.args.b.now) l) (loaded c.reorder.new.own))
    c.key_list.ensures.is c.reorder.ensures)

pub bounds-own : goal.bounds-own
bounds-own c = simp length-set (let k = c.reorder.auto.own in
    let p = c.requires.0 in omega arith)

pub returns : goal.returns
returns c = let k = c.reorder.auto.own in
    rw c.if-preserve.false (subst (λ (l : List Key). Says (sem.ordered (told c.args.b.now) 1 (sem.nf (told c.args.b.now) [] l))
    (loaded (set (set c.reorder.new.own 2 1) 3 0))) c.key_list.ensures.is
    (one_says (told c.args.b.now) _ _ c.reorder.new.own (omega (arith, c.requires.0))
    c.reorder.ensures))
