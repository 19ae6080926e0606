use native.Mathlib.Omega.{arith}
use mathlib.Core.Path.{sym, subst}
use mathlib.Core.Bool.{cond}
use mathlib.Core.List.{[]}
use lib.ListN.{drop, set, length-set}
use Rattle.semantics.specs.Facts as sem
use Rattle.facts.specs.Known.{Says}
use Rattle.fact_slots.specs.Slots.{loaded}
use Rattle.asked_facts.specs.Asked.{told}
use Rattle.row_facts.specs.Rows.{restream_says}
use Rattle.row_facts.proofs.restream.Goals as goal

pub bounds-own : goal.bounds-own
bounds-own c = simp length-set (let k = c.keep.auto.own in
    let p = c.requires.0 in omega arith)

pub bounds-own-1 : goal.bounds-own-1
bounds-own-1 c = simp length-set (let k = c.keep.auto.own in
    let p = c.requires.0 in omega arith)

pub returns : goal.returns
returns c = let b = c.args.b.now in let n = c.byte_if-n.result in
    subst (λ o. Says (sem.ordered (told b) c.args.streams (cond c.args.keeps (told b).order []))
    (loaded (set (set (set o 2 c.args.streams) 3 0) 1 n))) (sym c.keep.ensures)
    (restream_says b (drop 48 c.args.own.now) c.requires.1.long c.requires.1.fine c.args.streams n c.args.keeps c.byte_if-n.ensures)
