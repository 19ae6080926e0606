use Prim.Native.Nat.{ℕ, ◌-◌}
use lib.ListN.{get_or}
use Rattle.semantics.specs.Facts as sem
use mathlib.Core.Path.{subst, ◌≡◌}
use mathlib.Core.List.{List}
use Rattle.facts.specs.declared.Facts.{Facts as Coded}
use Rattle.facts.specs.Known.{known, Says}
use Rattle.fact_slots.specs.Slots.{loaded}
use Rattle.node_facts.specs.Ready.{count, groups_in}
use Rattle.row_facts.specs.Over.{stored_says, streams_less}
use Rattle.row_facts.proofs.aggregate.Goals as goal

pub aggregated-g-requires : goal.aggregated-g-requires
aggregated-g-requires c = rw c.load_row-f.ensures (c.requires.1, c.requires.2, c.requires.4, c.requires.5, c.requires.6)

pub store-requires : goal.store-requires
store-requires c = let f = c.load_row-f.result in
    let e = c.load_row-f.ensures in let g = c.aggregated-g.result in let r = c.args.r.now in (
      c.requires.0,
      c.aggregated-g.ensures.fine,
      streams_less (sem.placed (sem.proj_facts (known f) (groups_in r)) (get_or r 13 0 - count r)) g c.aggregated-g.ensures (rw e c.requires.7),
    )

moved : (f g : Coded) → f ≡ g → (cols : List ℕ) (n : ℕ) (p : Coded) → Says (sem.placed (sem.proj_facts (known f) cols) n) p
    → Says (sem.placed (sem.proj_facts (known g) cols) n) p
moved f g e cols n p s = subst (λ h. Says (sem.placed (sem.proj_facts (known h) cols) n) p) e s

pub returns : goal.returns
returns c = let r = c.args.r.now in
    let cols : List ℕ = groups_in r in
    let n : ℕ = get_or r 13 0 - count r in
    stored_says (sem.placed (sem.proj_facts (known (loaded c.args.b.now)) cols) n) c.aggregated-g.result c.args.own.now c.store.new.b
    (moved c.load_row-f.result (loaded c.args.b.now) c.load_row-f.ensures cols n c.aggregated-g.result c.aggregated-g.ensures)
    c.store.ensures
