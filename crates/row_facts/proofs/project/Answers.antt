use lib.ListN.{get_or}
use Rattle.semantics.specs.Facts as sem
use mathlib.Core.Path.{subst, ◌≡◌}
use mathlib.Core.List.{List}
use Prim.Native.Nat.{ℕ}
use Rattle.facts.specs.declared.Facts.{Facts as Coded}
use Rattle.facts.specs.Known.{known, Says}
use Rattle.fact_slots.specs.Slots.{loaded}
use Rattle.node_facts.specs.Ready.{lent_columns}
use Rattle.row_facts.specs.Over.{stored_says, streams_less}
use Rattle.row_facts.proofs.project.Goals as goal

pub projected-g-requires : goal.projected-g-requires
projected-g-requires c = rw c.load_row-f.ensures (c.requires.1, c.requires.2, c.requires.4, c.requires.5)

pub store-requires : goal.store-requires
store-requires c = let f = c.load_row-f.result in
    let e = c.load_row-f.ensures in let g = c.projected-g.result in (
      c.requires.0,
      c.projected-g.ensures.fine,
      streams_less (sem.proj_facts (known f) (lent_columns c.args.r.now (get_or c.args.r.now 13 0))) g
          c.projected-g.ensures (rw e c.requires.6),
    )

moved : (f g : Coded) → f ≡ g → (cols : List ℕ) (p : Coded) → Says (sem.proj_facts (known f) cols) p → Says (sem.proj_facts (known g) cols) p
moved f g e cols p s = subst (λ h. Says (sem.proj_facts (known h) cols) p) e s

pub returns : goal.returns
returns c = let cols : List ℕ = lent_columns c.args.r.now (get_or c.args.r.now 13 0) in
    stored_says (sem.proj_facts (known (loaded c.args.b.now)) cols) c.projected-g.result c.args.own.now c.store.new.b
    (moved c.load_row-f.result (loaded c.args.b.now) c.load_row-f.ensures cols c.projected-g.result c.projected-g.ensures)
    c.store.ensures
