use mathlib.Core.Path.{◌∙◌, sym, ap, ap₂}
use Rattle.class_tables.specs.Tables.{at}
use mathlib.Core.Bool.{Bool, ◌&&◌}
use lib.Dec.{eqb}
use borrow.Author.Tests.{eq-eqb, ne_eqb}
use Rattle.class_tables.proofs.alike.Goals as goal

pub returns-then-low : goal.returns-then-low
returns-then-low c = ap₂ ◌&&◌ (sym (rw (c.low.ensures, c.low-2.ensures) at
    (eq-eqb _ _ c.if-low.true))) (ap₂ eqb c.low-then-low.ensures c.low-then-low-2.ensures)

pub returns-else-low : goal.returns-else-low
returns-else-low c = let s = c.args in
    ne_eqb _ _ c.if-low.false
    ∙ ap (λ (x : Bool). x && eqb (at s.b.now s.i) (at s.b.now s.c))
    (sym (rw (c.low.ensures, c.low-2.ensures) at (ne_eqb _ _ c.if-low.false)))
