use mathlib.Core.Path.{sym, ◌∙◌, ap, ap₂}
use mathlib.Core.Bool.{Bool, ◌||◌}
use Rattle.row_order.specs.Packed.{bit}
use Rattle.column_sets.specs.Sets.{below}
use Rattle.class_tables.specs.Tables.{at, in_classes}
use Rattle.class_tables.specs.Linking.{spread, unspread}
use Rattle.class_tables.proofs.linked_set.Goals as goal

pub returns-then-has_one : goal.returns-then-has_one
returns-then-has_one c = let s = c.args in
    λ d. c.either.ensures d ∙ ap (λ (x : Bool). bit s.set d || x)
    (c.class_set-class.ensures d ∙ ap₂ (λ x y. below s.width (in_classes s.table.now x y) d) c.low.ensures
    c.low-then-has_one.ensures)
    ∙ spread (bit s.set d) (below s.width (in_classes s.table.now (at s.table.now s.a) (at s.table.now s.b)) d)
    (bit s.set s.a || bit s.set s.b) (sym c.has_one.ensures
    ∙ c.if-has_one.true)

pub returns : goal.returns
returns c = let s = c.args in
    λ d. unspread (bit s.set d) (below s.width (in_classes s.table.now (at s.table.now s.a) (at s.table.now s.b)) d)
    (bit s.set s.a || bit s.set s.b) (sym c.has_one.ensures ∙ c.if-has_one.false)
