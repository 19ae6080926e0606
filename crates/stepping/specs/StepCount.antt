-- What bounds the steps of a dry run: the rows that wait, the sources' rows, and the operators.
use Rattle.std.specs.Prelude.{cond, List, [], ◌∷◌, ℕ, suc, ◌+◌, ◌-◌, eqb, length}
use Rattle.row_order.specs.Iso.{Row}
use Rattle.row_order.specs.Lists.{concat, All, tab}
use Rattle.plan.specs.Forest.{Forest, none, tree}
use Rattle.plan.specs.Op.{SourceInfo, Plan}
use Rattle.plan.specs.Numbers.{code}
use Rattle.stepping.specs.Outlets.{Outlet}

-- All rows that wait
abbrev pub waiting : Forest Outlet → ℕ
waiting none = 0
waiting (tree d c r) = length d.waiting + (waiting c + waiting r)

-- ---- the sources' rows, in node order; i: the number of the first
abbrev pub rows_given : (ℕ → ℕ → List Row) → ℕ → List SourceInfo → ℕ
rows_given rows i [] = 0
rows_given rows i (s ∷ l) = length (concat (tab s.streams (rows i))) + rows_given rows (suc i) l

-- ---- rows times operators: "sources don't move"
abbrev pub operators : Plan → ℕ
operators none = 0
operators (tree o c r) = cond (eqb (code o) 1) 0 1 + (operators c + operators r)
