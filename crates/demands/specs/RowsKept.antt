-- What a run delivers, and how often a row is in it. These are definitions.
use Rattle.std.specs.Prelude.{List, [], ℕ, get_or}
use Rattle.row_order.specs.Iso.{Row}
use Rattle.row_order.specs.RowLists.{row_discrete}
use Rattle.row_order.specs.Lists.{concat, sum, one}
use Rattle.plan.specs.Forest.{Forest, roots}
use Rattle.semantics.specs.Runs.{Streams}

-- What the root of a run delivers: the rows of all its streams
abbrev pub delivered : Forest Streams → List Row
delivered out = concat (get_or (roots out) 0 [])

-- How often a row stands in a list
abbrev pub times : Row → List Row → ℕ
times r l = sum (λ x. one (row_discrete x r)) l
