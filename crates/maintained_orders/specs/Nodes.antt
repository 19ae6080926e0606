-- A node's facts among its children's. These are definitions.
use Rattle.std.specs.Prelude.{◌≡◌, true, List, ℕ, ◌<◌, length, get_or}
use Rattle.plan.specs.Op.{Op}
use Rattle.plan.specs.WellFormed.{children_ok}
use Rattle.semantics.specs.Facts.{Facts, facts_op, nothing}

-- A node o over children with facts fs: its own are F, those of child number j are G
pub record Among (o : Op) (fs : List Facts) (j : ℕ) (F G : Facts) : Type 0 where
  pub own : F ≡ facts_op o fs
  pub child : G ≡ get_or fs j nothing
  pub low : j < length fs
  pub count : children_ok o (length fs) ≡ true
