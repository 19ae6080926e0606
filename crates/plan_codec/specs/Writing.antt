-- Writing: the file of a plan. These are definitions.
use Rattle.std.specs.Prelude.{List, [], ◌∷◌, ◌++◌, ℕ, length}
use Rattle.plan.specs.Forest.{none, tree, roots}
use Rattle.plan.specs.Op.{Plan}
use Rattle.plan_format.specs.Writing.{file_of}
use Rattle.plan_codec.specs.Encode.{encode}

-- "Records stand parent first, then each child's subtree in order", each with its number of children
abbrev pub records_of : Plan → List (List ℕ)
records_of none = []
records_of (tree o c r) = encode (length (roots c)) o ∷ (records_of c ++ records_of r)

abbrev pub file_of_plan : Plan → List ℕ
file_of_plan f = file_of (records_of f)
