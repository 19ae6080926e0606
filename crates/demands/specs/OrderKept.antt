-- An operator that is fed in the order that it wants, and a run all of whose operators are. These are definitions.
use Rattle.std.specs.Prelude.{◌≡◌, false, List, [], ℕ, ◌<◌, length, get_or}
use Rattle.row_order.specs.Iso.{before}
use Rattle.plan.specs.Forest.{Forest}
use Rattle.plan.specs.Op.{Op, Plan}
use Rattle.semantics.specs.Properties.{wanted}
use Rattle.semantics.specs.Runs.{Streams}
use Rattle.semantics.specs.Holds.{Everywhere}

-- An operator and the streams of each of its children: no row stands on stream s of child i after a row that it sorts before, by the
-- order that the operator wants of child i
abbrev pub FedInOrder : Op → List Streams → Type 0
FedInOrder o children =
    (i s : ℕ) → let stream = get_or (get_or children i []) s [] in
    (m n : ℕ) → m < n → n < length stream → before (wanted o i) (get_or stream n []) (get_or stream m []) ≡ false

-- Every operator of a plan is fed so, by the streams that a run chose for every node
abbrev pub AllFed : Plan → Forest Streams → Type 0
AllFed f out = Everywhere (λ o below children own. FedInOrder o children) f out
