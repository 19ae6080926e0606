-- A listing: a heading, then a line for each node in node order; a refusal's number alone (01, 'Worked on paper'). These are definitions.
use Rattle.std.specs.Prelude.{cond, List, [], ◌∷◌, ◌++◌, ℕ, zero, suc, ◌+◌, ◌-◌, ◌*◌, eqb, length}
use Rattle.scan.specs.Bytes.{part}
use Rattle.plan.specs.Numbers.{number_of}
use Rattle.plan_format.specs.Record.{children}
use Rattle.plan_format.specs.Blocks.{record_count}
use Rattle.plan_format.specs.Reading.{refusal_of}
use Rattle.arena.specs.Arena.{slot_size}
use Rattle.node_lines.specs.Lines.{ascii, decimal, slot_line}

-- ---- depths. Of a node: how many nodes are still to come at its depth, itself among them, then at each depth above it but the root's; so its depth is
-- their number

-- the node itself has come
abbrev pub less : List ℕ → List ℕ
less [] = []
less (n ∷ ns) = (n - 1) ∷ ns

-- up to the first depth where nodes are still to come
abbrev pub up : List ℕ → List ℕ
up [] = []
up (zero ∷ ns) = up ns
up (suc n ∷ ns) = suc n ∷ ns

-- "Records stand parent first, then each child's subtree in order": the next is the first child, if there is one
abbrev pub after : List ℕ → ℕ → List ℕ
after ns zero = up (less ns)
after ns (suc k) = suc k ∷ less ns

-- ---- lines

-- of slots of the arena in node order, from number i on
unfoldable pub lines : List (List ℕ) → ℕ → List ℕ → List ℕ
lines [] i ns = []
lines (s ∷ ss) i ns = slot_line s i (length ns) ++ lines ss (i + 1) (after ns (children s))

-- the first u slots of an arena: those of a file's nodes stand in it from the last to the first
unfoldable pub slots : List ℕ → ℕ → List (List ℕ)
slots m zero = []
slots m (suc u) = part (u * slot_size) slot_size m ∷ slots m u

abbrev pub heading : List ℕ
heading = ascii "node depth kind streams fetch keys\n"

abbrev pub listing : List ℕ → ℕ → List ℕ
listing m u = heading ++ lines (slots m u) 0 []

-- "a refusal prints only its number"
abbrev pub refusal_line : ℕ → List ℕ
refusal_line n = decimal n ++ ascii "\n"

-- What is shown of the file s, which was read into the arena m
abbrev pub shown : List ℕ → List ℕ → List ℕ
shown s m = cond (eqb (number_of (refusal_of s)) 0) (listing m (record_count s)) (refusal_line (number_of (refusal_of s)))
