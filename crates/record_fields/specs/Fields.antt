-- A record's keys and columns as the code holds them: keys packed into one number each. These are definitions.
use Rattle.std.specs.Prelude.{List, [], ◌∷◌, ℕ, ◌+◌, ◌*◌, ◌%◌, drop}
use Rattle.scan.specs.Bytes.{part}

-- "keys of two bytes, column and options": as one number each, the options above the column's five bits
abbrev pub packed : List ℕ → List ℕ
packed [] = []
packed (c ∷ []) = []
packed (c ∷ o ∷ l) = (32 * o + c % 32) ∷ packed l

-- "16-31 keys": all eight places; those past the key count are zero
abbrev pub packed_keys : List ℕ → List ℕ
packed_keys r = packed (part 16 16 r)

-- "32-63 projection: child columns; 32-39 joins: right key columns"
abbrev pub tail_columns : List ℕ → List ℕ
tail_columns r = drop 32 r

-- Reading 14: a sort-merge join's right keys take the left keys' options
abbrev pub right_packed : List ℕ → List ℕ → List ℕ
right_packed [] l = []
right_packed (c ∷ []) l = []
right_packed (c ∷ o ∷ ks) [] = []
right_packed (c ∷ o ∷ ks) (d ∷ l) = (32 * o + d % 32) ∷ right_packed ks l

abbrev pub packed_right_keys : List ℕ → List ℕ
packed_right_keys r = right_packed (part 16 16 r) (part 32 8 r)
