-- The rules of one record of 64 bytes: refusals 4 and 6. These are definitions; the sentences are document 01's, and 02's (P1) for
-- aggregates.
use Rattle.std.specs.Prelude.{Bool, cond, ◌&&◌, ◌||◌, not, List, ℕ, ◌+◌, ◌*◌, ◌/◌, ◌%◌, ◌^◌, leb, ltb, eqb, get_or, drop}
use Rattle.std.specs.Int.Count.{ones}
use Rattle.scan.specs.Bytes.{all_below, zeros, le32}
use Rattle.plan.specs.Numbers.{no_fetch}
use Rattle.plan.specs.WellFormed.{between}
use Rattle.plan_format.specs.declared.Fields.{Fields}
use Rattle.plan_format.specs.Fields.{fields_of}

-- a where t holds, b where it does not
abbrev pub either : Bool → Bool → Bool → Bool
either t a b = (t && a) || (not t && b)

-- '0 kind; 1 children'
abbrev pub kind_byte : List ℕ → ℕ
kind_byte r = get_or r 0 0

abbrev pub children : List ℕ → ℕ
children r = get_or r 1 0

-- The fields that the record's kind has
abbrev pub fields : List ℕ → Fields
fields r = fields_of (kind_byte r)

-- ---- 4: 'unknown kind, or a child count it can't have'

-- '4 union (2-8 children of one width)'; 'Joins have two children, sources none, the rest one'
abbrev pub children_ok : ℕ → ℕ → Bool
children_ok k n = either (eqb k 4) (between 2 8 n) (either (eqb k 11 || eqb k 12) (eqb n 2) (either (eqb k 1) (eqb n 0) (eqb n 1)))

abbrev pub kind_ok : List ℕ → Bool
kind_ok r = between 1 15 (kind_byte r) && children_ok (kind_byte r) (children r)

-- ---- 6: 'another field outside its rule'; 'Unused fields and bits are zero'

-- '2 streams (1-64: ..)'
abbrev pub streams_ok : Fields → ℕ → Bool
streams_ok f v = either f.streams (between 1 64 v) (eqb v 0)

-- Bit i of the marks m
abbrev pub mark : ℕ → ℕ → Bool
mark m i = eqb (m / 2 ^ i % 2) 1

-- '3 marks: bit 0 preserve, bit 1 hash, bit 2 unbounded'
abbrev pub marks_ok : Fields → ℕ → Bool
marks_ok f m = ltb m 8 && ((f.preserve || not (mark m 0)) && ((f.hash || not (mark m 1)) && (f.unbounded || not (mark m 2))))

-- '4-7 fetch, .. local limit must have one'; without a fetch field the bytes are zero (reading 16)
abbrev pub fetch_ok : Fields → ℕ → Bool
fetch_ok f v = either f.fetch (not (f.limit && eqb v no_fetch)) (eqb v 0)

-- '8-11 skip (global limit)'
abbrev pub skip_ok : Fields → ℕ → Bool
skip_ok f v = f.skip || eqb v 0

-- A hash repartition, by its mark
abbrev pub hashed : Fields → ℕ → Bool
hashed f m = f.hash && mark m 1

-- '12 key count 0-8'; h: a hash repartition, which needs a key
abbrev pub key_count_ok : Fields → Bool → ℕ → Bool
key_count_ok f h n = leb n 8 && either (f.needs_key || h) (leb 1 n) (f.noted || eqb n 0)

-- '13 width 1-32 (source, projection)'; an aggregate's is 'at least the key count' n
abbrev pub width_ok : Fields → ℕ → ℕ → Bool
width_ok f n width = either f.width (between (cond f.groups n 1) 32 width) (eqb width 0)

-- '14 join type (0 .. 7), distribution (kind 13: 0 none, 1 single, 2 keyed) or, in a partial sort, its met prefix (1 to key count minus 1)'; n: the key
-- count
abbrev pub byte14_ok : Fields → ℕ → ℕ → Bool
byte14_ok f n b14 = either f.join (leb b14 7) (either f.distribution (leb b14 2) (either f.prefix (leb 1 b14 && ltb b14 n) (eqb b14 0)))

-- '16-31 keys of two bytes, column and options (bit 0 descending, bit 1 nulls first)': key i of n, with column c and options o
abbrev pub key_ok : Bool → ℕ → ℕ → ℕ → ℕ → Bool
key_ok plain n i c o = either (ltb i n) (either plain (eqb o 0) (eqb (o / 4) 0)) (eqb c 0 && eqb o 0)

-- 'a keyed set has 1 to 8 ones'; x: the set
abbrev pub is_keyed : Fields → ℕ → Bool
is_keyed f b14 = f.distribution && eqb b14 2

abbrev pub keyed_set_ok : Fields → ℕ → ℕ → Bool
keyed_set_ok f b14 x = not (is_keyed f b14) || between 1 8 (ones x)

-- How many bytes from 32 on are used: a set of four bytes, as many child columns as the width says, or n right key columns
abbrev pub tail_used : Fields → ℕ → ℕ → ℕ → ℕ
tail_used f b14 width n = cond (f.constants || is_keyed f b14) 4 (cond f.columns width (cond f.join n 0))

-- Bytes 2 to 11
abbrev pub head_ok : Fields → List ℕ → Bool
head_ok f r = (streams_ok f (get_or r 2 0) && marks_ok f (get_or r 3 0)) && (fetch_ok f (le32 r 4) && skip_ok f (le32 r 8))

-- Bytes 12 to 15; '15 zero'
abbrev pub body_ok : Fields → List ℕ → Bool
body_ok f r = (key_count_ok f (hashed f (get_or r 3 0)) (get_or r 12 0) && width_ok f (get_or r 12 0) (get_or r 13 0))
    && (byte14_ok f (get_or r 12 0) (get_or r 14 0) && eqb (get_or r 15 0) 0)

-- Bytes 16 to 31
abbrev pub key_slot_ok : Bool → List ℕ → ℕ → Bool
key_slot_ok plain r i = key_ok plain (get_or r 12 0) i (get_or r (16 + 2 * i) 0) (get_or r (17 + 2 * i) 0)

unfoldable pub key_slots_ok : Bool → List ℕ → Bool
key_slots_ok plain r = all_below (key_slot_ok plain r) 8

-- Bytes 32 to 63
abbrev pub tail_ok : Fields → List ℕ → Bool
tail_ok f r = keyed_set_ok f (get_or r 14 0) (le32 r 32) && zeros (drop (32 + tail_used f (get_or r 14 0) (get_or r 13 0) (get_or r 12 0)) r)

unfoldable pub rules_ok : Fields → List ℕ → Bool
rules_ok f r = head_ok f r && (body_ok f r && (key_slots_ok (f.plain || hashed f (get_or r 3 0)) r && tail_ok f r))

abbrev pub record_ok : List ℕ → Bool
record_ok r = rules_ok (fields r) r
