-- Rows as bytes (02, P3): "per stream, in node and stream order, a row count in four, then by row the null set in four and each cell in eight,
-- 0 for a null". These are definitions.
use Rattle.std.specs.Prelude.{Bool, true, false, cond, not, ◌&&◌, ◌||◌, List, [], ◌∷◌, ◌++◌, map, ℕ, zero, suc, ◌+◌, ◌*◌, ◌-◌, ◌/◌, ◌%◌, ◌^◌, ℤ, pos, negsuc, eqb, ltb, leb, length, get_or}
use Rattle.row_order.specs.Iso.{Cell, null, num, Row}
use Rattle.row_order.specs.Lists.{tab, concat}
use Rattle.row_order.specs.Packed.{bit, row_of}
use Rattle.scan.specs.Bytes.{part, zeros, le32, all_below}
use Rattle.scan.specs.Words.{value}
use Rattle.plan.specs.Op.{SourceInfo, Plan}
use Rattle.plan.specs.WellFormed.{set_fits}
use Rattle.semantics.specs.Runs.{Streams}
use Rattle.semantics.specs.SourceRows.{sources_of}

-- ---- numbers

-- A signed number in eight bytes, as two's complement
abbrev pub signed : ℕ → ℤ
signed x = cond (ltb x (2 ^ 63)) (pos x) (negsuc (2 ^ 64 - 1 - x))

abbrev pub unsigned : ℤ → ℕ
unsigned (pos n) = n
unsigned (negsuc n) = 2 ^ 64 - 1 - n

-- The n lowest bytes of x, the lowest first
abbrev pub little_endian : ℕ → ℕ → List ℕ
little_endian zero x = []
little_endian (suc n) x = x % 256 ∷ little_endian n (x / 256)

-- ---- in. Of the bytes s, at place a

-- The bytes of a row of w columns
abbrev pub row_size : ℕ → ℕ
row_size w = 4 + 8 * w

abbrev pub cell_bytes_at : List ℕ → ℕ → ℕ → List ℕ
cell_bytes_at s a c = part (a + 4 + 8 * c) 8 s

abbrev pub numbers_at : List ℕ → ℕ → ℕ → List ℤ
numbers_at s a w = tab w (λ c. signed (value (cell_bytes_at s a c)))

abbrev pub row_at : List ℕ → ℕ → ℕ → Row
row_at s a w = row_of (le32 s a) (numbers_at s a w)

-- No null above the width, and a null's cell is 0
abbrev pub row_ok : List ℕ → ℕ → ℕ → Bool
row_ok s a w = set_fits w (le32 s a) && all_below (λ c. not (bit (le32 s a) c) || zeros (cell_bytes_at s a c)) w

-- Where row i of a stream stands, and where the stream ends
abbrev pub row_place : ℕ → ℕ → ℕ → ℕ
row_place a w i = a + 4 + i * row_size w

abbrev pub stream_end : List ℕ → ℕ → ℕ → ℕ
stream_end s a w = row_place a w (le32 s a)

abbrev pub stream_at : List ℕ → ℕ → ℕ → List Row
stream_at s a w = tab (le32 s a) (λ i. row_at s (row_place a w i) w)

abbrev pub stream_ok : List ℕ → ℕ → ℕ → Bool
stream_ok s a w = leb (a + 4) (length s) && (leb (stream_end s a w) (length s) && all_below (λ i. row_ok s (row_place a w i) w) (le32 s a))

-- Streams one after another, of these widths; no byte is missing or left over
abbrev pub streams_ok : List ℕ → ℕ → List ℕ → Bool
streams_ok s a [] = eqb a (length s)
streams_ok s a (w ∷ ws) = stream_ok s a w && streams_ok s (stream_end s a w) ws

abbrev pub streams_at : List ℕ → ℕ → List ℕ → Streams
streams_at s a [] = []
streams_at s a (w ∷ ws) = stream_at s a w ∷ streams_at s (stream_end s a w) ws

-- How many rows they hold together
abbrev pub rows_together : List ℕ → ℕ → List ℕ → ℕ
rows_together s a ws = length (concat (streams_at s a ws))

-- The widths of all sources' streams, "in node and stream order"
abbrev pub stream_widths : List SourceInfo → List ℕ
stream_widths [] = []
stream_widths (s ∷ l) = tab s.streams (λ k. s.width) ++ stream_widths l

-- How many streams the first i sources have
abbrev pub streams_before : List SourceInfo → ℕ → ℕ
streams_before [] i = 0
streams_before (s ∷ l) zero = 0
streams_before (s ∷ l) (suc i) = s.streams + streams_before l i

-- All streams of a plan's sources, and those of source i
abbrev pub source_streams : Plan → List ℕ → Streams
source_streams f s = streams_at s 0 (stream_widths (sources_of f []))

abbrev pub rows_in : Plan → List ℕ → ℕ → ℕ → List Row
rows_in f s i k = get_or (source_streams f s) (streams_before (sources_of f []) i + k) []

abbrev pub form_ok : Plan → List ℕ → Bool
form_ok f s = streams_ok s 0 (stream_widths (sources_of f []))

-- ---- out

abbrev pub null_set : Row → ℕ
null_set [] = 0
null_set (null ∷ l) = 1 + 2 * null_set l
null_set (num z ∷ l) = 2 * null_set l

abbrev pub cell_bytes : Cell → List ℕ
cell_bytes null = little_endian 8 0
cell_bytes (num z) = little_endian 8 (unsigned z)

abbrev pub row_bytes : Row → List ℕ
row_bytes x = little_endian 4 (null_set x) ++ concat (map cell_bytes x)

abbrev pub stream_bytes : List Row → List ℕ
stream_bytes l = little_endian 4 (length l) ++ concat (map row_bytes l)

abbrev pub streams_bytes : Streams → List ℕ
streams_bytes ss = concat (map stream_bytes ss)
