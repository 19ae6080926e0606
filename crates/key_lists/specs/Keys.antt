-- Key lists and orders as the code holds them, and offsets of columns. These are definitions.
use Rattle.std.specs.Prelude.{◌≡◌, List, [], ◌∷◌, ◌++◌, ℕ, zero, suc, ◌*◌, ◌/◌, ◌^◌, ◌≤◌, ◌<◌, ℤ, pos, nat_abs, ◌+ℤ◌, ◌≤ℤ◌, ◌<ℤ◌, Option, Some, None}
use Rattle.row_order.specs.Iso.{Key}
use Rattle.row_order.specs.Packed.{key_of}
use Rattle.semantics.specs.Facts.{with_column}
use Rattle.key_lists.specs.declared.Iter.{Iter}
use Rattle.key_lists.specs.declared.Keys.{Keys}

-- n keys of a word, a byte for each, the first in the lowest: key_of reads seven bits of it
abbrev pub keys_in : ℕ → ℕ → List Key
keys_in zero w = []
keys_in (suc n) w = key_of w ∷ keys_in n (w / 256)

abbrev pub keys_of : Keys → List Key
keys_of k = keys_in k.len k.word

-- the keys that an iterator has still to give
abbrev pub keys_left : Iter → List Key
keys_left it = keys_in it.left it.word

-- k holds the list ks
pub record Keyed (ks : List Key) (k : Keys) : Type 0 where
  pub is : keys_of k ≡ ks
  pub few : k.len ≤ 8

-- Nothing stands in the word behind the list
abbrev pub Tight : Keys → Type 0
Tight k = k.word < 2 ^ (8 * k.len)

-- r is the list k with one key more
pub record Longer (k : Keys) (key : ℕ) (r : Keys) : Type 0 where
  pub is : keys_of r ≡ keys_of k ++ (key_of key ∷ [])
  pub len : r.len ≡ suc k.len
  pub tight : Tight r

-- "an empty one is no order"
abbrev pub order_of : Option Keys → List Key
order_of None = []
order_of (Some k) = keys_of k

-- An order has one key at least
abbrev pub Real : Option Keys → Type 0
Real None = Unit {0}
Real (Some k) = (0 < k.len) × (k.len ≤ 8)

-- o is the order ks; no order where ks is empty
pub record Ordered (ks : List Key) (o : Option Keys) : Type 0 where
  pub is : order_of o ≡ ks
  pub real : Real o

-- "isize offsets for the right side: signed, range shown": a number that is a column, 0 to 31
pub record InRange (z : ℤ) : Type 0 where
  pub low : pos 0 ≤ℤ z
  pub high : z <ℤ pos 32

-- The key's column plus the offset is a column
abbrev pub Movable : ℤ → Key → Type 0
Movable by k = InRange (pos k.col +ℤ by)

-- The key at that column
abbrev pub moved_by : ℤ → Key → Key
moved_by by k = with_column (nat_abs (pos k.col +ℤ by)) k
