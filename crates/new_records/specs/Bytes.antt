-- The bytes of a new node's record. These are definitions.
use Rattle.std.specs.Prelude.{List, [], ◌∷◌, ◌++◌, ℕ, ◌/◌, ◌%◌, length, Option}
use Rattle.row_order.specs.Iso.{Key}
use Rattle.plan_codec.specs.Encode.{fill, key_bytes, fetch_number}

-- kind k, marks m, fetch f, skip s, n keys, byte 14 b
abbrev pub head_of : ℕ → ℕ → ℕ → ℕ → ℕ → ℕ → List ℕ
head_of k m f s n b =
    k ∷ 1 ∷ 0 ∷ m ∷ (f % 256) ∷ (f / 256 % 256) ∷ (f / 65536 % 256) ∷ (f / 16777216 % 256) ∷ (s % 256) ∷ (s / 256 % 256) ∷ (s / 65536 % 256)
    ∷ (s / 16777216 % 256) ∷ n ∷ 0 ∷ b ∷ 0 ∷ []

abbrev pub new_bytes : ℕ → ℕ → Option ℕ → ℕ → List Key → ℕ → List ℕ
new_bytes k m f s ks b = head_of k m (fetch_number f) s (length ks) b ++ (fill 16 (key_bytes ks) ++ fill 32 [])
