-- Storing what is kept of one node leaves the nodes, and what is kept of the others, alone.
use Rattle.std.specs.Prelude.{◌≡◌, length, take, drop}
use Rattle.std.proofs.Math.Path.{refl, ap₂}
use Rattle.std.proofs.Common.{sym, ap, ◌∙◌, arith, drop-drop}
use mathlib.Core.List.{List, ◌∷◌}
use Prim.Native.Nat.{ℕ, zero, suc, ◌+◌, ◌*◌, ◌-◌, ◌≤◌, ◌<◌}
use Rattle.std.proofs.Math.Decide.{dec_lt}
use Rattle.scan.specs.Bytes.{part}
use Rattle.scan.specs.ByteLaws.{length_part}
use Rattle.scan.specs.Parts.{splice, splice_here, splice_front, splice-drop, splice-length, part_same}
use Rattle.plan_format.specs.Record.{children}
use Rattle.arena.specs.Arena.{slot_size, record_size, kept_from, kept_size, numbers_in, slot, held, kept_part}
use Rattle.arena.specs.Held.{node_of}

pub kept_long : (m : List ℕ) (k : ℕ) → (k + 1) * slot_size ≤ length m → length (kept_part m k) ≡ kept_size
kept_long m k h = length_part m (k * slot_size + kept_from) kept_size (omega arith)

-- p in the place of what is kept of node i
abbrev pub with_kept : List ℕ → ℕ → List ℕ → List ℕ
with_kept m i p = splice m (i * slot_size + kept_from) kept_size p

module _ (m : List ℕ) (i : ℕ) (p : List ℕ) (h : (i + 1) * slot_size ≤ length m) (l : length p ≡ kept_size) where
  pub kept_front : take (i * slot_size + kept_from) (with_kept m i p) ≡ take (i * slot_size + kept_from) m
  kept_front = splice_front m p (i * slot_size + kept_from) kept_size (omega arith) l

  pub length_with : length (with_kept m i p) ≡ length m
  length_with = splice-length m p (i * slot_size + kept_from) kept_size (omega arith) l

  -- a part that ends before it
  before : (a n : ℕ) → a + n ≤ i * slot_size + kept_from → part a n (with_kept m i p) ≡ part a n m
  before a n g = part_same a (i * slot_size + kept_from) n (with_kept m i p) m g kept_front

  -- a part that starts behind it
  behind : (a n : ℕ) → i * slot_size + slot_size ≤ a → part a n (with_kept m i p) ≡ part a n m
  behind a n g =
      let b : ℕ = i * slot_size + kept_from + kept_size in
      let c : ℕ = a - (i * slot_size + slot_size) in
      let e : a ≡ i * slot_size + kept_from + kept_size + (a - (i * slot_size + slot_size)) = omega arith in
      let d : (x : List ℕ) → drop a x ≡ drop c (drop b x) = λ x. ap (λ k. drop k x) e ∙ sym (drop-drop c b x) in
      ap (take n) (d (with_kept m i p) ∙ ap (drop c) (splice-drop m p (i * slot_size + kept_from) kept_size (omega arith) l) ∙ sym (d m))

  -- a part on either side of it
  apart : (j a n : ℕ) → (i < j → i * slot_size + slot_size ≤ a) → ((i < j → ⊥) → a + n ≤ i * slot_size + kept_from) → part a n (with_kept m i p) ≡ part a n m
  apart j a n f k = go (dec_lt i j)
    where
      go : Dec (i < j) → part a n (with_kept m i p) ≡ part a n m
      go (yes g) = behind a n (f g)
      go (no g) = before a n (k g)

  pub slot_kept : (j : ℕ) → slot (with_kept m i p) j ≡ slot m j
  unfolding slot
  slot_kept j =
      ap₂ (λ r b. node_of r (numbers_in b (children r))) (apart j (j * slot_size) record_size (λ g. omega arith) (λ g. omega arith))
      (apart j (j * slot_size + record_size) 16 (λ g. omega arith) (λ g. omega arith))

  -- the nodes stay
  pub held_kept : (v : ℕ) → held (with_kept m i p) v ≡ held m v
  unfolding held
  held_kept zero = refl
  held_kept (suc v) = ap₂ ◌∷◌ (slot_kept v) (held_kept v)

  pub kept_here : kept_part (with_kept m i p) i ≡ p
  kept_here = splice_here m p (i * slot_size + kept_from) kept_size (omega arith) l
