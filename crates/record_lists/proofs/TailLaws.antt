-- Zeros at the end of a record, eight bytes at once. Assumes nothing.
use Rattle.std.specs.Prelude.{◌≡◌, Bool, true, false, ◌&&◌, List, ℕ, ◌+◌, ◌*◌, ◌/◌, ◌^◌, ◌≤◌, ◌<◌, eqb, leb, length, get_or, drop}
use Rattle.std.proofs.Common.{sym, ap, ap₂, ◌∙◌, arith, length-drop, drop-drop, take_all, eq-eqb, ne_eqb}
use Rattle.std.specs.Int.Count.{ones}
use Rattle.scan.specs.Bytes.{part, zeros, le32}
use Rattle.scan.specs.ByteLaws.{zeros_parts, zeros_from}
use Rattle.scan.specs.Words.{value, Small, small_part, value-zero, value-drop}
use Rattle.plan_format.specs.Fields.{fields_of}
use Rattle.plan_format.specs.Record.{tail_ok}

module _ (r : List ℕ) where
  eight_more : (a : ℕ) → eqb (value (part a 8 r)) 0 && zeros (drop (a + 8) r) ≡ zeros (drop a r)
  eight_more a =
      ap₂ (λ (b : Bool) (l : List ℕ). b && zeros l) (value-zero (part a 8 r)) (sym (drop-drop 8 a r)) ∙ sym (zeros_parts (drop a r) 8)

  pub last_three : length r ≡ 64 → eqb (value (part 40 8 r)) 0 && (eqb (value (part 48 8 r)) 0 && eqb (value (part 56 8 r)) 0) ≡ zeros (drop 40 r)
  last_three l =
      ap (λ b. eqb (value (part 40 8 r)) 0 && b)
      (ap (λ b. eqb (value (part 48 8 r)) 0 && b) (value-zero (part 56 8 r) ∙ ap zeros (take_all 8 (drop 56 r) (let d = length-drop 56 r in omega arith)))
      ∙ eight_more 48)
      ∙ eight_more 40

  pub last_four : eqb (value (part 32 8 r)) 0 && zeros (drop 40 r) ≡ zeros (drop 32 r)
  last_four = eight_more 32

  -- the first u bytes are used
  pub last_from : (u : ℕ) → u < 8 → Small r → eqb (value (part 32 8 r) / 2 ^ (8 * u)) 0 && zeros (drop 40 r) ≡ zeros (drop (32 + u) r)
  last_from u h s =
      ap₂ (λ (v : ℕ) (l : List ℕ). eqb v 0 && zeros l) (value-drop (part 32 8 r) u (small_part r 32 8 s)) (sym (drop-drop 8 32 r))
      ∙ ap (λ b. b && zeros (drop 8 (drop 32 r))) (value-zero (drop u (part 32 8 r)))
      ∙ sym (zeros_from (drop 32 r) u 8 (omega arith))
      ∙ ap zeros (drop-drop u 32 r)

  -- kind 13: keyed, and not
  pub tail_keyed : get_or r 14 0 ≡ 2 → (leb 1 (ones (le32 r 32)) && leb (ones (le32 r 32)) 8) && zeros (drop 36 r) ≡ tail_ok (fields_of 13) r
  tail_keyed e = rw e

  pub tail_unkeyed : (get_or r 14 0 ≡ 2 → ⊥) → zeros (drop 32 r) ≡ tail_ok (fields_of 13) r
  tail_unkeyed n = let e : eqb (get_or r 14 0) 2 ≡ false = ne_eqb (get_or r 14 0) 2 n in rw e
