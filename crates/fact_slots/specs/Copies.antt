-- Stored facts that are copied: what follows their 48 bytes does not count. Assumes nothing.
use Rattle.std.specs.Prelude.{◌≡◌, List, ◌++◌, ℕ, ◌+◌, ◌*◌, ◌≤◌, ◌<◌, length, get_or, take}
use Rattle.std.proofs.Common.{sym, ap, ◌∙◌, subst, arith, length-take-le, take-take, get_or-take}
use Rattle.std.proofs.lemmas.List.{take-append-le}
use Rattle.scan.specs.Bytes.{part}
use Rattle.scan.specs.Parts.{part_left, part_same}
use Rattle.semantics.specs.Facts.{Facts}
use Rattle.facts.specs.Known.{Says}
use Rattle.fact_slots.specs.Slots.{le64, loaded}

module _ (b d : List ℕ) (h : 48 ≤ length b) where
  long : length (take 48 b) ≡ 48
  long = length-take-le 48 b h

  pub kept_front : (n : ℕ) → n ≤ 48 → take n (take 48 b ++ d) ≡ take n b
  kept_front n l = take-append-le n (take 48 b) d (let x = long in omega arith) ∙ take-take n 48 b l

  pub kept_part_lem : (k n : ℕ) → k + n ≤ 48 → part k n (take 48 b ++ d) ≡ part k n b
  kept_part_lem k n l = part_left k n (take 48 b) d (let x = long in omega arith) ∙ part_same k 48 n (take 48 b) b l (take-take 48 48 b (omega arith))

  kept_at : (j : ℕ) → j < 48 → get_or (take 48 b ++ d) j 0 ≡ get_or b j 0
  kept_at j l =
      sym (get_or-take 48 (take 48 b ++ d) j 0 l) ∙ ap (λ x. get_or x j 0) (kept_front 48 (omega arith)) ∙ get_or-take 48 b j 0 l

  kept_word : le64 (take 48 b ++ d) 8 ≡ le64 b 8
  kept_word =
      let a₀ = kept_at 8 (omega arith) in let a₁ = kept_at 9 (omega arith) in let a₂ = kept_at 10 (omega arith) in let a₃ = kept_at 11 (omega arith) in
      let a₄ = kept_at 12 (omega arith) in let a₅ = kept_at 13 (omega arith) in let a₆ = kept_at 14 (omega arith) in let a₇ = kept_at 15 (omega arith) in
      λ i. (a₀ i + 256 * a₁ i + 65536 * a₂ i + 16777216 * a₃ i) + (a₄ i + 256 * a₅ i + 65536 * a₆ i + 16777216 * a₇ i) * 4294967296

  -- the facts are the same
  pub loaded_kept : loaded (take 48 b ++ d) ≡ loaded b
  loaded_kept =
      let a₀ = kept_at 0 (omega arith) in let a₁ = kept_at 1 (omega arith) in let a₂ = kept_at 2 (omega arith) in let a₃ = kept_at 3 (omega arith) in
      let a₄ = kept_at 4 (omega arith) in let a₅ = kept_at 5 (omega arith) in let a₆ = kept_at 6 (omega arith) in let a₇ = kept_at 7 (omega arith) in
      let w = kept_word in let q = kept_part_lem 16 32 (omega arith) in
      λ i. record {
        width = a₀ i;
        streams = a₂ i + 256 * a₃ i;
        consts = a₄ i + 256 * a₅ i + 65536 * a₆ i + 16777216 * a₇ i;
        low = q i;
        order = record { word = w i; len = a₁ i };
      }

-- what is said of the facts is said of the copy; the bytes behind them don't count
pub kept_says : (F : Facts) (b d : List ℕ) → 48 ≤ length b → Says F (loaded b) → Says F (loaded (take 48 b ++ d))
kept_says F b d h s = subst (Says F) (sym (loaded_kept b d h)) s
