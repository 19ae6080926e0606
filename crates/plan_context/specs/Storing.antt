-- The summary in the last eight bytes that a slot keeps: written and read back.
use Rattle.std.specs.Prelude.{◌≡◌, refl, Bool, true, false, List, [], ◌∷◌, ◌++◌, ℕ, ◌+◌, ◌*◌, ◌/◌, ◌%◌, ◌<◌, eqb, length, get_or, take, drop}
use Rattle.std.proofs.Common.{sym, ap, ap₂, ◌∙◌, arith, take-append-drop, length-take-le, get_or-append-add, take-take}
use Rattle.std.proofs.lemmas.List.{take-append-le}
use Rattle.scan.specs.Bytes.{le16, le32, one_if}
use Rattle.scan.specs.Words.{four_again}
use Rattle.fact_slots.specs.Slots.{loaded}
use Rattle.fact_slots.specs.Copies.{loaded_kept}
use Rattle.arena.specs.Arena.{kept_size}
use Rattle.tree_summary.specs.declared.Summary.{Summary}
use Rattle.plan_context.specs.View.{summary_from, summary_in}

abbrev pub summary_bytes : Summary → List ℕ
summary_bytes s =
    one_if s.passes ∷ one_if s.endless ∷ s.nodes % 256 ∷ s.nodes / 256 % 256 ∷ s.fetch % 256 ∷ s.fetch / 256 % 256 ∷ s.fetch / 65536 % 256
    ∷ s.fetch / 16777216 % 256 ∷ []

flag : (b : Bool) → eqb (one_if b) 1 ≡ b
flag true = refl
flag false = refl

module _ (b : List ℕ) (s : Summary) (l : length b ≡ kept_size) where
  at_end : (i : ℕ) → get_or (take summary_from b ++ summary_bytes s) (104 + i) 0 ≡ get_or (summary_bytes s) i 0
  at_end i = ap (λ n. get_or (take summary_from b ++ summary_bytes s) (n + i) 0) (sym (length-take-le 104 b (omega arith)))
      ∙ get_or-append-add (take summary_from b) (summary_bytes s) i 0

  -- what was written is read
  pub summary_back : s.nodes < 65536 → s.fetch < 4294967296 → summary_in (take summary_from b ++ summary_bytes s) ≡ s
  summary_back h k =
      let a₂ = at_end 2 in let a₃ = at_end 3 in
      let n : le16 (take summary_from b ++ summary_bytes s) 106 ≡ s.nodes = omega arith in
      let f : le32 (take summary_from b ++ summary_bytes s) 108 ≡ s.fetch =
      (ap₂ (λ (x y : ℕ). x + y) (ap₂ (λ (x y : ℕ). x + y) (ap₂ (λ (x y : ℕ). x + 256 * y) (at_end 4) (at_end 5)) (ap (λ x. 65536 * x) (at_end 6)))
      (ap (λ x. 16777216 * x) (at_end 7)) ∙ four_again s.fetch k) in
      let p : eqb (get_or (take summary_from b ++ summary_bytes s) 104 0) 1 ≡ s.passes = ap (λ x. eqb x 1) (at_end 0) ∙ flag s.passes in
      let e : eqb (get_or (take summary_from b ++ summary_bytes s) 105 0) 1 ≡ s.endless = ap (λ x. eqb x 1) (at_end 1) ∙ flag s.endless in
      λ i. record { passes = p i; endless = e i; nodes = n i; fetch = f i }

  -- the facts stay
  pub facts_stay : loaded (take summary_from b ++ summary_bytes s) ≡ loaded b
  facts_stay =
      let c : List ℕ = take summary_from b ++ summary_bytes s in
      let z = length-take-le 104 b (omega arith) in
      let t : take 48 c ≡ take 48 b = take-append-le 48 (take summary_from b) (summary_bytes s) (omega arith) ∙ take-take 48 104 b (omega arith) in
      ap loaded (sym (take-append-drop 48 c) ∙ ap (λ x. x ++ drop 48 c) t) ∙ loaded_kept b (drop 48 c) (omega arith)
