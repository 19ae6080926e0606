-- What the fields of each kind ask of bytes 2 to 15, as the code asks it of two, four or eight bytes at once. Assumes nothing.
use Rattle.std.specs.Prelude.{◌≡◌, refl, Bool, true, false, not, ◌&&◌, ◌||◌, List, ℕ, zero, suc, ◌+◌, ◌*◌, ◌≤◌, ◌<◌, eqb, leb, ltb, length, get_or}
use Rattle.std.proofs.Common.{sym, ap, ap₂, ◌∙◌, arith, eqb-true, ne_eqb, leb-true, ltb-true, le-leb, le-ltb}
use Rattle.std.proofs.lemmas.Bool.{eqb-false}
use Rattle.scan.specs.Below.{and_left, and_right, and_false, and_true, or_false, and_assoc}
use Rattle.scan.specs.Bytes.{part, le16, le32}
use Rattle.scan.specs.Words.{value, eight_bytes}
use Rattle.plan_format.specs.declared.Fields.{Fields}
use Rattle.plan_format.specs.Fields.{fields_of}
use Rattle.plan_format.specs.Record.{mark, marks_ok, head_ok, body_ok}
use Rattle.plan.specs.Numbers.{no_fetch}

-- ---- a test that is true of small numbers alone, asked of several bytes at once

-- y stands above x in s
lone : (t : ℕ → Bool) (s x y : ℕ) → (y ≡ 0 → s ≡ x) → (t s ≡ true → y ≡ 0) → t s ≡ t x && eqb y 0
lone t s x y e h = go (eqb y 0) refl
  where
    go : (b : Bool) → eqb y 0 ≡ b → t s ≡ t x && b
    go true q = ap t (e (eqb-true y 0 q)) ∙ sym (and_true (t x))
    go false q = none (t s) refl ∙ sym (and_false (t x) false refl)
      where
        none : (b : Bool) → t s ≡ b → b ≡ false
        none true z = absurd (eqb-false y 0 q (h z))
        none false z = refl

module _ (t : ℕ → Bool) (h : (s : ℕ) → t s ≡ true → s < 256) where
  two : (x y : ℕ) → t (x + 256 * y) ≡ t x && eqb y 0
  two x y = lone t (x + 256 * y) x y (λ e. omega arith) (λ e. let l = h (x + 256 * y) e in omega arith)

  four : (n w v z : ℕ) → t (n + 256 * w + 65536 * v + 16777216 * z) ≡ (t n && eqb w 0) && (eqb v 0 && eqb z 0)
  four n w v z =
      lone t (n + 256 * w + 65536 * v + 16777216 * z) (n + 256 * w + 65536 * v) z (λ e. omega arith) (λ e. let l = h _ e in omega arith)
      ∙ ap (λ b. b && eqb z 0)
      (lone t (n + 256 * w + 65536 * v) (n + 256 * w) v (λ e. omega arith) (λ e. let l = h _ e in omega arith) ∙ ap (λ b. b && eqb v 0) (two n w))
      ∙ and_assoc (t n && eqb w 0) (eqb v 0) (eqb z 0)

is_zero : (s : ℕ) → eqb s 0 ≡ true → s < 256
is_zero s e = let z = eqb-true s 0 e in omega arith

at_most_8 : (s : ℕ) → leb s 8 ≡ true → s < 256
at_most_8 s e = let z = leb-true s 8 e in omega arith

one_to_8 : (s : ℕ) → leb s 8 && leb 1 s ≡ true → s < 256
one_to_8 s e = at_most_8 s (and_left (leb s 8) (leb 1 s) e)

-- ---- marks

-- tests that agree at the first eight numbers and past them
eight : (f g : ℕ → Bool) → f 0 ≡ g 0 → f 1 ≡ g 1 → f 2 ≡ g 2 → f 3 ≡ g 3 → f 4 ≡ g 4 → f 5 ≡ g 5 → f 6 ≡ g 6 → f 7 ≡ g 7
    → ((m : ℕ) → 8 ≤ m → f m ≡ g m) → (m : ℕ) → f m ≡ g m
eight f g a b c d i j k l h zero = a
eight f g a b c d i j k l h (suc zero) = b
eight f g a b c d i j k l h (suc (suc zero)) = c
eight f g a b c d i j k l h (suc (suc (suc zero))) = d
eight f g a b c d i j k l h (suc (suc (suc (suc zero)))) = i
eight f g a b c d i j k l h (suc (suc (suc (suc (suc zero))))) = j
eight f g a b c d i j k l h (suc (suc (suc (suc (suc (suc zero)))))) = k
eight f g a b c d i j k l h (suc (suc (suc (suc (suc (suc (suc zero))))))) = l
eight f g a b c d i j k l h (suc (suc (suc (suc (suc (suc (suc (suc m)))))))) = h (suc (suc (suc (suc (suc (suc (suc (suc m)))))))) (omega arith)

no_marks : (f : Fields) (m : ℕ) → 8 ≤ m → false ≡ marks_ok f m
no_marks f m h = let e : ltb m 8 ≡ false = le-ltb m 8 h in rw e

marks-none : (m : ℕ) → eqb m 0 ≡ marks_ok (fields_of 2) m
marks-none = eight (λ m. eqb m 0) (marks_ok (fields_of 2)) refl refl refl refl refl refl refl refl
    (λ m h. ne_eqb m 0 (λ e. omega arith) ∙ no_marks (fields_of 2) m h)

marks_source : (m : ℕ) → eqb m 0 || eqb m 4 ≡ marks_ok (fields_of 1) m
marks_source = eight (λ m. eqb m 0 || eqb m 4) (marks_ok (fields_of 1)) refl refl refl refl refl refl refl refl
    (λ m h. ap₂ ◌||◌ (ne_eqb m 0 (λ e. omega arith)) (ne_eqb m 4 (λ e. omega arith)) ∙ no_marks (fields_of 1) m h)

marks_repartition : (m : ℕ) → ltb m 4 ≡ marks_ok (fields_of 5) m
marks_repartition = eight (λ m. ltb m 4) (marks_ok (fields_of 5)) refl refl refl refl refl refl refl refl
    (λ m h. le-ltb m 4 (omega arith) ∙ no_marks (fields_of 5) m h)

marks_sort : (m : ℕ) → ltb m 2 ≡ marks_ok (fields_of 7) m
marks_sort = eight (λ m. ltb m 2) (marks_ok (fields_of 7)) refl refl refl refl refl refl refl refl
    (λ m h. le-ltb m 2 (omega arith) ∙ no_marks (fields_of 7) m h)

-- ---- bytes 2 to 11

module _ (r : List ℕ) where
  abbrev streams : ℕ
  streams = get_or r 2 0

  abbrev marks : ℕ
  marks = get_or r 3 0

  quiet : eqb (le16 r 2) 0 ≡ eqb streams 0 && marks_ok (fields_of 2) marks
  quiet = two (λ s. eqb s 0) is_zero streams marks ∙ ap (λ b. eqb streams 0 && b) (marks-none marks)

  -- neither fetch nor skip
  uncut : length r ≡ 64 → eqb (value (part 4 8 r)) 0 ≡ eqb (le32 r 4) 0 && eqb (le32 r 8) 0
  uncut l =
      let e = eight_bytes r 4 (omega arith) in
      lone (λ s. eqb s 0) (value (part 4 8 r)) (le32 r 4) (le32 r 8) (λ z. omega arith) (λ z. let y = eqb-true (value (part 4 8 r)) 0 z in omega arith)

  pub head_none : length r ≡ 64 → eqb (le16 r 2) 0 && eqb (value (part 4 8 r)) 0 ≡ head_ok (fields_of 2) r
  head_none l = ap₂ ◌&&◌ quiet (uncut l)

  pub head_source : length r ≡ 64 → ((leb 1 streams && leb streams 64) && (eqb marks 0 || eqb marks 4)) && eqb (value (part 4 8 r)) 0 ≡ head_ok
      (fields_of 1) r
  head_source l = ap₂ ◌&&◌ (ap₂ ◌&&◌ (sym (or_false (leb 1 streams && leb streams 64))) (marks_source marks)) (uncut l)

  pub head_repartition : length r ≡ 64 → ((leb 1 streams && leb streams 64) && ltb marks 4) && eqb (value (part 4 8 r)) 0 ≡ head_ok (fields_of 5) r
  head_repartition l = ap₂ ◌&&◌ (ap₂ ◌&&◌ (sym (or_false (leb 1 streams && leb streams 64))) (marks_repartition marks)) (uncut l)

  pub head_fetching : eqb (le16 r 2) 0 && eqb (le32 r 8) 0 ≡ head_ok (fields_of 6) r
  head_fetching = ap (λ b. b && eqb (le32 r 8) 0) quiet

  pub head_sort : (eqb streams 0 && ltb marks 2) && eqb (le32 r 8) 0 ≡ head_ok (fields_of 7) r
  head_sort = ap (λ b. (eqb streams 0 && b) && eqb (le32 r 8) 0) (marks_sort marks)

  pub head_global_limit : eqb (le16 r 2) 0 ≡ head_ok (fields_of 9) r
  head_global_limit = quiet ∙ sym (and_true (eqb streams 0 && marks_ok (fields_of 2) marks))

  pub head_local_limit : eqb (le16 r 2) 0 && (not (eqb (le32 r 4) no_fetch) && eqb (le32 r 8) 0) ≡ head_ok (fields_of 10) r
  head_local_limit = ap₂ ◌&&◌ quiet (ap (λ b. b && eqb (le32 r 8) 0) (sym (or_false (not (eqb (le32 r 4) no_fetch)))))

-- ---- bytes 12 to 15

none_is_few : (n : ℕ) → eqb n 0 ≡ leb n 8 && eqb n 0
none_is_few n = go (eqb n 0) refl
  where
    go : (b : Bool) → eqb n 0 ≡ b → b ≡ leb n 8 && b
    go true e = sym (ap (λ b. b && true) (le-leb n 8 (let z = eqb-true n 0 e in omega arith)))
    go false e = sym (and_false (leb n 8) false refl)

module _ (r : List ℕ) where
  abbrev n : ℕ
  n = get_or r 12 0

  abbrev w : ℕ
  w = get_or r 13 0

  abbrev v : ℕ
  v = get_or r 14 0

  abbrev z : ℕ
  z = get_or r 15 0

  abbrev rest : Bool
  rest = eqb v 0 && eqb z 0

  none_of_four : eqb (le32 r 12) 0 ≡ ((leb n 8 && eqb n 0) && eqb w 0) && rest
  none_of_four = four (λ s. eqb s 0) is_zero n w v z ∙ ap (λ b. (b && eqb w 0) && rest) (none_is_few n)

  keys_of_four : leb (le32 r 12) 8 && leb 1 (le32 r 12) ≡ ((leb n 8 && leb 1 n) && eqb w 0) && rest
  keys_of_four = four (λ s. leb s 8 && leb 1 s) one_to_8 n w v z

  pub body_none : eqb (le32 r 12) 0 ≡ body_ok (fields_of 2) r
  body_none = none_of_four

  pub body_source : (leb n 8 && (leb 1 w && leb w 32)) && eqb (le16 r 14) 0 ≡ body_ok (fields_of 1) r
  body_source = ap₂ ◌&&◌ (ap₂ ◌&&◌ (sym (and_true (leb n 8))) (sym (or_false (leb 1 w && leb w 32)))) (two (λ s. eqb s 0) is_zero v z)

  pub body_projection : (eqb n 0 && (leb 1 w && leb w 32)) && eqb (le16 r 14) 0 ≡ body_ok (fields_of 3) r
  body_projection = ap₂ ◌&&◌ (ap₂ ◌&&◌ (none_is_few n) (sym (or_false (leb 1 w && leb w 32)))) (two (λ s. eqb s 0) is_zero v z)

  pub body_some_keys : leb (le32 r 12) 8 && leb 1 (le32 r 12) ≡ body_ok (fields_of 7) r
  body_some_keys = keys_of_four ∙ ap (λ b. ((leb n 8 && b) && eqb w 0) && rest) (sym (or_false (leb 1 n)))

  pub body_repartition : (h : Bool) → h ≡ mark (get_or r 3 0) 1
      → (h && (leb (le32 r 12) 8 && leb 1 (le32 r 12))) || (not h && eqb (le32 r 12) 0) ≡ body_ok (fields_of 5) r
  body_repartition h e = go h ∙ ap (λ h. ((leb n 8 && ((h && leb 1 n) || (not h && eqb n 0))) && eqb w 0) && rest) e
    where
      go : (h : Bool) → (h && (leb (le32 r 12) 8 && leb 1 (le32 r 12))) || (not h && eqb (le32 r 12) 0)
          ≡ ((leb n 8 && ((h && leb 1 n) || (not h && eqb n 0))) && eqb w 0) && rest
      go true = or_false (leb (le32 r 12) 8 && leb 1 (le32 r 12)) ∙ body_some_keys
      go false = none_of_four

  pub body_noted : leb (le32 r 12) 8 ≡ body_ok (fields_of 9) r
  body_noted = four (λ s. leb s 8) at_most_8 n w v z ∙ ap (λ b. (b && eqb w 0) && rest) (sym (and_true (leb n 8)))

  pub body_join : (leb (le16 r 12) 8 && leb 1 (le16 r 12)) && leb (le16 r 14) 7 ≡ body_ok (fields_of 11) r
  body_join =
      ap₂ ◌&&◌ (two (λ s. leb s 8 && leb 1 s) one_to_8 n w ∙ ap (λ b. (leb n 8 && b) && eqb w 0) (sym (or_false (leb 1 n))))
      (two (λ s. leb s 7) (λ s e. let y = leb-true s 7 e in omega arith) v z ∙ ap (λ b. b && eqb z 0) (sym (or_false (leb v 7))))

  pub body_output_requirement : leb (le16 r 12) 8 && leb (le16 r 14) 2 ≡ body_ok (fields_of 13) r
  body_output_requirement =
      ap₂ ◌&&◌ (two (λ s. leb s 8) at_most_8 n w ∙ ap (λ b. b && eqb w 0) (sym (and_true (leb n 8))))
      (two (λ s. leb s 2) (λ s e. let y = leb-true s 2 e in omega arith) v z ∙ ap (λ b. b && eqb z 0) (sym (or_false (leb v 2))))

  pub body_partial_sort : n < 256 → (leb (le16 r 12) 8 && leb 1 (le16 r 12)) && (leb 1 (le16 r 14) && ltb (le16 r 14) n) ≡ body_ok (fields_of 14) r
  body_partial_sort h =
      ap₂ ◌&&◌ (two (λ s. leb s 8 && leb 1 s) one_to_8 n w ∙ ap (λ b. (leb n 8 && b) && eqb w 0) (sym (or_false (leb 1 n))))
      (two (λ s. leb 1 s && ltb s n) (λ s e. let y = ltb-true s n (and_right (leb 1 s) (ltb s n) e) in omega arith) v z
      ∙ ap (λ b. b && eqb z 0) (sym (or_false (leb 1 v && ltb v n))))

  pub body_aggregate : ((leb n 8 && leb 1 n) && (leb n w && leb w 32)) && eqb (le16 r 14) 0 ≡ body_ok (fields_of 15) r
  body_aggregate = ap₂ ◌&&◌
      (ap₂ ◌&&◌ (ap (λ b. leb n 8 && b) (sym (or_false (leb 1 n)))) (sym (or_false (leb n w && leb w 32)))) (two (λ s. eqb s 0) is_zero v z)
