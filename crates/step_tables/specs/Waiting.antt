-- The rows by arrival and the counts by place say alike where a row waits. Assumes nothing.
use Rattle.std.specs.Prelude.{◌≡◌, refl, Bool, true, false, cond, ◌||◌, List, [], ◌∷◌, ℕ, zero, suc, ◌+◌, ◌<◌, eqb, ltb, length, get_or}
use Rattle.std.proofs.Common.{sym, ap, ap₂, ◌∙◌, arith, ltb-true, ltb-false, lt-ltb}
use Rattle.std.proofs.Math.Path.{fun_ext}
use Rattle.step_tables.specs.Places.{within}
use Rattle.step_tables.specs.Found.{Known, first_in}
use Rattle.step_tables.specs.Turns.{one_place}
use Rattle.step_tables.specs.Choosing.{waits_at, any_from}
use Rattle.step_tables.specs.Passes.{held_at}
use Rattle.step_tables.specs.Counting.{tally_in, tally_is, many_ext, many_some, many_found, tally_parts, tally_none}
use Rattle.step_tables.specs.Holding.{HeldAre}
use Rattle.step_tables.specs.Complete.{Complete}

-- ---- two tests that hold together are one
pub same_test : (a b c d : ℕ) → (a < b → c < d) → (c < d → a < b) → ltb a b ≡ ltb c d
same_test a b c d f g = go (ltb a b) refl (ltb c d) refl
  where
    go : (s : Bool) → ltb a b ≡ s → (t : Bool) → ltb c d ≡ t → ltb a b ≡ ltb c d
    go true e true h = e ∙ sym h
    go true e false h = absurd (omega (arith, f (ltb-true a b e), ltb-false c d h))
    go false e true h = absurd (omega (arith, g (ltb-true c d h), ltb-false a b e))
    go false e false h = e ∙ sym h

some_sum : (a b : ℕ) → (ltb 0 a || ltb 0 b) ≡ ltb 0 (a + b)
some_sum a b = go (ltb 0 a) refl
  where
    go : (s : Bool) → ltb 0 a ≡ s → (s || ltb 0 b) ≡ ltb 0 (a + b)
    go true e = sym (lt-ltb 0 (a + b) (omega (arith, ltb-true 0 a e)))
    go false e = let z : a ≡ 0 = omega (arith, ltb-false 0 a e) in same_test 0 b 0 (a + b) (λ h. omega arith) (λ h. omega arith)

-- ---- the earliest row at some places is at one of them; and a row there lets one be found
module _ (pl : List ℕ) (g m : ℕ) where
  first_found : (l : List ℕ) → first_in pl g m l < length l → within g m (get_or pl (get_or l (first_in pl g m l) 0) 0) ≡ true
  first_found [] h = absurd (omega arith)
  first_found (r ∷ l) h = go (within g m (get_or pl r 0)) refl h (first_found l)
    where
      go : (t : Bool) → within g m (get_or pl r 0) ≡ t → cond t 0 (suc (first_in pl g m l)) < suc (length l) →
          (first_in pl g m l < length l → within g m (get_or pl (get_or l (first_in pl g m l) 0) 0) ≡ true) →
          within g m (get_or pl (get_or (r ∷ l) (cond t 0 (suc (first_in pl g m l))) 0) 0) ≡ true
      go true e k i = e
      go false e k i = i (omega arith)

  first_there : (l : List ℕ) (j : ℕ) → j < length l → within g m (get_or pl (get_or l j 0) 0) ≡ true → first_in pl g m l < length l
  first_there [] j h e = absurd (omega arith)
  first_there (r ∷ l) zero h e = let z = ap (λ (t : Bool). cond t 0 (suc (first_in pl g m l))) e in omega (arith, z)
  first_there (r ∷ l) (suc j) h e = go (within g m (get_or pl r 0)) (first_there l j (omega arith) e)
    where
      go : (t : Bool) → first_in pl g m l < length l → cond t 0 (suc (first_in pl g m l)) < suc (length l)
      go true k = omega arith
      go false k = omega arith

module _ (places order : List ℕ) (complete : Complete order (length places)) (known : Known order (length places)) where
  -- A row waits at one of the m places from g on
  pub waits_counted : (g m : ℕ) → ltb (first_in places g m order) (length order) ≡ ltb 0 (tally_in g m places)
  waits_counted g m = same_test (first_in places g m order) (length order) 0 (tally_in g m places) there back
    where
      there : first_in places g m order < length order → 0 < tally_in g m places
      there h = many_some (within g m) places (get_or order (first_in places g m order) 0) (known (first_in places g m order) h) (first_found places g m order h)

      back : 0 < tally_in g m places → first_in places g m order < length order
      back h =
          let w = many_found (within g m) places h in
          let v = complete w.0 w.1 in
          first_there places g m order v.0 v.1 (ap (λ (r : ℕ). within g m (get_or places r 0)) v.2 ∙ w.2)

  pub any_waits : (g n : ℕ) → any_from (waits_at places order) g n ≡ ltb 0 (tally_in g n places)
  any_waits g zero = sym (ap (ltb 0) (tally_none g places))
  any_waits g (suc n) =
      let e : 1 + n ≡ suc n = omega arith in
      let s : g + 1 ≡ suc g = omega arith in
      ap₂ ◌||◌ (waits_counted g 1) (any_waits (suc g) n)
      ∙ some_sum (tally_in g 1 places) (tally_in (suc g) n places)
      ∙ ap (ltb 0) (ap (λ (k : ℕ). tally_in g 1 places + tally_in k n places) (sym s) ∙ sym (tally_parts g 1 n places) ∙ ap (λ (k : ℕ). tally_in g k places) e)

  pub held_waits : (held : List ℕ) → HeldAre held places → waits_at places order ≡ held_at held
  held_waits held are =
      fun_ext (λ g. waits_counted g 1 ∙ ap (ltb 0) (many_ext (within g 1) (λ s. eqb s g) (one_place g) places ∙ sym (tally_is g places) ∙ sym (are g)))
