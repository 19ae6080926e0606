-- A byte drawn, and a cut, as the code answers them. Assumes nothing.
use Rattle.std.specs.Prelude.{◌≡◌, refl, Bool, true, false, cond, ◌&&◌, List, [], ◌∷◌, ℕ, zero, suc, ◌+◌, ◌-◌, ◌%◌, ◌<◌, ◌≤◌, ltb, leb, length, get_or, Option, Some, None}
use Rattle.std.proofs.Common.{sym, ap, ap₂, ◌∙◌, arith, mod-eq_of_lt, ltb-true, ltb-false, lt-ltb, le-ltb, le-leb}
use Rattle.std.proofs.lemmas.Bool.{lt-leb}
use Rattle.semantics.specs.Properties.{Cut}
use Rattle.stepping.specs.Outlets.{below, keeps}
use Rattle.stepping.specs.Stepping.{byte_at, Drawn, draw}

-- Which of n choices is drawn, and how many bytes are taken then
abbrev pub drawn_value : List ℕ → ℕ → ℕ → ℕ
drawn_value bytes i n = cond (leb n 1) 0 (byte_at bytes i % n)

abbrev pub drawn_next : ℕ → ℕ → ℕ
drawn_next i n = cond (leb n 1) i (suc i)

-- This is `draw`
pub draw_is : {A : Type 0} (bytes : List ℕ) (i : ℕ) (other : A) (l : List A) →
    ◌≡◌ {A = Drawn A} (draw bytes i other l) (record { value = get_or l (drawn_value bytes i (length l)) other; next = drawn_next i (length l) })
draw_is {A} bytes i other l = go (leb (length l) 1)
  where
    go : (b : Bool) → ◌≡◌ {A = Drawn A} (cond b (record { value = get_or l 0 other; next = i }) (record { value = get_or l (byte_at bytes i % length l) other; next = suc i }))
        (record { value = get_or l (cond b 0 (byte_at bytes i % length l)) other; next = cond b i (suc i) })
    go true = refl
    go false = refl

module _ (bytes : List ℕ) (i n : ℕ) where
  pub one_choice : n ≤ 1 → (0 ≡ drawn_value bytes i n) × (i ≡ drawn_next i n)
  one_choice h = (sym (ap (λ (b : Bool). cond b 0 (byte_at bytes i % n)) (le-leb n 1 h)), sym (ap (λ (b : Bool). cond b i (suc i)) (le-leb n 1 h)))

  pub some_choices : (x : ℕ) → 1 < n → x ≡ byte_at bytes i % n → (x ≡ drawn_value bytes i n) × (i + 1 ≡ drawn_next i n)
  some_choices x h e =
      (e ∙ sym (ap (λ (b : Bool). cond b 0 (byte_at bytes i % n)) (lt-leb n 1 h)), omega (arith, ap (λ (b : Bool). cond b i (suc i)) (lt-leb n 1 h)))

  -- an empty list counts as zeros
  pub empty_draw : length bytes ≡ 0 → 1 < n → 0 ≡ byte_at bytes i % n
  empty_draw h l = go bytes h
    where
      go : (b : List ℕ) → length b ≡ 0 → 0 ≡ get_or b (i % length b) 0 % n
      go [] e = sym (mod-eq_of_lt (omega arith))
      go (x ∷ b) e = absurd (omega arith)

abbrev pub cut_of : ℕ → Option ℕ → Cut
cut_of s f = record { skip = s; fetch = f }

pub cut_skipped : (s c : ℕ) (f : Option ℕ) → c < s → false ≡ keeps (cut_of s f) c
cut_skipped s c f h = sym (ap (λ (b : Bool). b && below s f c) (lt-leb s c h))

pub cut_unlimited : (s c : ℕ) (f : Option ℕ) → s ≤ c → f ≡ None → true ≡ keeps (cut_of s f) c
cut_unlimited s c f h e = sym (ap₂ (λ (b : Bool) (g : Option ℕ). b && below s g c) (le-leb s c h) e)

pub cut_fetched : (s c n : ℕ) (f : Option ℕ) → s ≤ c → f ≡ Some n → ltb (c - s) n ≡ keeps (cut_of s f) c
cut_fetched s c n f h e = go (ltb (c - s) n) refl ∙ sym (ap₂ (λ (b : Bool) (g : Option ℕ). b && below s g c) (le-leb s c h) e)
  where
    go : (t : Bool) → ltb (c - s) n ≡ t → ltb (c - s) n ≡ ltb c (s + n)
    go true z = z ∙ sym (lt-ltb c (s + n) (omega (arith, ltb-true (c - s) n z)))
    go false z = z ∙ sym (le-ltb c (s + n) (omega (arith, ltb-false (c - s) n z)))
