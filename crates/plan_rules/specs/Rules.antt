-- The rules of a kind from what is asked of its record's parts, and kinds without fields. Assumes nothing.
use Rattle.std.specs.Prelude.{◌≡◌, refl, Bool, true, false, ◌&&◌, ◌||◌, List, ℕ, eqb, leb, length, get_or}
use Rattle.std.proofs.Common.{sym, ap, ap₂, ◌∙◌, arith, eqb-true, ne_eqb, leb-true}
use Rattle.std.proofs.lemmas.Bool.{false≢true}
use Rattle.scan.specs.Below.{and_left, and_right}
use Rattle.scan.specs.Words.{Small}
use Rattle.plan_format.specs.declared.Fields.{Fields}
use Rattle.plan_format.specs.Fields.{fields_of}
use Rattle.plan_format.specs.Record.{either, mark, hashed, key_count_ok, width_ok, head_ok, body_ok, key_slots_ok, tail_ok, rules_ok}
use Rattle.record_lists.proofs.Slots.{no_keys}

-- ---- a record

-- the rules of a kind with the fields f; the keys' slots count where the key count is right
pub rules : (f : Fields) (r : List ℕ) {a b c d : Bool} → a ≡ head_ok f r → b ≡ body_ok f r
    → (body_ok f r ≡ true → c ≡ key_slots_ok (f.plain || hashed f (get_or r 3 0)) r) → d ≡ tail_ok f r → a && (b && (c && d)) ≡ rules_ok f r
unfolding rules_ok
rules f r {a} {b} {c} {d} p q s t = ap₂ ◌&&◌ p (go (body_ok f r) q refl)
  where
    go : (x : Bool) → b ≡ x → body_ok f r ≡ x → b && (c && d) ≡ x && (key_slots_ok (f.plain || hashed f (get_or r 3 0)) r && tail_ok f r)
    go true e g = ap (λ x. x && (c && d)) e ∙ ap₂ ◌&&◌ (s g) t
    go false e g = ap (λ x. x && (c && d)) e

-- a kind that takes no keys
pub no_count : (f : Fields) (r : List ℕ) → (f.needs_key || hashed f (get_or r 3 0)) ≡ false → f.noted ≡ false → body_ok f r ≡ true → get_or r 12 0 ≡ 0
no_count f r p q b = go (f.needs_key || hashed f (get_or r 3 0)) f.noted p q (and_left counted wide (and_left (counted && wide) _ b))
  where
    counted : Bool
    counted = key_count_ok f (hashed f (get_or r 3 0)) (get_or r 12 0)

    wide : Bool
    wide = width_ok f (get_or r 12 0) (get_or r 13 0)

    go : (a c : Bool) → a ≡ false → c ≡ false → leb (get_or r 12 0) 8 && either a (leb 1 (get_or r 12 0)) (c || eqb (get_or r 12 0) 0) ≡ true → get_or r 12 0 ≡ 0
    go true c p q e = absurd (false≢true (sym p))
    go false true p q e = absurd (false≢true (sym q))
    go false false p q e = eqb-true (get_or r 12 0) 0 (and_right (leb (get_or r 12 0) 8) (eqb (get_or r 12 0) 0) e)

-- a repartition's keys are plain: a round robin has none
pub plain_keys_lem : (r : List ℕ) → Small r → length r ≡ 64 → body_ok (fields_of 5) r ≡ true → key_slots_ok true r ≡ key_slots_ok (mark (get_or r 3 0) 1) r
plain_keys_lem r s l b = go (mark (get_or r 3 0) 1) refl
  where
    go : (h : Bool) → mark (get_or r 3 0) 1 ≡ h → key_slots_ok true r ≡ key_slots_ok h r
    go true e = refl
    go false e = let z = no_count (fields_of 5) r e refl b in sym (no_keys true r s l z) ∙ no_keys false r s l z

-- ---- kinds without fields

not_fetching : (k : ℕ) → (k ≡ 6 → ⊥) → (k ≡ 7 → ⊥) → (k ≡ 8 → ⊥) → (k ≡ 9 → ⊥) → (k ≡ 10 → ⊥) → leb 6 k && leb k 10 ≡ false
not_fetching k a b c d e = go (leb 6 k) (leb k 10) refl refl
  where
    go : (x y : Bool) → leb 6 k ≡ x → leb k 10 ≡ y → x && y ≡ false
    go true true p q = let l = leb-true 6 k p in let h = leb-true k 10 q in absurd (omega arith)
    go true false p q = refl
    go false y p q = refl

pub no_fields : (k : ℕ) → (k ≡ 1 → ⊥) → (k ≡ 3 → ⊥) → (k ≡ 5 → ⊥) → (k ≡ 6 → ⊥) → (k ≡ 7 → ⊥) → (k ≡ 8 → ⊥) → (k ≡ 9 → ⊥) → (k ≡ 10 → ⊥)
    → (k ≡ 11 → ⊥) → (k ≡ 12 → ⊥) → (k ≡ 13 → ⊥) → (k ≡ 14 → ⊥) → (k ≡ 15 → ⊥) → fields_of 2 ≡ fields_of k
no_fields k a1 a3 a5 a6 a7 a8 a9 a10 a11 a12 a13 a14 a15 =
    let f = not_fetching k a6 a7 a8 a9 a10 in
    rw (
      f,
      ne_eqb k 1 a1,
      ne_eqb k 3 a3,
      ne_eqb k 5 a5,
      ne_eqb k 7 a7,
      ne_eqb k 8 a8,
      ne_eqb k 9 a9,
      ne_eqb k 10 a10,
      ne_eqb k 11 a11,
      ne_eqb k 12 a12,
      ne_eqb k 13 a13,
      ne_eqb k 14 a14,
      ne_eqb k 15 a15,
    )
