-- The key slots of a record from the second on are those of the bytes two further on. Assumes nothing.
use Rattle.std.specs.Prelude.{◌≡◌, refl, Bool, true, false, List, ◌∷◌, ℕ, suc, ◌+◌, ◌-◌, ◌*◌, ltb, get_or}
use Rattle.std.proofs.Common.{sym, ap, ◌∙◌, arith, le-ltb, lt-ltb, ltb-true, ltb-false}
use Rattle.plan_format.specs.Record.{key_ok}

pub sooner : (k i n : ℕ) → ltb (k + i) n ≡ ltb i (n - k)
sooner k i n = go (ltb i (n - k)) refl
  where
    go : (b : Bool) → ltb i (n - k) ≡ b → ltb (k + i) n ≡ b
    go true e = lt-ltb (k + i) n (let l = ltb-true i (n - k) e in omega arith)
    go false e = le-ltb (k + i) n (let l = ltb-false i (n - k) e in omega arith)

-- ---- the next slot of some bytes is the first of those two bytes on

module _ (c o : ℕ) (l : List ℕ) (i : ℕ) where
  pub even : get_or (c ∷ o ∷ l) (2 * suc i) 0 ≡ get_or l (2 * i) 0
  even = let e : 2 * suc i ≡ suc (suc (2 * i)) = omega arith in rw e

  odd : get_or (c ∷ o ∷ l) (2 * suc i + 1) 0 ≡ get_or l (2 * i + 1) 0
  odd = let e : 2 * suc i + 1 ≡ suc (suc (2 * i + 1)) = omega arith in rw e

  pub slot_next : (p : Bool) (n m : ℕ) → m ≡ n - 1
      → key_ok p n (suc i) (get_or (c ∷ o ∷ l) (2 * suc i) 0) (get_or (c ∷ o ∷ l) (2 * suc i + 1) 0) ≡ key_ok p m i (get_or l (2 * i) 0) (get_or l (2 * i + 1) 0)
  slot_next p n m e =
      let t : ltb (suc i) n ≡ ltb i m = ap (λ k. ltb k n) (let q : suc i ≡ 1 + i = omega arith in q) ∙ sooner 1 i n ∙ ap (ltb i) (sym e) in
      rw (t, even, odd)
