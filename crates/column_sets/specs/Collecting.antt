-- A loop over the columns that collects those of which a test is true. Assumes nothing.
use Rattle.std.specs.Prelude.{◌≡◌, refl, Bool, true, false, ◌&&◌, ◌||◌, ℕ, ◌+◌, eqb, ltb}
use Rattle.std.proofs.Common.{◌∙◌, arith, eqb-true, ltb-true, ltb-false, lt-ltb, le-ltb}
use Rattle.std.proofs.lemmas.Bool.{eqb-false}
use Rattle.row_order.specs.Packed.{bit}
use Rattle.column_sets.specs.Bits.{bit_none}
use Rattle.column_sets.specs.Sets.{Holding, below}

pub collected_none : (p : ℕ → Bool) → Holding (below 0 p) 0
collected_none p k = rw (bit_none k, le-ltb k 0 (omega arith))

ltb_more : (k c : ℕ) → ltb k (c + 1) ≡ eqb k c || ltb k c
ltb_more k c = go (eqb k c) refl (ltb k c) refl
  where
    go : (a : Bool) → eqb k c ≡ a → (b : Bool) → ltb k c ≡ b → ltb k (c + 1) ≡ a || b
    go true e b f = lt-ltb k (c + 1) (let h = eqb-true k c e in omega arith)
    go false e true f = lt-ltb k (c + 1) (let h = ltb-true k c f in omega arith)
    go false e false f = le-ltb k (c + 1) (let h = ltb-false k c f in let n = eqb-false k c e in omega arith)

-- one more column
pub collected_next : (p : ℕ → Bool) (s c t : ℕ) → Holding (below c p) s → Holding (λ d. (p c && eqb d c) || bit s d) t → Holding (below (c + 1) p) t
collected_next p s c t h n k = n k ∙ rw (ltb_more k c, h k) (go (eqb k c) refl)
  where
    go : (b : Bool) → eqb k c ≡ b → (p c && b) || (ltb k c && p k) ≡ (b || ltb k c) && p k
    go true e = rw (eqb-true k c e) (spare (p c) (ltb c c))
      where
        spare : (a b : Bool) → (a && true) || (b && a) ≡ a
        spare true b = refl
        spare false true = refl
        spare false false = refl
    go false e = spare (p c) (ltb k c && p k)
      where
        spare : (a b : Bool) → (a && false) || b ≡ b
        spare true b = refl
        spare false b = refl
