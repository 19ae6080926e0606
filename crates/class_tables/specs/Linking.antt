-- Classes made one: their number stays a byte's, and where one holds a constant they are all constant (the two ways of a test). Assumes nothing.
use Rattle.std.specs.Prelude.{◌≡◌, refl, Bool, true, false, ◌&&◌, ◌||◌, ℕ, min, ◌<◌, eqb}
use Rattle.std.proofs.Common.{⊎_elim, arith, eqb-true}
use Rattle.semantics.proofs.Theorems.Common.Bools.{or_cases}

pub spread : (a x t : Bool) → t ≡ true → a || x ≡ a || (x && t)
spread a true t e = rw e
spread a false t e = refl

pub unspread : (a x t : Bool) → t ≡ false → a ≡ a || (x && t)
unspread true x t e = refl
unspread false true t e = rw e
unspread false false t e = refl

-- of two classes of which one has a byte's number, the lower has one
pub lower_small : (z x y : ℕ) → z < 256 → eqb z x || eqb z y ≡ true → min x y < 256
lower_small z x y l e =
    ⊎_elim (λ h. let s = eqb-true z x h in omega arith) (λ h. let s = eqb-true z y h in omega arith) (or_cases (eqb z x) (eqb z y) e)
