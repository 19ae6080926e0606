-- The last state: more steps than there are change nothing. Assumes nothing.
use Rattle.std.specs.Prelude.{◌≡◌, refl, List, [], ◌∷◌, ℕ, zero, suc, ◌+◌, ◌*◌, ◌<◌, ◌≤◌, length}
use Rattle.std.proofs.Common.{sym, ap, ◌∙◌, arith, mul-le-mul}
use Rattle.row_order.specs.Iso.{Row}
use Rattle.plan.specs.Forest.{Forest, size}
use Rattle.plan.specs.Op.{Plan}
use Rattle.stepping.specs.Outlets.{Outlet}
use Rattle.stepping.specs.Moves.{moves}
use Rattle.stepping.specs.Stepping.{chosen, start, after, work, finished}
use Rattle.stepping.proofs.Theorems.Formed.{Steppable}
use Rattle.stepping.proofs.Theorems.Lessening.{start-shaped}
use Rattle.stepping.proofs.Theorems.Progress.{stays, finishes, rested_stuck}

-- From a state that cannot move on, m steps on
still_there : (f : Plan) (bytes : List ℕ) (m n i : ℕ) (st : Forest Outlet) → m ≤ n → moves f (after f bytes m i st) ≡ [] → after f bytes n i st ≡ after f bytes m i st
still_there f bytes zero n i st h e = stays f bytes n i st e
still_there f bytes (suc m) zero i st h e = absurd (omega arith)
still_there f bytes (suc m) (suc n) i st h e = still_there f bytes m n (chosen bytes i st (moves f st)).next (chosen bytes i st (moves f st)).value (omega arith) e

pub enough : (f : Plan) (rows : ℕ → ℕ → List Row) (bytes : List ℕ) (n : ℕ) → Steppable f → work 0 (start rows 0 f) ≤ n →
    after f bytes n 0 (start rows 0 f) ≡ finished f rows bytes
enough f rows bytes n s h =
    still_there f bytes (work 0 (start rows 0 f)) n 0 (start rows 0 f) h
    (rested_stuck (finishes f bytes (work 0 (start rows 0 f)) 0 (start rows 0 f) s (start-shaped rows 0 f) (omega arith)))

-- One step; and none where nothing can move
pub one_more : (f : Plan) (bytes : List ℕ) (n i i' : ℕ) (st st' last : Forest Outlet) → after f bytes (suc n) i st ≡ last → (chosen bytes i st (moves f st)).value ≡ st' →
    (chosen bytes i st (moves f st)).next ≡ i' → after f bytes n i' st' ≡ last
one_more f bytes n i i' st st' last e v x = ap (λ (k : ℕ). after f bytes n k st') (sym x) ∙ ap (after f bytes n (chosen bytes i st (moves f st)).next) (sym v) ∙ e

pub no_more : (f : Plan) (bytes : List ℕ) (n i : ℕ) (st last : Forest Outlet) → after f bytes n i st ≡ last → moves f st ≡ [] → st ≡ last
no_more f bytes n i st last e m = sym (stays f bytes n i st m) ∙ e
