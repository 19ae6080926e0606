-- What is said of each child by its number, from number j on.
use Rattle.std.specs.Prelude.{◌≡◌, refl, ℕ, zero, suc}

abbrev pub from : {A : Type 0} → (ℕ → A) → ℕ → ℕ → A
from q zero = q
from q (suc j) = from (λ i. q (suc i)) j

pub from_first : {A : Type 0} (q : ℕ → A) (j : ℕ) → from q j 0 ≡ q j
from_first q zero = refl
from_first q (suc j) = from_first (λ i. q (suc i)) j

pub from_next : {A : Type 0} (q : ℕ → A) (j : ℕ) → (λ i. from q j (suc i)) ≡ from q (suc j)
from_next q zero = refl
from_next q (suc j) = from_next (λ i. q (suc i)) j
