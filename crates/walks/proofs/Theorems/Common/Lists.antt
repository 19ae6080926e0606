-- Facts on lists.
use Rattle.std.specs.Prelude.{◌≡◌, refl, Bool, true, false, ◌&&◌, List, [], ◌∷◌, ◌++◌, map, ℕ, zero, suc, length, get_or}
use Rattle.std.proofs.Common.{ap, ap₂, ◌∙◌}
use Rattle.row_order.specs.Lists.{All, all_cons, all_nil}
use Rattle.plan.specs.WellFormed.{every}

pub map-length : {A B : Type 0} (g : A → B) (l : List A) → length (map g l) ≡ length l
map-length g [] = refl
map-length g (x ∷ l) = ap suc (map-length g l)

-- What holds of each entry and of the default holds of entry number n
pub all_nth : {A : Type 0} {P : A → Type 0} (d : A) {l : List A} → P d → All P l → (n : ℕ) → P (get_or l n d)
all_nth d p all_nil n = p
all_nth d p (all_cons h hs) zero = h
all_nth d p (all_cons h hs) (suc n) = all_nth d p hs n

pub every_same : {A : Type 0} (p q : A → Bool) → ((x : A) → p x ≡ q x) → (l : List A) → every p l ≡ every q l
every_same p q h [] = refl
every_same p q h (x ∷ l) = ap₂ ◌&&◌ (h x) (every_same p q h l)

pub every_append : {A : Type 0} (p : A → Bool) (l m : List A) → every p (l ++ m) ≡ every p l && every p m
every_append p [] m = refl
every_append p (x ∷ l) m = ap (λ (b : Bool). p x && b) (every_append p l m) ∙ assoc (p x) (every p l) (every p m)
  where
    assoc : (a b c : Bool) → a && (b && c) ≡ (a && b) && c
    assoc true b c = refl
    assoc false b c = refl
