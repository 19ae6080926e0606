-- What three draws choose: an operator, an input stream, an output stream. Assumes nothing.
use Rattle.std.specs.Prelude.{◌≡◌, refl, Bool, true, false, cond, List, [], ◌∷◌, ◌++◌, map, ℕ, zero, suc, ◌+◌, ◌-◌, ◌%◌, ◌<◌, ◌≤◌, leb, length, get_or}
use Rattle.std.proofs.Common.{sym, ap, ap₂, ◌∙◌, subst, arith, mod-lt, leb-true, leb-false}
use Rattle.std.proofs.lemmas.List.{length-map}
use Rattle.plan.specs.Forest.{Forest}
use Rattle.stepping.specs.Outlets.{Outlet}
use Rattle.stepping.specs.Moves.{States}
use Rattle.stepping.specs.Stepping.{byte_at, Drawn, draw, chosen}
use Rattle.step_tables.specs.Draws.{drawn_value, drawn_next, draw_is}

get_d_map : {A B : Type 0} (g : A → B) (l : List A) (i : ℕ) (x : A) (y : B) → i < length l → get_or (map g l) i y ≡ g (get_or l i x)
get_d_map g [] i x y h = absurd (omega arith)
get_d_map g (z ∷ l) zero x y h = refl
get_d_map g (z ∷ l) (suc i) x y h = get_d_map g l i x y (omega arith)

get_or_maps : {A B : Type 0} (g : A → B) (l : List (List A)) (i : ℕ) → get_or (map (map g) l) i [] ≡ map g (get_or l i [])
get_or_maps g [] i = refl
get_or_maps g (x ∷ l) zero = refl
get_or_maps g (x ∷ l) (suc i) = get_or_maps g l i

-- Where there is a choice, one of the choices is drawn
pub drawn_below : (bytes : List ℕ) (i n : ℕ) → 0 < n → drawn_value bytes i n < n
drawn_below bytes i n h = go (leb n 1) refl
  where
    go : (b : Bool) → leb n 1 ≡ b → cond b 0 (byte_at bytes i % n) < n
    go true e = h
    go false e = mod-lt (byte_at bytes i) h

module _ (bytes : List ℕ) (st : Forest Outlet) where
  third : Drawn States → Drawn (Forest Outlet)
  third q = draw bytes q.next st q.value

  second : Drawn (List States) → Drawn (Forest Outlet)
  second p = third (draw bytes p.next [] p.value)

-- ms: by operator, by input stream, by output stream the states. The operator's own ones are `own`, with g put around them; of these the input stream
-- drawn has `outs`, and of these x is drawn
pub chosen_is : (bytes : List ℕ) (i₀ : ℕ) (st : Forest Outlet) (ms : List (List States)) (g : Forest Outlet → Forest Outlet) (own : List States) →
    get_or ms (drawn_value bytes i₀ (length ms)) [] ≡ map (map g) own → (i₁ : ℕ) → i₁ ≡ drawn_next i₀ (length ms) → (i₂ : ℕ) → i₂ ≡ drawn_next i₁ (length own) →
    (outs : States) → get_or own (drawn_value bytes i₁ (length own)) [] ≡ outs → (x : Forest Outlet) →
    drawn_value bytes i₂ (length outs) < length outs → get_or outs (drawn_value bytes i₂ (length outs)) st ≡ x →
    ◌≡◌ {A = Drawn (Forest Outlet)} (chosen bytes i₀ st ms) (record { value = g x; next = drawn_next i₂ (length outs) })
unfolding second third
chosen_is bytes i₀ st ms g own e₀ i₁ h₁ i₂ h₂ outs e₁ x l e₂ =
    ap (second bytes st) (draw_is bytes i₀ [] ms)
    ∙ ap₂ (λ (y : List States) (k : ℕ). second bytes st (record { value = y; next = k })) e₀ (sym h₁)
    ∙ ap (third bytes st) (draw_is bytes i₁ [] (map (map g) own))
    ∙ ap (λ (n : ℕ). third bytes st (record { value = get_or (map (map g) own) (drawn_value bytes i₁ n) []; next = drawn_next i₁ n })) (length-map own (map g))
    ∙ ap₂ (λ (y : States) (k : ℕ). third bytes st (record { value = y; next = k }))
    (get_or_maps g own (drawn_value bytes i₁ (length own)) ∙ ap (map g) e₁) (sym h₂)
    ∙ draw_is bytes i₂ st (map g outs)
    ∙ ap (λ (n : ℕ). record { value = get_or (map g outs) (drawn_value bytes i₂ n) st; next = drawn_next i₂ n }) (length-map outs g)
    ∙ ap (λ (y : Forest Outlet). record { value = y; next = drawn_next i₂ (length outs) })
    (get_d_map g outs (drawn_value bytes i₂ (length outs)) st st l ∙ ap g e₂)
