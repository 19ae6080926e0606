-- What an operator can choose, in the tables' terms. Assumes nothing.
use Rattle.std.specs.Prelude.{◌≡◌, refl, Bool, true, false, cond, not, ◌&&◌, ◌||◌, List, [], ◌∷◌, ◌++◌, map, ℕ, zero, suc, ◌+◌, ◌-◌, ◌<◌, ◌≤◌, eqb, ltb, leb, length, get_or, take, drop, set}
use Rattle.std.proofs.Common.{sym, ap, ap₂, ◌∙◌, subst, arith, add-one, ltb-true, ltb-false, lt-ltb, le-ltb}
use Rattle.std.proofs.lemmas.Bool.{not-true, not-false}
use Rattle.row_order.specs.Iso.{Row}
use Rattle.row_order.proofs.Order.{no_bool}
use Rattle.row_order.specs.Lists.{tab}
use Rattle.semantics.specs.Facts.{is_nil}
use Rattle.semantics.specs.Properties.{any_of}
use Rattle.semantics.specs.Runs.{Streams}
use Rattle.scan.specs.Bytes.{all_below}
use Rattle.scan.specs.Below.{all_none, all_more, all_first, all_fail, all_end}
use Rattle.stepping.specs.Moves.{live, with_rows, ready}
use Rattle.step_tables.specs.Places.{on_place}
use Rattle.step_tables.specs.Found.{first_in}
use Rattle.step_tables.specs.Shown.{tab_ext}
use Rattle.step_tables.specs.Turns.{has_row}

-- A row waits at place g
abbrev pub waits_at : List ℕ → List ℕ → ℕ → Bool
waits_at pl order g = ltb (first_in pl g 1 order) (length order)

-- n streams' rows from place g on: a node's inputs (`inputs_are`)
abbrev pub streams_at : (ℕ → Row) → List ℕ → List ℕ → ℕ → ℕ → Streams
streams_at rows pl order g n = tab n (λ i. on_place rows pl (g + i) order)

-- n flags from place g on
abbrev pub flags_at : List Bool → ℕ → ℕ → List Bool
flags_at flags g n = tab n (λ i. get_or flags (g + i) false)

-- ---- the numbers from k on, n of them, that pass the test
abbrev pub chosen_from : (ℕ → Bool) → ℕ → ℕ → List ℕ
chosen_from p k zero = []
chosen_from p k (suc n) = cond (p k) (k ∷ chosen_from p (suc k) n) (chosen_from p (suc k) n)

cond-not : {A : Type 0} (b : Bool) (x y : A) → cond b x y ≡ cond (not b) y x
cond-not true x y = refl
cond-not false x y = refl

rows_from_lem : (rows : ℕ → Row) (pl order : List ℕ) (g k n : ℕ) → with_rows k (tab n (λ i. on_place rows pl (g + (k + i)) order)) ≡ chosen_from (λ i. waits_at pl order (g + i)) k n
rows_from_lem rows pl order g k zero = refl
rows_from_lem rows pl order g k (suc n) =
    let z : g + (k + 0) ≡ g + k = omega arith in
    let t : tab n (λ i. on_place rows pl (g + (k + suc i)) order) ≡ tab n (λ i. on_place rows pl (g + (suc k + i)) order) =
    tab_ext n (λ i. on_place rows pl (g + (k + suc i)) order) (λ i. on_place rows pl (g + (suc k + i)) order)
    (λ i h. let e : g + (k + suc i) ≡ g + (suc k + i) = omega arith in ap (λ (x : ℕ). on_place rows pl x order) e) in
    let r : with_rows (suc k) (tab n (λ i. on_place rows pl (g + (k + suc i)) order)) ≡ chosen_from (λ i. waits_at pl order (g + i)) (suc k) n =
    ap (with_rows (suc k)) t ∙ rows_from_lem rows pl order g (suc k) n in
    cond-not (is_nil (on_place rows pl (g + (k + 0)) order)) (with_rows (suc k) (tab n (λ i. on_place rows pl (g + (k + suc i)) order))) (k ∷ with_rows (suc k) (tab n (λ i. on_place rows pl (g + (k + suc i)) order)))
    ∙ ap₂ (λ (b : Bool) (q : List ℕ). cond b (k ∷ q) q) (has_row rows pl (g + (k + 0)) order ∙ ap (waits_at pl order) z) r

-- the streams with a row
pub with_rows_are : (rows : ℕ → Row) (pl order : List ℕ) (g n : ℕ) → with_rows 0 (streams_at rows pl order g n) ≡ chosen_from (λ i. waits_at pl order (g + i)) 0 n
with_rows_are rows pl order g n =
    ap (with_rows 0) (tab_ext n (λ i. on_place rows pl (g + i) order) (λ i. on_place rows pl (g + (0 + i)) order)
    (λ i h. let e : g + i ≡ g + (0 + i) = omega arith in ap (λ (x : ℕ). on_place rows pl x order) e))
    ∙ rows_from_lem rows pl order g 0 n

-- ---- live streams; w: whether a row waits at a place
abbrev pub live_at : List Bool → (ℕ → Bool) → ℕ → Bool
live_at flags w g = get_or flags g false || w g

live-tab : (n : ℕ) (f : ℕ → Bool) (h : ℕ → List Row) → live (tab n f) (tab n h) ≡ tab n (λ i. f i || not (is_nil (h i)))
live-tab zero f h = refl
live-tab (suc n) f h = ap (λ q. (f 0 || not (is_nil (h 0))) ∷ q) (live-tab n (λ k. f (suc k)) (λ k. h (suc k)))

pub live_are : (rows : ℕ → Row) (flags : List Bool) (pl order : List ℕ) (g n : ℕ) → live (flags_at flags g n) (streams_at rows pl order g n) ≡ tab n (λ i. live_at flags (waits_at pl order) (g + i))
live_are rows flags pl order g n =
    live-tab n (λ i. get_or flags (g + i) false) (λ i. on_place rows pl (g + i) order)
    ∙ tab_ext n (λ i. get_or flags (g + i) false || not (is_nil (on_place rows pl (g + i) order))) (λ i. live_at flags (waits_at pl order) (g + i))
    (λ i h. ap (λ (b : Bool). get_or flags (g + i) false || b) (has_row rows pl (g + i) order))

-- ---- some flag, every flag
abbrev pub any_from : (ℕ → Bool) → ℕ → ℕ → Bool
any_from p k zero = false
any_from p k (suc n) = p k || any_from p (suc k) n

any_tab : (p : ℕ → Bool) (k n : ℕ) → any_of (tab n (λ i. p (k + i))) ≡ any_from p k n
any_tab p k zero = refl
any_tab p k (suc n) =
    let z : k + 0 ≡ k = omega arith in
    ap₂ ◌||◌ (ap p z)
    (ap any_of (tab_ext n (λ i. p (k + suc i)) (λ i. p (suc k + i)) (λ i h. let e : k + suc i ≡ suc k + i = omega arith in ap p e)) ∙ any_tab p (suc k) n)

-- any_of of n flags from g on
pub any_is : (flags : List Bool) (g n : ℕ) → any_of (flags_at flags g n) ≡ any_from (λ x. get_or flags x false) g n
any_is flags g n = any_tab (λ x. get_or flags x false) g n

pub any_live_is : (rows : ℕ → Row) (flags : List Bool) (pl order : List ℕ) (g n : ℕ) → any_of (live (flags_at flags g n) (streams_at rows pl order g n)) ≡ any_from (live_at flags (waits_at pl order)) g n
any_live_is rows flags pl order g n = ap any_of (live_are rows flags pl order g n) ∙ any_tab (live_at flags (waits_at pl order)) g n

-- each open stream has a row
abbrev pub served_at : List Bool → (ℕ → Bool) → ℕ → Bool
served_at flags w g = not (get_or flags g false) || w g

abbrev pub all_from : (ℕ → Bool) → ℕ → ℕ → Bool
all_from p k zero = true
all_from p k (suc n) = p k && all_from p (suc k) n

ready_from : (rows : ℕ → Row) (flags : List Bool) (pl order : List ℕ) (g n : ℕ) →
    ready (tab n (λ i. get_or flags (g + i) false)) (tab n (λ i. on_place rows pl (g + i) order)) ≡ all_from (served_at flags (waits_at pl order)) g n
ready_from rows flags pl order g zero = refl
ready_from rows flags pl order g (suc n) =
    let z : g + 0 ≡ g = omega arith in
    let a : tab n (λ i. get_or flags (g + suc i) false) ≡ tab n (λ i. get_or flags (suc g + i) false) =
    tab_ext n (λ i. get_or flags (g + suc i) false) (λ i. get_or flags (suc g + i) false) (λ i h. let e : g + suc i ≡ suc g + i = omega arith in ap (λ (x : ℕ). get_or flags x false) e) in
    let b : tab n (λ i. on_place rows pl (g + suc i) order) ≡ tab n (λ i. on_place rows pl (suc g + i) order) =
    tab_ext n (λ i. on_place rows pl (g + suc i) order) (λ i. on_place rows pl (suc g + i) order) (λ i h. let e : g + suc i ≡ suc g + i = omega arith in ap (λ (x : ℕ). on_place rows pl x order) e) in
    ap₂ ◌&&◌
    (ap (λ (t : Bool). not (get_or flags (g + 0) false) || t) (has_row rows pl (g + 0) order) ∙ ap (served_at flags (waits_at pl order)) z)
    (ap₂ ready a b ∙ ready_from rows flags pl order (suc g) n)

pub ready_is : (rows : ℕ → Row) (flags : List Bool) (pl order : List ℕ) (g n : ℕ) → ready (flags_at flags g n) (streams_at rows pl order g n) ≡ all_from (served_at flags (waits_at pl order)) g n
ready_is rows flags pl order g n = ready_from rows flags pl order g n

-- ---- loops over n places from g on; i: those passed

module _ (p : ℕ → Bool) (g n : ℕ) where
  -- nothing found so far
  abbrev pub NoneYet : ℕ → Type 0
  NoneYet i = any_from p (g + i) (n - i) ≡ any_from p g n

  abbrev pub AllYet : ℕ → Type 0
  AllYet i = all_from p (g + i) (n - i) ≡ all_from p g n

  pub none_start : NoneYet 0
  none_start = let a : g + 0 ≡ g = omega arith in let b : n - 0 ≡ n = omega arith in ap₂ (any_from p) a b

  pub all_start : AllYet 0
  all_start = let a : g + 0 ≡ g = omega arith in let b : n - 0 ≡ n = omega arith in ap₂ (all_from p) a b

  module _ (i : ℕ) (h : i < n) where
    any_turn : any_from p (g + i) (n - i) ≡ (p (g + i) || any_from p (g + (i + 1)) (n - (i + 1)))
    any_turn =
        let a : n - i ≡ suc (n - (i + 1)) = omega arith in let b : suc (g + i) ≡ g + (i + 1) = omega arith in
        ap (any_from p (g + i)) a ∙ ap (λ (x : ℕ). p (g + i) || any_from p x (n - (i + 1))) b

    all_turn : all_from p (g + i) (n - i) ≡ p (g + i) && all_from p (g + (i + 1)) (n - (i + 1))
    all_turn =
        let a : n - i ≡ suc (n - (i + 1)) = omega arith in let b : suc (g + i) ≡ g + (i + 1) = omega arith in
        ap (all_from p (g + i)) a ∙ ap (λ (x : ℕ). p (g + i) && all_from p x (n - (i + 1))) b

    pub any_found : (t : Bool) → NoneYet i → t ≡ p (g + i) → t ≡ true → true ≡ any_from p g n
    any_found t y e f = sym (ap (λ (b : Bool). b || any_from p (g + (i + 1)) (n - (i + 1))) (sym e ∙ f)) ∙ sym any_turn ∙ y

    pub any_next : (t : Bool) → NoneYet i → t ≡ p (g + i) → t ≡ false → NoneYet (i + 1)
    any_next t y e f = sym (ap (λ (b : Bool). b || any_from p (g + (i + 1)) (n - (i + 1))) (sym e ∙ f)) ∙ sym any_turn ∙ y

    pub all_lost : (t : Bool) → AllYet i → t ≡ p (g + i) → t ≡ false → false ≡ all_from p g n
    all_lost t y e f = sym (ap (λ (b : Bool). b && all_from p (g + (i + 1)) (n - (i + 1))) (sym e ∙ f)) ∙ sym all_turn ∙ y

    pub all_next : (t : Bool) → AllYet i → t ≡ p (g + i) → t ≡ true → AllYet (i + 1)
    all_next t y e f = sym (ap (λ (b : Bool). b && all_from p (g + (i + 1)) (n - (i + 1))) (sym e ∙ f)) ∙ sym all_turn ∙ y

  pub none_end : (i : ℕ) → i ≡ n → NoneYet i → false ≡ any_from p g n
  none_end i h y = let a : n - i ≡ 0 = omega arith in sym (ap (any_from p (g + i)) a) ∙ y

  pub all_done : (i : ℕ) → i ≡ n → AllYet i → true ≡ all_from p g n
  all_done i h y = let a : n - i ≡ 0 = omega arith in sym (ap (all_from p (g + i)) a) ∙ y

-- ---- a place's answers
module _ (flags : List Bool) (w : ℕ → Bool) (g : ℕ) where
  pub live_either : (t : Bool) → t ≡ w g → (get_or flags g false || t) ≡ live_at flags w g
  live_either t f = ap (λ (b : Bool). get_or flags g false || b) f

  pub served_open : (t : Bool) → get_or flags g false ≡ true → t ≡ w g → t ≡ served_at flags w g
  served_open t e f = f ∙ sym (ap (λ (b : Bool). not b || w g) e)

  pub served_closed : get_or flags g false ≡ false → true ≡ served_at flags w g
  served_closed e = sym (ap (λ (b : Bool). not b || w g) e)
