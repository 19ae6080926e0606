-- A row that goes through a node: shown by it, cut or kept, and put to its new place. Definitions, and what the code asks.
use Rattle.std.specs.Prelude.{◌≡◌, refl, Bool, true, false, cond, List, [], ◌∷◌, ℕ, zero, suc, ◌+◌, ◌<◌, ◌≤◌, eqb, ℤ, length, get_or, set, take}
use Rattle.std.proofs.Common.{sym, ap, ap₂, ◌∙◌, subst, arith, get_or-set_same, get_or-set_other, length-take-le}
use Rattle.std.proofs.Math.Decide.{ℕ_discrete}
use Rattle.row_order.specs.Iso.{Row}
use Rattle.plan.specs.Op.{Op}
use Rattle.plan.specs.Numbers.{code}
use Rattle.semantics.specs.Properties.{Cut, cuts}
use Rattle.semantics.specs.Runs.{proj}
use Rattle.stepping.specs.Outlets.{keeps}
use Rattle.stepping.specs.Moves.{shown}
use Rattle.step_tables.specs.Places.{taken_out}
use Rattle.step_tables.specs.Found.{Known}
use Rattle.step_tables.specs.Rows.{row_in, Room, Inside, inside}
use Rattle.step_tables.specs.Holding.{rehold}
use Rattle.class_tables.specs.Tables.{Columns as Small}
use Rattle.step_rows.specs.Projecting.{Columns, Projected}
use Rattle.step_nodes.specs.declared.ColumnRow.{ColumnRow}
use Rattle.step_nodes.specs.Moves.{Projects, shown_same, shown-columns}

-- Row r is as o puts it out, and every other row is as it was
pub record ShownAs (o : Op) (r : ℕ) (cells : List ℤ) (nulls widths : List ℕ) (cells' : List ℤ) (nulls' widths' : List ℕ) : Type 0 where
  pub row : row_in cells' nulls' widths' r ≡ shown o (row_in cells nulls widths r)
  pub others : (q : ℕ) → (q ≡ r → ⊥) → get_or widths q 0 ≤ 32 → row_in cells' nulls' widths' q ≡ row_in cells nulls widths q
  pub width : (q : ℕ) → get_or widths q 0 ≤ 32 → get_or widths' q 0 ≤ 32
  pub numbers : length cells' ≡ length cells
  pub sets : length nulls' ≡ length nulls
  pub entries : length widths' ≡ length widths

pub shows_same : (o : Op) (r : ℕ) (cells : List ℤ) (nulls widths : List ℕ) (b : Bool) → b ≡ eqb (code o) 3 → b ≡ false → ShownAs o r cells nulls widths cells nulls widths
shows_same o r cells nulls widths b e f =
    record {
      row = sym (shown_same o (row_in cells nulls widths r) (sym e ∙ f));
      others = λ q n h. refl;
      width = λ q h. h;
      numbers = refl;
      sets = refl;
      entries = refl;
    }

pub shows_columns : (o : Op) (r : ℕ) (cells : List ℤ) (nulls widths : List ℕ) (cells' : List ℤ) (nulls' widths' : List ℕ) (c : ColumnRow) (k : ℕ) →
    r < length widths → Projects o c → take k c.items ≡ take c.len c.items → length (take k c.items) ≤ 32 →
    Projected cells nulls widths r (take k c.items) cells' nulls' widths' → ShownAs o r cells nulls widths cells' nulls' widths'
shows_columns o r cells nulls widths cells' nulls' widths' c k inw p e few h =
    record {
      row = h.row ∙ ap (λ (cs : List ℕ). proj cs (row_in cells nulls widths r)) e ∙ sym (shown-columns o c (row_in cells nulls widths r) p);
      others = h.others;
      width = λ q l. go q l (ℕ_discrete q r);
      numbers = h.numbers;
      sets = h.sets;
      entries = h.entries;
    }
  where
    go : (q : ℕ) → get_or widths q 0 ≤ 32 → Dec (q ≡ r) → get_or widths' q 0 ≤ 32
    go q l (yes z) =
        let x = ap (λ (ws : List ℕ). get_or ws q 0) h.width ∙ ap (λ (j : ℕ). get_or (set widths r (length (take k c.items))) j 0) z
        ∙ get_or-set_same widths r (length (take k c.items)) 0 inw in
        omega (arith, x, few)
    go q l (no z) =
        let x = ap (λ (ws : List ℕ). get_or ws q 0) h.width ∙ get_or-set_other widths r q (length (take k c.items)) 0 z in
        omega (arith, x, l)

-- What `carry` asks
pub record Carries (cells : List ℤ) (nulls widths places order counts held : List ℕ) (at q gone : ℕ) : Type 0 where
  pub known : Known order (length places)
  pub room : Room (length places) cells nulls widths
  pub there : at < length order
  pub counts_there : q < length counts
  pub counts_few : get_or counts q 0 < 60000
  pub counts_long : length counts < 1000000000
  pub was_there : get_or places (get_or order at 0) 0 < length held
  pub was_held : 0 < get_or held (get_or places (get_or order at 0) 0) 0
  pub to_there : q < length held
  pub gone_there : gone < length held
  pub held_few : (x : ℕ) → get_or held x 0 < 60000

-- and what it leaves
pub record Carried (o : Op) (at q gone : ℕ) (cells : List ℤ) (nulls widths places order counts held : List ℕ) (cells' : List ℤ)
    (nulls' widths' places' order' counts' held' : List ℕ) (kept : Bool) : Type 0 where
  pub kept_is : kept ≡ keeps (cuts o) (get_or counts q 0)
  pub shown_as : ShownAs o (get_or order at 0) cells nulls widths cells' nulls' widths'
  pub places_are : places' ≡ set places (get_or order at 0) (cond kept q gone)
  pub order_is : order' ≡ taken_out at order
  pub counts_are : counts' ≡ set counts q (get_or counts q 0 + 1)
  pub held_are : held' ≡ rehold (get_or places (get_or order at 0) 0) (cond kept q gone) held

-- the columns of a projection are among 32, and so are its first ones
pub take_few : (l : List ℕ) (k : ℕ) → k ≤ length l → length (take k l) ≡ k
take_few l k h = length-take-le k l h

get_d_take : (l : List ℕ) (k j : ℕ) → j < k → get_or (take k l) j 0 ≡ get_or l j 0
get_d_take [] zero j h = absurd (omega arith)
get_d_take [] (suc k) j h = refl
get_d_take (x ∷ l) zero j h = absurd (omega arith)
get_d_take (x ∷ l) (suc k) zero h = refl
get_d_take (x ∷ l) (suc k) (suc j) h = get_d_take l k j (omega arith)

pub columns_below : (l : List ℕ) (k : ℕ) → k ≤ length l → Small l → Columns (take k l) 32
columns_below l k h c j b = let e = take_few l k h in let x = c j in omega (arith, get_d_take l k j (omega (arith, e)), x)

-- where a row goes is among the places
pub to_there : (kept : Bool) (q gone n : ℕ) → q < n → gone < n → cond kept q gone < n
to_there true q gone n h k = h
to_there false q gone n h k = k
