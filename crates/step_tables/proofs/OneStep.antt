-- One step of the stepping, whole: what an operator chooses from, in the tables' terms, and the state after the row has moved. Assumes nothing.
use Rattle.std.specs.Prelude.{◌≡◌, refl, Bool, true, false, cond, not, List, [], ◌∷◌, ◌++◌, map, ℕ, zero, suc, ◌+◌, ◌-◌, ◌<◌, ◌≤◌, length, get_or}
use Rattle.std.proofs.Common.{sym, ap, ap₂, ◌∙◌, subst, arith}
use Rattle.std.proofs.lemmas.List.{length-map}
use Rattle.row_order.specs.Iso.{Row}
use Rattle.row_order.proofs.Order.{no_bool}
use Rattle.row_order.specs.Lists.{tab, concat}
use Rattle.plan.specs.Forest.{Forest, none, tree, roots, size}
use Rattle.plan.specs.Op.{Op, Plan}
use Rattle.semantics.specs.Facts.{Facts, is_nil, facts_op, facts}
use Rattle.semantics.specs.Properties.{any_of}
use Rattle.semantics.specs.Runs.{Streams}
use Rattle.stepping.specs.Outlets.{Outlet, inputs}
use Rattle.stepping.specs.Moves.{Manner, still, passing, merging, sorting, manner, way, outputs, opens, ready, with_rows, least_head, once, choices, sent, take_by, moves}
use Rattle.stepping.specs.Stepping.{Drawn, chosen}
use Rattle.stepping.proofs.Theorems.Formed.{Steppable}
use Rattle.step_tables.specs.Places.{total, inner, Tables, Shows, shows_tree}
use Rattle.step_tables.specs.Shown.{inputs_are}
use Rattle.step_tables.specs.Choosing.{waits_at, streams_at, flags_at, chosen_from, with_rows_are}
use Rattle.step_tables.specs.Opened.{Opened}
use Rattle.step_tables.specs.Draws.{drawn_value, drawn_next}
use Rattle.step_tables.proofs.Spots.{Spot, Stands, put_back, choices_of, moves_by, Chosen}
use Rattle.step_tables.proofs.Standing.{ins_of, spot_shows, spot_opened}
use Rattle.step_tables.proofs.ChosenMoves.{chosen_is}
use Rattle.step_tables.proofs.Stepped.{Steps, steps_on}

-- ---- the input streams that an operator which can move chooses from; g, n: its inputs
abbrev pub choices_in : Manner → (ℕ → Row) → List ℕ → List ℕ → ℕ → ℕ → List ℕ
choices_in still rows pl order g n = []
choices_in passing rows pl order g n = chosen_from (λ i. waits_at pl order (g + i)) 0 n
choices_in (merging ks) rows pl order g n = least_head ks (streams_at rows pl order g n)
choices_in (sorting true ks) rows pl order g n = chosen_from (λ i. waits_at pl order (g + i)) 0 n
choices_in (sorting false ks) rows pl order g n = 0 ∷ []

gated : (b : Bool) (l : List ℕ) → is_nil (cond b l []) ≡ false → cond b l [] ≡ l
gated true l e = refl
gated false l e = no_bool (sym e)

gated-not : (b : Bool) (l : List ℕ) → is_nil (cond b [] l) ≡ false → cond b [] l ≡ l
gated-not true l e = no_bool (sym e)
gated-not false l e = refl

one_only : (b : Bool) (l : List ℕ) → is_nil (cond b [] (once l)) ≡ false → cond b [] (once l) ≡ 0 ∷ []
one_only true l e = no_bool (sym e)
one_only false [] e = no_bool (sym e)
one_only false (x ∷ l) e = refl

choices_in_lem : (m : Manner) (rows : ℕ → Row) (fl : List Bool) (pl order : List ℕ) (g n : ℕ) →
    is_nil (choices m (flags_at fl g n) (streams_at rows pl order g n)) ≡ false → choices m (flags_at fl g n) (streams_at rows pl order g n) ≡ choices_in m rows pl order g n
choices_in_lem still rows fl pl order g n e = refl
choices_in_lem passing rows fl pl order g n e = with_rows_are rows pl order g n
choices_in_lem (merging ks) rows fl pl order g n e =
    gated (ready (flags_at fl g n) (streams_at rows pl order g n)) (least_head ks (streams_at rows pl order g n)) e
choices_in_lem (sorting true ks) rows fl pl order g n e =
    gated-not (any_of (flags_at fl g n)) (with_rows 0 (streams_at rows pl order g n)) e ∙ with_rows_are rows pl order g n
choices_in_lem (sorting false ks) rows fl pl order g n e = one_only (any_of (flags_at fl g n)) (with_rows 0 (streams_at rows pl order g n)) e

pub choices_are : {T : Tables} {fl : List Bool} {p n a b : ℕ} {f : Plan} {st : Forest Outlet} {s : Spot} → Stands p n a b f st s → Shows T n a b f st → Opened fl a b f st →
    is_nil (choices_of s) ≡ false → choices_of s ≡ choices_in (manner s.op (facts s.kids)) T.rows T.places T.order s.inp (ins_of s)
choices_are {T} {fl} {s = s} h sh op e = go (spot_shows h sh)
  where
    M : Manner
    M = manner s.op (facts s.kids)

    go : Shows T s.number s.out s.inp (tree s.op s.kids s.rest) (tree s.outlet s.sub s.right) →
        choices_of s ≡ choices_in (manner s.op (facts s.kids)) T.rows T.places T.order s.inp (ins_of s)
    go (shows_tree u t y z) =
        let r : choices_of s ≡ choices (manner s.op (facts s.kids)) (flags_at fl s.inp (ins_of s)) (streams_at T.rows T.places T.order s.inp (ins_of s)) =
        ap₂ (choices (manner s.op (facts s.kids))) (spot_opened h op) (inputs_are y) in
        r ∙ choices_in_lem (manner s.op (facts s.kids)) T.rows fl T.places T.order s.inp (ins_of s) (sym (ap is_nil r) ∙ e)

-- ---- the state after the step
pub step_is : {T T' : Tables} {p n a b gone k i l g : ℕ} {f : Plan} {st : Forest Outlet} (bytes : List ℕ) (i₀ i₁ i₂ : ℕ) →
    (ch : Chosen p n a b f st (drawn_value bytes i₀ (length (moves f st)))) → Shows T n a b f st → Steppable f → a + total (facts f) ≤ b → b + inner f ≤ gone →
    i₁ ≡ drawn_next i₀ (length (moves f st)) →
    drawn_value bytes i₁ (length (choices_of ch.spot)) < length (choices_of ch.spot) →
    k ≡ get_or (choices_of ch.spot) (drawn_value bytes i₁ (length (choices_of ch.spot))) 0 →
    i₂ ≡ drawn_next i₁ (length (choices_of ch.spot)) →
    l ≡ drawn_value bytes i₂ (length (outputs (way ch.spot.op) k)) →
    Steps T T' ch.spot gone k i l g →
    Shows T' n a b f (chosen bytes i₀ st (moves f st)).value × ((chosen bytes i₀ st (moves f st)).next ≡ drawn_next i₂ (length (outputs (way ch.spot.op) k)))
step_is {T} {T'} {p} {n} {a} {b} {gone} {k} {i} {l} {g} {f} {st} bytes i₀ i₁ i₂ ch sh m lo hi e₁ v e₂ e₃ e₄ w = (
  subst (λ (y : Forest Outlet). Shows T' n a b f y) (sym (ap (λ (z : Drawn (Forest Outlet)). z.value) all)) on.3,
  ap (λ (z : Drawn (Forest Outlet)). z.next) all ∙ ap (drawn_next i₂) on.2,
)
  where
    s : Spot
    s = ch.spot

    C : List ℕ
    C = choices_of ch.spot

    on : (x : Forest Outlet) ×
        (get_or (sent ch.spot.op ch.spot.outlet ch.spot.right k (take_by (manner ch.spot.op (facts ch.spot.kids)) (facts ch.spot.kids) k ch.spot.sub)) l st ≡ x) ×
        (length (sent ch.spot.op ch.spot.outlet ch.spot.right k (take_by (manner ch.spot.op (facts ch.spot.kids)) (facts ch.spot.kids) k ch.spot.sub)) ≡
        length (outputs (way ch.spot.op) k)) × Shows T' n a b f (put_back ch.stands x)
    on = steps_on ch.stands sh m lo hi w st

    one : (h : ℕ → List (Forest Outlet)) (ls : List ℕ) (j : ℕ) → j < length ls → get_or (map h ls) j [] ≡ h (get_or ls j 0)
    one h [] j b = absurd (omega arith)
    one h (y ∷ ls) zero b = refl
    one h (y ∷ ls) (suc j) b = one h ls j (omega arith)

    long : length (moves_by ch.spot (choices_of ch.spot)) ≡ length (choices_of ch.spot)
    long = length-map (choices_of ch.spot)
        (λ i. sent ch.spot.op ch.spot.outlet ch.spot.right i (take_by (manner ch.spot.op (facts ch.spot.kids)) (facts ch.spot.kids) i ch.spot.sub))

    outs : List (Forest Outlet)
    outs = sent ch.spot.op ch.spot.outlet ch.spot.right k (take_by (manner ch.spot.op (facts ch.spot.kids)) (facts ch.spot.kids) k ch.spot.sub)

    last : drawn_value bytes i₂
        (length (sent ch.spot.op ch.spot.outlet ch.spot.right k (take_by (manner ch.spot.op (facts ch.spot.kids)) (facts ch.spot.kids) k ch.spot.sub))) ≡ l
    last = ap (drawn_value bytes i₂) on.2 ∙ sym e₄

    all : ◌≡◌ {A = Drawn (Forest Outlet)} (chosen bytes i₀ st (moves f st)) (record {
      value = put_back ch.stands on.0;
      next = drawn_next i₂
          (length (sent ch.spot.op ch.spot.outlet ch.spot.right k (take_by (manner ch.spot.op (facts ch.spot.kids)) (facts ch.spot.kids) k ch.spot.sub)));
    })
    all =
        chosen_is bytes i₀ st (moves f st) (put_back ch.stands) (moves_by ch.spot (choices_of ch.spot)) ch.moves_are i₁ e₁ i₂
        (e₃ ∙ ap (drawn_next i₁) (sym long))
        (sent ch.spot.op ch.spot.outlet ch.spot.right k (take_by (manner ch.spot.op (facts ch.spot.kids)) (facts ch.spot.kids) k ch.spot.sub))
        (ap (λ (x : ℕ). get_or (moves_by ch.spot (choices_of ch.spot)) (drawn_value bytes i₁ x) []) long
        ∙ one (λ i. sent ch.spot.op ch.spot.outlet ch.spot.right i (take_by (manner ch.spot.op (facts ch.spot.kids)) (facts ch.spot.kids) i ch.spot.sub))
        (choices_of ch.spot) (drawn_value bytes i₁ (length (choices_of ch.spot))) v
        ∙ ap (λ (x : ℕ). sent ch.spot.op ch.spot.outlet ch.spot.right x (take_by (manner ch.spot.op (facts ch.spot.kids)) (facts ch.spot.kids) x ch.spot.sub)) (sym e₂))
        on.0 (omega (arith, last, on.2, w.drawn))
        (ap (λ (x : ℕ). get_or (sent ch.spot.op ch.spot.outlet ch.spot.right k (take_by (manner ch.spot.op (facts ch.spot.kids)) (facts ch.spot.kids) k ch.spot.sub)) x st) last ∙ on.1)
