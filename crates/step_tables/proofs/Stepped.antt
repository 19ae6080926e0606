-- One step, in the tables: the row that was found leaves its place for the one that was drawn, and the tables hold the state that the definition
-- chooses. Assumes nothing.
use Rattle.std.specs.Prelude.{◌≡◌, refl, Bool, true, false, cond, not, ◌⊎◌, List, [], ◌∷◌, ◌++◌, map, ℕ, zero, suc, ◌+◌, ◌-◌, ◌<◌, ◌≤◌, length, get_or}
use Rattle.std.proofs.Common.{sym, ap, ap₂, ◌∙◌, subst, inl, inr, arith, eqb-true}
use Rattle.std.proofs.lemmas.List.{length-map}
use Rattle.row_order.specs.Iso.{Row, Key}
use Rattle.row_order.specs.Lists.{tab, concat}
use Rattle.row_order.specs.ListLaws.{length-tab, get_or-tab}
use Rattle.plan.specs.Forest.{Forest, none, tree, roots, size}
use Rattle.plan.specs.Op.{Op, Plan}
use Rattle.semantics.specs.Facts.{Facts, is_nil, facts_op, facts}
use Rattle.semantics.specs.Properties.{cuts, any_of}
use Rattle.semantics.specs.Runs.{Streams}
use Rattle.stepping.specs.Outlets.{Outlet, keeps, put}
use Rattle.stepping.specs.Moves.{Manner, still, passing, merging, sorting, manner, Way, straight, gathered, scattered, way, outputs, shown, Taken, taken, take_by, sent, ready, with_rows, least_head, once, choices, moves}
use Rattle.stepping.specs.Stepping.{Drawn, chosen}
use Rattle.stepping.proofs.Theorems.Formed.{Formed, Steppable, steppable-tree}
use Rattle.stepping.proofs.Theorems.Manners.{Lone, lone}
use Rattle.step_tables.specs.Places.{within, is_straight, total, inner, Tables, Shows, shows_none, shows_tree}
use Rattle.step_tables.specs.Shown.{is_within}
use Rattle.step_tables.specs.Found.{first_by}
use Rattle.step_tables.specs.Opened.{Fits, way_fits}
use Rattle.step_tables.proofs.Moved.{Moved, was, Outside, Apart}
use Rattle.step_tables.proofs.Taken.{first_within, takes_from, takes_any, puts}
use Rattle.step_tables.specs.Draws.{drawn_value, drawn_next}
use Rattle.step_tables.proofs.Spots.{Spot, Stands, put_back, choices_of, moves_by, Chosen}
use Rattle.step_tables.proofs.Standing.{outs_of, ins_of, spot_shows, spot_formed, Range, range, Through, shows_back}
use Rattle.step_tables.proofs.ChosenMoves.{drawn_below, chosen_is}

-- ---- the row: number i of the order, from input stream k; g, n: the inputs' places
abbrev pub Finds : Manner → Tables → ℕ → ℕ → ℕ → ℕ → Type 0
Finds still T g n k i = ⊥
Finds passing T g n k i = (k < n) × (i ≡ first_by [] T.rows T.places (g + k) 1 T.order)
Finds (merging ks) T g n k i = (k < n) × (i ≡ first_by [] T.rows T.places (g + k) 1 T.order)
Finds (sorting true ks) T g n k i = (k < n) × (i ≡ first_by ks T.rows T.places (g + k) 1 T.order)
Finds (sorting false ks) T g n k i = i ≡ first_by ks T.rows T.places g n T.order

-- it is at these places
found_at : (ks : List Key) (T : Tables) (g m i : ℕ) → i < length T.order → i ≡ first_by ks T.rows T.places g m T.order → (g ≤ was T i) × (was T i < g + m)
found_at ks T g m i h e =
    is_within g m (was T i)
    (ap (λ (x : ℕ). within g m (was T x)) e ∙ first_within ks T.rows T.places g m T.order (omega (arith, e)))

pub was_input : (m : Manner) (T : Tables) (g n k i : ℕ) → i < length T.order → Finds m T g n k i → (g ≤ was T i) × (was T i < g + n)
was_input still T g n k i h e = absurd e
was_input passing T g n k i h e = let x = found_at [] T (g + k) 1 i h e.1 in (omega (arith, x.0), omega (arith, x.1, e.0))
was_input (merging ks) T g n k i h e = let x = found_at [] T (g + k) 1 i h e.1 in (omega (arith, x.0), omega (arith, x.1, e.0))
was_input (sorting true ks) T g n k i h e = let x = found_at ks T (g + k) 1 i h e.1 in (omega (arith, x.0), omega (arith, x.1, e.0))
was_input (sorting false ks) T g n k i h e = found_at ks T g n i h e

one_place_only : (ks : List Key) (T : Tables) (g k i : ℕ) → i < length T.order → i ≡ first_by ks T.rows T.places (g + k) 1 T.order → was T i ≡ g + k
one_place_only ks T g k i h e = let x = found_at ks T (g + k) 1 i h e in omega (arith, x.0, x.1)

-- ---- the row leaves the children's outlets
abbrev Leaves : Tables → Manner → ℕ → ℕ → ℕ → ℕ → Plan → Forest Outlet → Tables → Type 0
Leaves T m k i n g c sc T' =
    (sc' : Forest Outlet) × (take_by m (facts c) k sc ≡ taken (T.rows (get_or T.order i 0)) sc') × Shows T' n g (g + total (facts c)) c sc'

whole_leaves : {T T' : Tables} {i g q n b : ℕ} (ks : List Key) (k : ℕ) (c : Plan) (sc : Forest Outlet) → Moved T T' i g q → Shows T n b (b + total (facts c)) c sc →
    length (roots c) ≡ 1 → i ≡ first_by ks T.rows T.places b (total (facts c)) T.order → Apart b (b + total (facts c)) c g →
    Apart b (b + total (facts c)) c q → Leaves T (sorting false ks) k i n b c sc T'
whole_leaves ks k none sc v shows_none l e x y = absurd (omega arith)
whole_leaves {T = T} ks k (tree o c none) none v sh l e x y = elim sh [ ]
whole_leaves {T} {T'} {i} {g} {q} {n} {b} ks k (tree o c none) (tree d sc sr) v sh l e x y =
    let z : total (facts (tree o c none)) ≡ (facts_op o (facts c)).streams = omega arith in
    let e' = e ∙ ap (λ (m : ℕ). first_by ks T.rows T.places b m T.order) z in
    let w = found_at ks T b (facts_op o (facts c)).streams i v.far e' in
    takes_any ks v sh e' w.1 x y (omega arith)
whole_leaves ks k (tree o c (tree o' c' r')) sc v sh l e x y = absurd (omega arith)

leaves : {T T' : Tables} {i g q n b : ℕ} (m : Manner) (k : ℕ) (c : Plan) (sc : Forest Outlet) → Moved T T' i g q → Shows T n b (b + total (facts c)) c sc →
    Lone m (length (roots c)) → Finds m T b (total (facts c)) k i → Apart b (b + total (facts c)) c g → Apart b (b + total (facts c)) c q → Leaves T m k i n b c sc T'
leaves still k c sc v sh o e x y = absurd e
leaves {T} {i = i} {b = b} passing k c sc v sh o e x y =
    takes_from [] k v sh e.0 e.1 (one_place_only [] T b k i v.far e.1) x y (omega arith)
leaves {T} {i = i} {b = b} (merging ks) k c sc v sh o e x y =
    takes_from [] k v sh e.0 e.1 (one_place_only [] T b k i v.far e.1) x y (omega arith)
leaves {T} {i = i} {b = b} (sorting true ks) k c sc v sh o e x y =
    takes_from ks k v sh e.0 e.1 (one_place_only ks T b k i v.far e.1) x y (omega arith)
leaves (sorting false ks) k c sc v sh o e x y = whole_leaves ks k c sc v sh o e x y

-- ---- where it goes: output stream
abbrev pub output_of : Way → ℕ → ℕ → ℕ
output_of w k l = get_or (outputs w k) l 0

-- by the table's two numbers: straight, and how many outputs
pub output_is : (w : Way) (s n k l : ℕ) → Fits w s n → k < n → l < length (outputs w k) → output_of w k l < s
output_is straight s n k zero h b c = omega arith
output_is straight s n k (suc l) h b c = absurd (omega arith)
output_is gathered s n k zero h b c = omega arith
output_is gathered s n k (suc l) h b c = absurd (omega arith)
output_is (scattered m) s n k l h b c =
    let e = length-tab m (λ (x : ℕ). x) in let z = get_or-tab m (λ (x : ℕ). x) 0 l (omega (arith, e)) in omega (arith, e, z)

pub sent-at : (o : Op) (d : Outlet) (r : Forest Outlet) (k l : ℕ) (x : Row) (c other : Forest Outlet) → l < length (outputs (way o) k) →
    get_or (sent o d r k (taken x c)) l other ≡ tree (put (cuts o) (output_of (way o) k l) (shown o x) d) c r
sent-at o d r k l x c other h = go (outputs (way o) k) l h
  where
    go : (ls : List ℕ) (i : ℕ) → i < length ls → get_or (map (λ j. tree (put (cuts o) j (shown o x) d) c r) ls) i other ≡ tree (put (cuts o) (get_or ls i 0) (shown o x) d) c r
    go [] i b = absurd (omega arith)
    go (y ∷ ls) zero b = refl
    go (y ∷ ls) (suc i) b = go ls i (omega arith)

-- ---- the step. gone: where cut rows are
pub record Steps (T T' : Tables) (s : Spot) (gone k i l g : ℕ) : Type 0 where
  pub finds : Finds (manner s.op (facts s.kids)) T s.inp (ins_of s) k i
  pub drawn : l < length (outputs (way s.op) k)
  pub inside : output_of (way s.op) k l < outs_of s
  pub moved : Moved T T' i g (s.out + output_of (way s.op) k l)
  pub row : T'.rows (get_or T.order i 0) ≡ shown s.op (T.rows (get_or T.order i 0))
  pub counted : get_or T'.counts (s.out + output_of (way s.op) k l) 0 ≡ suc (get_or T.counts (s.out + output_of (way s.op) k l) 0)
  pub goes : g ≡ cond (keeps (cuts s.op) (get_or T.counts (s.out + output_of (way s.op) k l) 0)) (s.out + output_of (way s.op) k l) gone

pub steps_on : {T T' : Tables} {p n a b gone k i l g : ℕ} {f : Plan} {st : Forest Outlet} {s : Spot} (h : Stands p n a b f st s) → Shows T n a b f st → Steppable f →
    a + total (facts f) ≤ b → b + inner f ≤ gone → Steps T T' s gone k i l g → (other : Forest Outlet) →
    (x : Forest Outlet) × (get_or (sent s.op s.outlet s.right k (take_by (manner s.op (facts s.kids)) (facts s.kids) k s.sub)) l other ≡ x) ×
    (length (sent s.op s.outlet s.right k (take_by (manner s.op (facts s.kids)) (facts s.kids) k s.sub)) ≡ length (outputs (way s.op) k)) ×
    Shows T' n a b f (put_back h x)
steps_on {T} {T'} {p} {n} {a} {b} {gone} {k} {i} {l} {g} {f} {st} {s} h sh m lo hi w other = go (spot_shows h sh)
  where
    R : Range a b f s
    R = range h lo

    q : ℕ
    q = s.out + output_of (way s.op) k l

    c : Plan
    c = s.kids

    at : (s.inp ≤ was T i) × (was T i < s.inp + ins_of s)
    at = was_input (manner s.op (facts s.kids)) T s.inp (ins_of s) k i w.moved.far w.finds

    -- the output is before the inputs, or past all
    far : (y : ℕ) → (y ≡ s.out + output_of (way s.op) k l) ⊎ (gone ≤ y) → Apart s.inp (s.inp + total (facts s.kids)) s.kids y
    far y (inl e) = record { above = inl (omega (arith, R.before, w.inside)); under = inl (omega (arith, R.before, w.inside)) }
    far y (inr e) = record { above = inr (omega (arith, R.end)); under = inr (omega (arith, R.end)) }

    to : (t : Bool) → g ≡ cond t (s.out + output_of (way s.op) k l) gone → (g ≡ s.out + output_of (way s.op) k l) ⊎ (gone ≤ g)
    to true e = inl e
    to false e = inr (omega arith)

    there : (g ≡ s.out + output_of (way s.op) k l) ⊎ (gone ≤ g)
    there = to (keeps (cuts s.op) (get_or T.counts (s.out + output_of (way s.op) k l) 0)) w.goes

    go : Shows T s.number s.out s.inp (tree s.op s.kids s.rest) (tree s.outlet s.sub s.right) →
        (x : Forest Outlet) × (get_or (sent s.op s.outlet s.right k (take_by (manner s.op (facts s.kids)) (facts s.kids) k s.sub)) l other ≡ x) ×
        (length (sent s.op s.outlet s.right k (take_by (manner s.op (facts s.kids)) (facts s.kids) k s.sub)) ≡ length (outputs (way s.op) k)) ×
        Shows T' n a b f (put_back h x)
    go (shows_tree u t y z) =
        let e = leaves (manner s.op (facts s.kids)) k s.kids s.sub w.moved y (lone s.op (facts s.kids) (length (roots s.kids)) (spot_formed h m)) w.finds
        (far g there) (far (s.out + output_of (way s.op) k l) (inl refl)) in
        let x = tree (put (cuts s.op) (output_of (way s.op) k l) (shown s.op (T.rows (get_or T.order i 0))) s.outlet) e.0 s.right in (
          x,
          ap (λ (v : Taken). get_or (sent s.op s.outlet s.right k v) l other) e.1
              ∙ sent-at s.op s.outlet s.right k l (T.rows (get_or T.order i 0)) e.0 other w.drawn,
          ap (λ (v : Taken). length (sent s.op s.outlet s.right k v)) e.1
              ∙ length-map (outputs (way s.op) k) (λ j. tree (put (cuts s.op) j (shown s.op (T.rows (get_or T.order i 0))) s.outlet) e.0 s.right),
          shows_back gone h w.moved sh lo hi
              (record { from_low = at.0; from_high = at.1; to_low = omega arith; to_high = omega (arith, w.inside); where_to = there }) x
              (puts {d = s.outlet} {sc = s.sub} {sr = s.right} (output_of (way s.op) k l) gone (shown s.op (T.rows (get_or T.order i 0))) (omega (arith, R.end)) w.moved (shows_tree u t y z) w.inside w.row
              at.0 at.1 (omega (arith, R.before)) w.counted w.goes e.2),
        )
