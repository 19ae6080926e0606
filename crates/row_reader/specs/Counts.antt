-- How many rows wait at each place and at each node's inputs, counted from the places. Assumes nothing.
use Rattle.std.specs.Prelude.{◌≡◌, refl, Bool, true, false, cond, List, [], ◌∷◌, ℕ, zero, suc, ◌+◌, ◌*◌, ◌<◌, ◌≤◌, eqb, length, get_or, take, set}
use Rattle.std.proofs.Common.{sym, ap, ap₂, ◌∙◌, arith, add-one, eq-eqb, ne_eqb, take_all, length-take-le, get_or-set_same, get_or-set_other}
use Rattle.std.proofs.Math.Decide.{dec_lt, ℕ_discrete}
use Rattle.stepping.specs.Outlets.{tally}
use Rattle.step_tables.specs.Places.{within}
use Rattle.step_tables.specs.Shown.{within-true, within_below, within_above}
use Rattle.step_tables.specs.Passes.{node_in}
use Rattle.step_tables.specs.declared.StepNode.{StepNode}
use Rattle.step_tables.specs.Counting.{one, tally_in, tally_is, many_ext, tally_parts, tally_none}
use Rattle.step_tables.specs.Holding.{more, more_is, HeldAre, held_few}
use Rattle.step_tables.specs.Queueing.{QueuedAre}

-- Nothing counted yet
abbrev pub Zeros : List ℕ → Type 0
Zeros l = (x : ℕ) → get_or l x 0 ≡ 0

-- ---- rows by place: the first r are counted

pub held_start : (held places : List ℕ) → Zeros held → HeldAre held (take 0 places)
held_start held places h x = h x

tally-more : (x r : ℕ) (l : List ℕ) → r < length l → tally x (take (suc r) l) ≡ tally x (take r l) + one (eqb (get_or l r 0) x)
tally-more x r [] h = absurd (omega arith)
tally-more x zero (y ∷ l) h = go (eqb y x)
  where
    go : (b : Bool) → cond b 1 0 ≡ 0 + one b
    go true = refl
    go false = refl
tally-more x (suc r) (y ∷ l) h = go (eqb y x) (tally-more x r l (omega arith))
  where
    go : (b : Bool) → tally x (take (suc r) l) ≡ tally x (take r l) + one (eqb (get_or l r 0) x) →
        cond b (suc (tally x (take (suc r) l))) (tally x (take (suc r) l)) ≡ cond b (suc (tally x (take r l))) (tally x (take r l)) + one (eqb (get_or l r 0) x)
    go true e = omega arith
    go false e = e

pub held_more : (held places : List ℕ) (r : ℕ) → r < length places → get_or places r 0 < length held → HeldAre held (take r places) →
    HeldAre (more (get_or places r 0) held) (take (r + 1) places)
held_more held places r h l are x =
    more_is (get_or places r 0) held l x ∙ ap (λ (n : ℕ). n + one (eqb (get_or places r 0) x)) (are x) ∙ sym (tally-more x r places h)
    ∙ ap (λ (n : ℕ). tally x (take n places)) (sym (add-one r))

-- no count is larger than the number of rows
pub held_small : (held places : List ℕ) (r x : ℕ) → r ≤ length places → HeldAre held (take r places) → get_or held x 0 ≤ r
held_small held places r x h are = omega (arith, held_few held (take r places) are x, length-take-le r places h)

pub held_all : (held places : List ℕ) (r : ℕ) → length places ≤ r → HeldAre held (take r places) → HeldAre held places
held_all held places r h are x = are x ∙ ap (tally x) (take_all r places h)

-- ---- rows at m places from g on

abbrev pub held_in : List ℕ → ℕ → ℕ → ℕ
held_in held g zero = 0
held_in held g (suc m) = held_in held g m + get_or held (g + m) 0

pub held_in_more : (held : List ℕ) (g m n : ℕ) → n ≡ held_in held g m → n + get_or held (g + m) 0 ≡ held_in held g (m + 1)
held_in_more held g m n e = ap (λ (x : ℕ). x + get_or held (g + m) 0) e ∙ sym (ap (held_in held g) (add-one m))

pub held_in_few : (held : List ℕ) (g m n : ℕ) → ((x : ℕ) → get_or held x 0 < 65536) → n ≡ held_in held g m → n ≤ 65536 * m
held_in_few held g m n h e = omega (arith, few m)
  where
    few : (m : ℕ) → held_in held g m ≤ 65536 * m
    few zero = omega arith
    few (suc m) = omega (arith, few m, h (g + m))

-- one place
one_place : (x y : ℕ) → within x 1 y ≡ eqb y x
one_place x y = go (ℕ_discrete y x) (dec_lt y x)
  where
    go : Dec (y ≡ x) → Dec (y < x) → within x 1 y ≡ eqb y x
    go (yes e) d = within-true x 1 y (omega arith) (omega arith) ∙ sym (eq-eqb y x e)
    go (no e) (yes d) = within_below x 1 y d ∙ sym (ne_eqb y x e)
    go (no e) (no d) = within_above x 1 y (omega arith) ∙ sym (ne_eqb y x e)

tally-one : (x : ℕ) (l : List ℕ) → tally_in x 1 l ≡ tally x l
tally-one x l = many_ext (within x 1) (λ y. eqb y x) (one_place x) l ∙ sym (tally_is x l)

pub held_in_lem : (held places : List ℕ) → HeldAre held places → (g m : ℕ) → held_in held g m ≡ tally_in g m places
held_in_lem held places are g zero = sym (tally_none g places)
held_in_lem held places are g (suc m) =
    ap₂ ◌+◌ (held_in_lem held places are g m) (are (g + m) ∙ sym (tally-one (g + m) places)) ∙ sym (tally_parts g m 1 places)
    ∙ ap (λ (n : ℕ). tally_in g n places) (add-one m)

-- ---- rows by node: the first j are counted

pub record Queued (t : List StepNode) (held queued : List ℕ) (j : ℕ) : Type 0 where
  pub done : (i : ℕ) → i < j → get_or queued i 0 ≡ held_in held (node_in t i).inp (node_in t i).inps
  pub left : (i : ℕ) → j ≤ i → get_or queued i 0 ≡ 0

pub queued_start : (t : List StepNode) (held queued : List ℕ) → Zeros queued → Queued t held queued 0
queued_start t held queued h = record { done = λ i l. absurd (omega arith); left = λ i l. h i }

pub queued_more : (t : List StepNode) (held queued : List ℕ) (j n : ℕ) → j < length queued → Queued t held queued j → n ≡ held_in held (node_in t j).inp (node_in t j).inps →
    Queued t held (set queued j n) (j + 1)
queued_more t held queued j n h q e =
    record {
      done = λ i l. done i l (dec_lt i j);
      left = λ i l. get_or-set_other queued j i n 0 (λ z. omega arith) ∙ q.left i (omega arith);
    }
  where
    done : (i : ℕ) → i < j + 1 → Dec (i < j) → get_or (set queued j n) i 0 ≡ held_in held (node_in t i).inp (node_in t i).inps
    done i l (yes k) = get_or-set_other queued j i n 0 (λ z. omega arith) ∙ q.done i k
    done i l (no k) =
        let z : i ≡ j = omega arith in
        ap (λ (k : ℕ). get_or (set queued j n) k 0) z ∙ get_or-set_same queued j n 0 h ∙ e
        ∙ sym (ap (λ (k : ℕ). held_in held (node_in t k).inp (node_in t k).inps) z)

pub queued_all : (t : List StepNode) (held queued : List ℕ) (j n : ℕ) → j ≡ n → Queued t held queued j →
    ((places : List ℕ) → HeldAre held places → QueuedAre t n queued places) × (get_or queued n 0 ≡ 0)
queued_all t held queued j n e q = (
  λ places are i h. q.done i (omega arith) ∙ held_in_lem held places are (node_in t i).inp (node_in t i).inps,
  q.left n (omega arith),
)
