-- The passes over the nodes' table. Assumes nothing.
use Rattle.std.specs.Prelude.{◌≡◌, refl, Bool, true, false, cond, not, ◌&&◌, List, ◌∷◌, ℕ, zero, suc, ◌+◌, ◌*◌, ◌-◌, ◌<◌, ◌≤◌, eqb, ltb, length, get_or}
use Rattle.std.proofs.Common.{sym, ap, ap₂, ◌∙◌, arith, lt-ltb, le-ltb}
use Rattle.row_order.specs.Lists.{tab}
use Rattle.stepping.specs.Moves.{Manner, still, passing, merging, sorting}
use Rattle.step_tables.specs.Shown.{tab_ext}
use Rattle.step_tables.specs.Choosing.{served_at, any_from, all_from, chosen_from}
use Rattle.step_tables.specs.Filling.{fill_node}
use Rattle.step_tables.specs.Opened.{fill_all}
use Rattle.step_tables.specs.Places.{kind_of, Node}
use Rattle.step_tables.specs.Movers.{may_move, trues}
use Rattle.step_tables.specs.declared.StepNode.{StepNode}
use Rattle.step_tables.specs.declared.StepManner.{StepManner}
use Rattle.step_tables.specs.declared.StepManner.TheVariants.{Still, Passing, Merging, Sorting}

-- ---- the table of the nodes
-- The number of a manner, as `kind_of` has it
abbrev pub number_of : StepManner → ℕ
number_of Still = 0
number_of Passing = 1
number_of Merging = 2
number_of Sorting = 3

-- and the manner of a number: from 3 on it sorts
abbrev pub manner_at : ℕ → StepManner
manner_at zero = Still
manner_at (suc zero) = Passing
manner_at (suc (suc zero)) = Merging
manner_at (suc (suc (suc k))) = Sorting

pub manner_back : (k : StepManner) → manner_at (number_of k) ≡ k
manner_back Still = refl
manner_back Passing = refl
manner_back Merging = refl
manner_back Sorting = refl

-- An entry of the table, as a node
abbrev pub node_from : StepNode → Node
node_from x =
    record {
      kind = number_of x.manner;
      straight_on = x.straight;
      out = x.out;
      outs = x.outs;
      inp = x.inp;
      inps = x.inps;
      above = x.above;
    }

-- What stands in the table past its end
abbrev pub no_node : StepNode
no_node = record { manner = Still; straight = false; out = 0; outs = 0; inp = 0; inps = 0; above = 0 }

abbrev pub node_in : List StepNode → ℕ → Node
node_in t j = node_from (get_or t j no_node)

-- The table holds these nodes
pub record Listed (t : List StepNode) (ns : List Node) : Type 0 where
  pub room : length ns ≤ length t
  pub are : tab (length ns) (node_in t) ≡ ns

-- Each node's outputs stand before its inputs, and these among len places
pub record Laid (t : List StepNode) (n len : ℕ) : Type 0 where
  pub entries : n ≤ length t
  pub few : len < 1000000000
  pub before_inputs : (j : ℕ) → j < n → (node_in t j).out + (node_in t j).outs ≤ (node_in t j).inp
  pub among : (j : ℕ) → j < n → (node_in t j).inp + (node_in t j).inps ≤ len
  pub as_wide : (j : ℕ) → j < n → (node_in t j).straight_on ≡ true → (node_in t j).outs ≡ (node_in t j).inps

module _ (N : ℕ → Node) (n : ℕ) (w : ℕ → Bool) (fl : List Bool) where
  -- nodes from j on are done
  abbrev pub DoneFrom : ℕ → List Bool → Type 0
  DoneFrom j m = m ≡ fill_all w (tab (n - j) (λ i. N (j + i))) fl

  pub done_none : (j : ℕ) → j ≡ n → DoneFrom j fl
  done_none j h = let e : n - j ≡ 0 = omega arith in sym (ap (λ (k : ℕ). fill_all w (tab k (λ i. N (j + i))) fl) e)

  pub done_all : (j : ℕ) (m : List Bool) → j ≡ 0 → DoneFrom j m → m ≡ fill_all w (tab n N) fl
  done_all j m h d =
      let e : n - j ≡ n = omega arith in
      d ∙ ap (λ (k : ℕ). fill_all w (tab k (λ i. N (j + i))) fl) e
      ∙ ap (λ (l : List Node). fill_all w l fl) (tab_ext n (λ i. N (j + i)) N (λ i l. let z : j + i ≡ i = omega arith in ap N z))

  pub done_more : (j : ℕ) (m m' : List Bool) → j < n → DoneFrom (suc j) m →
      m' ≡ fill_node (N j).straight_on (N j).out (N j).outs (N j).inp (N j).inps w m → DoneFrom j m'
  done_more j m m' h d e =
      let a : suc (n - suc j) ≡ n - j = omega arith in
      let z : j ≡ j + 0 = omega arith in
      e ∙ ap₂ (λ (x : Node) (q : List Bool). fill_node x.straight_on x.out x.outs x.inp x.inps w q) (ap N z)
      (d ∙ ap (λ (l : List Node). fill_all w l fl) (tab_ext (n - suc j) (λ i. N (suc j + i)) (λ i. N (j + suc i))
      (λ i l. let y : suc j + i ≡ j + suc i = omega arith in ap N y)))
      ∙ ap (λ (k : ℕ). fill_all w (tab k (λ i. N (j + i))) fl) a

-- ---- the test of one operator, by its kind; some: whether a row waits at its inputs
abbrev pub may_by : ℕ → List Bool → (ℕ → Bool) → Bool → ℕ → ℕ → Bool
may_by zero fl w some g n = false
may_by (suc zero) fl w some g n = some
may_by (suc (suc zero)) fl w some g n = all_from (served_at fl w) g n && some
may_by (suc (suc (suc k))) fl w some g n = not (any_from (λ x. get_or fl x false) g n) && some

pub may_by_lem : (m : Manner) (fl : List Bool) (w : ℕ → Bool) (some : Bool) (g n : ℕ) → may_by (kind_of m) fl w some g n ≡ may_move m fl w some g n
may_by_lem still fl w some g n = refl
may_by_lem passing fl w some g n = refl
may_by_lem (merging ks) fl w some g n = refl
may_by_lem (sorting p ks) fl w some g n = refl

-- A number answers as its manner does, so that the manners say all that numbers could: who can move, and who waits for open streams
pub may_by_manner : (k : ℕ) (fl : List Bool) (w : ℕ → Bool) (some : Bool) (g n : ℕ) → may_by (number_of (manner_at k)) fl w some g n ≡ may_by k fl w some g n
may_by_manner zero fl w some g n = refl
may_by_manner (suc zero) fl w some g n = refl
may_by_manner (suc (suc zero)) fl w some g n = refl
may_by_manner (suc (suc (suc k))) fl w some g n = refl

pub waits_by_manner : (k : ℕ) → ltb 1 (number_of (manner_at k)) ≡ ltb 1 k
waits_by_manner zero = refl
waits_by_manner (suc zero) = refl
waits_by_manner (suc (suc zero)) = refl
waits_by_manner (suc (suc (suc k))) = lt-ltb 1 3 (omega arith) ∙ sym (lt-ltb 1 (suc (suc (suc k))) (omega arith))

and_no : (b : Bool) → b && false ≡ false
and_no true = refl
and_no false = refl

and_yes : (b : Bool) → b && true ≡ b
and_yes true = refl
and_yes false = refl

-- With no row at its inputs no operator moves; with one its kind decides. k: the kind; q: how many rows wait at its inputs
module _ (fl : List Bool) (w : ℕ → Bool) (g n : ℕ) where
  no_row : (k : ℕ) → may_by k fl w false g n ≡ false
  no_row zero = refl
  no_row (suc zero) = refl
  no_row (suc (suc zero)) = and_no (all_from (served_at fl w) g n)
  no_row (suc (suc (suc k))) = and_no (not (any_from (λ x. get_or fl x false) g n))

  pub may_none : (k q : ℕ) → q ≡ 0 → false ≡ may_by k fl w (ltb 0 q) g n
  may_none k q e = sym (ap (λ (b : Bool). may_by k fl w b g n) (le-ltb 0 q (omega arith)) ∙ no_row k)

  pub may_still : (k : ℕ) (some : Bool) → k ≡ 0 → false ≡ may_by k fl w some g n
  may_still k some e = sym (ap (λ (x : ℕ). may_by x fl w some g n) e)

  pub may_pass : (k q : ℕ) → k ≡ 1 → 0 < q → true ≡ may_by k fl w (ltb 0 q) g n
  may_pass k q e h = sym (ap (λ (x : ℕ). may_by x fl w (ltb 0 q) g n) e ∙ lt-ltb 0 q h)

  pub may_merge : (k q : ℕ) (t : Bool) → k ≡ 2 → 0 < q → t ≡ all_from (served_at fl w) g n → t ≡ may_by k fl w (ltb 0 q) g n
  may_merge k q t e h f =
      f ∙ sym (ap (λ (x : ℕ). may_by x fl w (ltb 0 q) g n) e ∙ ap (λ (b : Bool). all_from (served_at fl w) g n && b) (lt-ltb 0 q h)
      ∙ and_yes (all_from (served_at fl w) g n))

  sorts : (k : ℕ) (some : Bool) → 2 < k → may_by k fl w some g n ≡ not (any_from (λ x. get_or fl x false) g n) && some
  sorts zero some h = absurd (omega arith)
  sorts (suc zero) some h = absurd (omega arith)
  sorts (suc (suc zero)) some h = absurd (omega arith)
  sorts (suc (suc (suc k))) some h = refl

  pub may_sort : (k q : ℕ) (t : Bool) → 2 < k → 0 < q → t ≡ any_from (λ x. get_or fl x false) g n → not t ≡ may_by k fl w (ltb 0 q) g n
  may_sort k q t e h f =
      ap not f
      ∙ sym (sorts k (ltb 0 q) e ∙ ap (λ (b : Bool). not (any_from (λ x. get_or fl x false) g n) && b) (lt-ltb 0 q h)
      ∙ and_yes (not (any_from (λ x. get_or fl x false) g n)))

-- A row waits at place g, by how many wait there
abbrev pub held_at : List ℕ → ℕ → Bool
held_at held g = ltb 0 (get_or held g 0)

-- Node j can move; queued: how many rows wait at each node's inputs
abbrev pub node_may : List StepNode → List Bool → List ℕ → List ℕ → ℕ → Bool
node_may t fl held queued j = may_by (node_in t j).kind fl (held_at held) (ltb 0 (get_or queued j 0)) (node_in t j).inp (node_in t j).inps

trues_from : (p : ℕ → Bool) (k n : ℕ) → trues (tab n (λ i. p (k + i))) ≡ length (chosen_from p k n)
trues_from p k zero = refl
trues_from p k (suc n) =
    let z : k + 0 ≡ k = omega arith in
    ap₂ (λ (b : Bool) (x : ℕ). cond b (suc x) x) (ap p z)
    (ap trues (tab_ext n (λ i. p (k + suc i)) (λ i. p (suc k + i)) (λ i h. let e : k + suc i ≡ suc k + i = omega arith in ap p e)) ∙ trues_from p (suc k) n)
    ∙ go (p k)
  where
    go : (b : Bool) → cond b (suc (length (chosen_from p (suc k) n))) (length (chosen_from p (suc k) n)) ≡
        length (cond b (k ∷ chosen_from p (suc k) n) (chosen_from p (suc k) n))
    go true = refl
    go false = refl

-- how many can move, as `moves_number` counts them
pub trues_chosen : (p : ℕ → Bool) (n : ℕ) → trues (tab n p) ≡ length (chosen_from p 0 n)
trues_chosen p n = ap trues (tab_ext n p (λ i. p (0 + i)) (λ i h. let e : i ≡ 0 + i = omega arith in ap p e)) ∙ trues_from p 0 n
