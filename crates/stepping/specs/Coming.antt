-- What still comes, in a state: for every node the streams that it has put out and will put out, from the rows that wait and those of its
-- children still to come. The proof goes backwards over the steps and keeps this; no statement but those of the theorems names it.
use Rattle.std.specs.Prelude.{◌≡◌, Bool, true, false, cond, List, [], ◌∷◌, ◌++◌, ℕ, zero, suc, length}
use Rattle.row_order.specs.Iso.{Row}
use Rattle.plan.specs.Forest.{Forest, none, tree, roots}
use Rattle.plan.specs.Op.{Op, Plan}
use Rattle.semantics.specs.Facts.{Facts, facts_op, facts}
use Rattle.semantics.specs.Properties.{Cut, cuts}
use Rattle.semantics.specs.Runs.{Streams, Env, Made}
use Rattle.stepping.specs.Outlets.{Outlet, on, tally, keeps}

-- What a stream keeps of l where c rows came before
abbrev pub cut_from : Cut → ℕ → List Row → List Row
cut_from k c [] = []
cut_from k c (x ∷ l) = cond (keeps k c) (x ∷ cut_from k (suc c) l) (cut_from k (suc c) l)

-- w: the rows that wait on each output stream; t: how many came to it; raw: what still comes to each
abbrev pub joined : Cut → (ℕ → List Row) → (ℕ → ℕ) → Streams → Streams
joined k w t [] = []
joined k w t (l ∷ raw) = (w zero ++ cut_from k (t zero) l) ∷ joined k (λ n. w (suc n)) (λ n. t (suc n)) raw

-- No source has further rows, and filters pass every row
abbrev pub rest : Env
rest = record { rows = λ i k. []; test = λ j r. true }

-- One node, with its outlet d: out is what waits in d and then what its rule makes of css, cut on from what came
pub record Coming (o : Op) (fs : List Facts) (css : List Streams) (d : Outlet) (out : Streams) : Type 0 where
  pub raw : Streams
  pub made : Made rest 0 0 o fs css raw
  pub many : length raw ≡ (facts_op o fs).streams
  pub is : out ≡ joined (cuts o) (λ k. on k d.waiting) (λ k. tally k d.came) raw

pub data Ahead : Plan → Forest Outlet → Forest Streams → Type 0 where
  ahead_none : Ahead none none none
  ahead_tree : {o : Op} {c r : Plan} {d : Outlet} {sc sr : Forest Outlet} {s : Streams} {cs rs : Forest Streams} →
      Coming o (facts c) (roots cs) d s → Ahead c sc cs → Ahead r sr rs → Ahead (tree o c r) (tree d sc sr) (tree s cs rs)
