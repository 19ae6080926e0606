-- What a step answers. These are definitions.
use Rattle.std.specs.Prelude.{Bool, cond, not, ◌&&◌, List, [], ◌∷◌, ℕ, ◌+◌, ◌-◌, length, Result, Ok, Err}
use Rattle.row_order.specs.Iso.{Key}
use Rattle.plan.specs.declared.Refusal.{Refusal}
use Rattle.plan.specs.declared.Refusal.TheVariants.{TooManyNodes, ConstantSort}
use Rattle.walks.specs.Counted.{too_many, one}
use Rattle.sort_pushdown.specs.declared.Decision.{Decision}
use Rattle.sort_pushdown.specs.Decisions.{tops_of}

abbrev pub some : List Key → ℕ
some [] = 0
some (k ∷ ks) = 1

-- The nodes of the plan after the decision, n before it
abbrev pub after_by : Decision → ℕ → ℕ
after_by d n = (n + length (tops_of d.tops)) - one d.gone

-- c: a sort without an order; q: no step ends here; p: one node more is reached on the way; n: the nodes after it
abbrev pub step_by : Bool → Bool → Bool → ℕ → Result ℕ Refusal
step_by c q p n = cond c (Err ConstantSort) (cond (not q && too_many (n + one p)) (Err TooManyNodes) (Ok n))
