-- The walk reads of a decision what the code says of it: the visits of the children, the step and the count. Assumes nothing.
use Rattle.std.specs.Prelude.{◌≡◌, refl, Bool, cond, not, ◌&&◌, List, ℕ, zero, suc, ◌+◌, ◌-◌, ◌<◌, length}
use Rattle.std.proofs.Common.{ap, ap₂, arith}
use Rattle.std.proofs.Math.Path.{fun_ext}
use Rattle.plan.specs.Forest.{Forest, none, tree, roots}
use Rattle.plan.specs.Op.{Op, Plan}
use Rattle.plan.specs.declared.Refusal.TheVariants.{TooManyNodes, ConstantSort}
use Rattle.semantics.specs.Facts.{Facts, facts, facts_op, is_nil, known_order}
use Rattle.semantics.specs.Properties.{fetches}
use Rattle.walks.specs.Utils.{is_sort}
use Rattle.walks.specs.Marks.{Marked, plant}
use Rattle.walks.specs.PushdownSorts.{Visit, pushdown_sorts_helper, carry_out}
use Rattle.walks.specs.Counted.{Counted, stopped, counted, bind, one, too_many, constant_sort, overflows, afterwards, count_down}
use Rattle.sort_pushdown.specs.declared.Decision.{Decision}
use Rattle.sort_pushdown.specs.Decisions.{Decides, visit_for}
use Rattle.push_steps.specs.Steps.{after_by}

-- What the children are visited with is read below their number only
visits_below : (q p : ℕ → Visit) (n : ℕ) (f : Plan) → ((i : ℕ) → i < length (roots f) → q i ≡ p i) → count_down q n f ≡ count_down p n f
visits_below q p n none h = refl
visits_below q p n (tree o c r) h =
    ap₂ step (h zero (omega arith)) (fun_ext (λ m. visits_below (λ i. q (suc i)) (λ i. p (suc i)) m r (λ i l. h (suc i) (omega arith))))
  where
    step : Visit → (ℕ → Counted (Forest Marked)) → Counted (Forest Marked)
    step v right =
        cond (constant_sort o c) (stopped ConstantSort)
        (cond (overflows (pushdown_sorts_helper v o c) n) (stopped TooManyNodes)
        (bind (count_down (pushdown_sorts_helper v o c).reqs (afterwards (pushdown_sorts_helper v o c) n) c)
        (λ d m. bind (right m) (λ s l. counted (plant (carry_out (pushdown_sorts_helper v o c) d) s) l))))

-- so a decision in code answers for the children as the definition's does
pub children_visited : (q : Visit) (o : Op) (c : Plan) (r : Decision) (n : ℕ) → Decides o c (pushdown_sorts_helper q o c) r
    → count_down (visit_for r (fetches c)) n c ≡ count_down (pushdown_sorts_helper q o c).reqs n c
children_visited q o c r n h = visits_below (visit_for r (fetches c)) (pushdown_sorts_helper q o c).reqs n c h.reqs

module _ (o : Op) (q : Visit) (c : Plan) (F : Facts) (r : Decision) (d : Decides o c (pushdown_sorts_helper q o c) r) (f : F ≡ facts_op o (facts c)) where
  pub after_is : (n : ℕ) → after_by r n ≡ afterwards (pushdown_sorts_helper q o c) n
  after_is n = ap₂ (λ (l : List Op) (b : Bool). (n + length l) - one b) d.tops.is d.gone

  pub constant_is : is_sort o && is_nil (known_order F) ≡ constant_sort o c
  constant_is = ap (λ (G : Facts). is_sort o && is_nil (known_order G)) f

  pub over_is : (n : ℕ) → not r.quiet && too_many (after_by r n + one r.peak) ≡ overflows (pushdown_sorts_helper q o c) n
  over_is n = ap₂ (λ (b : Bool) (m : ℕ). not b && too_many m) d.quiet (ap₂ ◌+◌ (after_is n) d.peak)
