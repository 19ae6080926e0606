-- Pushing by the structural recursion (PushdownSorts, Counted) answers what the Rust's own form does (PushdownSortsLiteral), for every plan:
-- `pushed_is_literal` with 21, 23 and 25, `accepted_is_literal` for what 01 accepts; without a limit of nodes `push_is_literal` (WholePlans).
-- `gives` says that the Rust's walk neither ran out of fuel nor indexed past the end.
use Rattle.std.specs.Prelude.{◌≡◌, refl, Bool, true, false, cond, ℕ, ◌*◌, ◌≤◌, leb}
use Rattle.std.proofs.Common.{ap, ◌∙◌, arith, leb-true, le-ltb, ltb-false}
use Rattle.plan.specs.Forest.{Forest, size}
use Rattle.plan.specs.Op.{Plan}
use Rattle.plan.specs.WellFormed.{well_formed}
use Rattle.plan.specs.declared.Refusal.TheVariants.{HasPartialSort}
use Rattle.semantics.proofs.Theorems.Common.Bools.{and_left, and_right}
use Rattle.walks.specs.Marks.{Marked}
use Rattle.walks.specs.PushdownSorts.{at_root}
use Rattle.walks.specs.Counted.{answer_of, count_down, Counted, has_partial_sort, pushed, refused, too_many}
use Rattle.push_literal.specs.PushdownSortsLiteral.{OneChild, given_by, gives, literal_pushed, pushdown_sorts_by}
use Rattle.walks.proofs.Theorems.Calls.Counts.{count_by_lem}
use Rattle.walks.proofs.Theorems.Calls.Answers.{well_fit}
use Rattle.push_literal.proofs.WholePlans.{fit_one, literal_agrees}

many_mono : (m n : ℕ) → m ≤ n → too_many n ≡ false → too_many m ≡ false
many_mono m n l e = le-ltb 126 m (omega (arith, ltb-false 126 n e))

-- As it is called: 21, then 23 or 25 as reached, else the plan
pub pushed_is_literal : (f : Plan) → OneChild f → (n : ℕ) → 4 * size f ≤ n → literal_pushed n f ≡ gives (pushed f)
pushed_is_literal f h n l = go (has_partial_sort f)
  where
    same : given_by (pushdown_sorts_by too_many n f) ≡ gives (answer_of (count_down (λ i. at_root) (size f) f))
    same = literal_agrees too_many many_mono f h n l ∙ ap (λ (w : Counted (Forest Marked)). gives (answer_of w)) (count_by_lem (λ i. at_root) (size f) f)

    go : (b : Bool) →
        cond b (gives (refused HasPartialSort)) (given_by (pushdown_sorts_by too_many n f)) ≡ gives
        (cond b (refused HasPartialSort) (answer_of (count_down (λ i. at_root) (size f) f)))
    go true = refl
    go false = same

-- Every plan that 01 accepts has 126 nodes at most: fuel 504 is enough
pub accepted_is_literal : (f : Plan) → well_formed f ≡ true → (n : ℕ) → 504 ≤ n → literal_pushed n f ≡ gives (pushed f)
accepted_is_literal f h n l =
    let small : leb (size f) 126 ≡ true = search (and_left, and_right) in
    pushed_is_literal f (fit_one f (well_fit f h)) n (omega (arith, leb-true (size f) 126 small))
