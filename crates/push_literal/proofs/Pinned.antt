-- The Rust's own form of pushing, by computation: each plan tells it from a form that errs in one line, which 'not:' names.
use Rattle.std.specs.Prelude.{◌≡◌, refl, true, false, [], ◌∷◌, Some, None}
use Rattle.plan.specs.Op.{merge_op, Plan, repartition, sort_op}
use Rattle.plan.specs.Samples.{by, up}
use Rattle.plan.specs.declared.Refusal.TheVariants.{TooManyNodes}
use Rattle.walks.specs.Counted.{answered, refused}
use Rattle.push_literal.specs.PushdownSortsLiteral.{Given, gives, literal_pushed}
use Rattle.walks.proofs.Examples.Samples.{besides, by_two, falling, filtered, output, pair, single, sort, src, stack, turned}

abbrev literal : Plan → Given
literal f = literal_pushed 504 f

-- not: a sort whose order another differs from hands its child the parent's fetch
pub literal_own_fetch :
    literal (stack (sort_op true (up 0 ∷ turned ∷ []) None ∷ sort_op true (by 1) (Some 4) ∷ []) falling)
    ≡ gives (answered (stack (sort_op false (turned ∷ []) None ∷ sort_op false (by 1) (Some 4) ∷ []) falling))
literal_own_fetch = refl

-- not: the child of an unnecessary sort is not rebuilt
pub literal_rebuilt :
    literal (stack (single (by 1) ∷ sort_op false (by 1) None ∷ repartition true 2 false [] ∷ sort_op false (by_two 1 0) (Some 2) ∷ [])
    (pair 2 (by 0) 0))
    ≡ gives (answered (stack (single (by 1) ∷ repartition false 2 false [] ∷ sort_op true (by_two 1 0) (Some 2) ∷ []) (pair 2 (by 0) 0)))
literal_rebuilt = refl

-- not: it keeps the parent's distribution
abbrev reset : Plan
reset = stack (single (by 1) ∷ sort_op true (by 1) None ∷ []) (pair 2 [] 0)

pub literal-reset : literal reset ≡ gives (answered reset)
literal-reset = refl

-- not: the root's child loses what assign_initial_requirements gave it
pub literal_root_child : literal (sort 1 (pair 2 [] 0)) ≡ gives
    (answered (stack (merge_op (by 1) None ∷ sort_op true (by 1) None ∷ []) (pair 2 [] 0)))
literal_root_child = refl

-- not: the node itself, or those to its right, are not counted
pub literal_counted :
    (literal (output (by 0) (filtered 124 (src 1 []))) ≡ gives (refused TooManyNodes))
    × (literal (besides (filtered 80 (src 1 [])) (src 1 [])) ≡ gives (answered (besides (filtered 80 (src 1 [])) (src 1 []))))
literal_counted = (refl, refl)
