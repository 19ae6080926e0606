-- The contexts that the Rust's walk meets (PushdownSortsLiteral): a node that holds what the structural walk visits it with, over a plan whose
-- nodes hold the default, but for the root's children.
use Rattle.std.specs.Prelude.{◌≡◌, refl, Bool, false, cond, List, ℕ, suc, ◌+◌, get_or, Option, None}
use Rattle.std.proofs.Common.{ap, ap₂, ◌∙◌}
use Rattle.row_order.specs.Iso.{Key}
use Rattle.plan.specs.Forest.{Forest, none, tree, size}
use Rattle.plan.specs.Op.{Op, Plan}
use Rattle.plan.specs.declared.Distribution.{Distribution}
use Rattle.semantics.specs.Facts.{facts, is_nil}
use Rattle.semantics.specs.Properties.{dist_of, fetches, fetch_op, rebuilt, wanted}
use Rattle.walks.specs.Marks.{marked, node, plant, strip}
use Rattle.walks.specs.SortPushdown.{default_requirements, ParentRequirements}
use Rattle.walks.specs.PushdownSorts.{asked, assign_initial_requirements, at_root, Visit}
use Rattle.push_literal.specs.PushdownSortsLiteral.{each_child, initial, initial_from, Required, SortPushDown}

-- Root number i of the plan holds g i, all below the default
abbrev pub holding : (ℕ → ParentRequirements) → Plan → Forest Required
holding g none = none
holding g (tree o c r) = tree (record { op = o; mark = g 0 }) (holding (λ i. default_requirements) c) (holding (λ i. g (suc i)) r)

abbrev pub resting : Plan → Forest Required
resting c = holding (λ i. default_requirements) c

-- What the children of a node o over c hold when it is visited; root: it is the plan's root
abbrev pub kids_hold : Bool → Op → Plan → ℕ → ParentRequirements
kids_hold b o c i = cond b (assign_initial_requirements o c i).req default_requirements

abbrev pub touched : Visit → Op → Plan → Op
touched v o c = cond v.touch (rebuilt o (facts c)) o

-- What the structural walk visits with v, as a context
abbrev pub visited : Visit → Op → Plan → SortPushDown
visited v o c = node (touched v o c) v.req (holding (kids_hold v.root (touched v o c) c) c)

abbrev pub contexts : (ℕ → Visit) → Plan → Forest Required
contexts q none = none
contexts q (tree o c r) = plant (visited (q 0) o c) (contexts (λ i. q (suc i)) r)

-- A node that an order is required of is not the root
abbrev pub BelowRoot : Visit → Type 0
BelowRoot v = is_nil v.req.order ≡ false → v.root ≡ false

pub plan_holding : (g : ℕ → ParentRequirements) (c : Plan) → strip (holding g c) ≡ c
plan_holding g none = refl
plan_holding g (tree o c r) = ap₂ (tree o) (plan_holding (λ i. default_requirements) c) (plan_holding (λ i. g (suc i)) r)

pub size-holding : (g : ℕ → ParentRequirements) (c : Plan) → size (holding g c) ≡ size c
size-holding g none = refl
size-holding g (tree o c r) = ap₂ (λ (m n : ℕ). suc (m + n)) (size-holding (λ i. default_requirements) c) (size-holding (λ i. g (suc i)) r)

pub plan_resting : (c : Plan) → strip (resting c) ≡ c
plan_resting c = plan_holding (λ i. default_requirements) c

pub size-resting : (c : Plan) → size (resting c) ≡ size c
size-resting c = size-holding (λ i. default_requirements) c

pub size-contexts : (q : ℕ → Visit) (c : Plan) → size (contexts q c) ≡ size c
size-contexts q none = refl
size-contexts q (tree o c r) = ap₂ (λ (m n : ℕ). suc (m + n)) (size-holding (kids_hold (q 0).root (touched (q 0) o c) c) c)
    (size-contexts (λ i. q (suc i)) r)

pub contexts-asked : (g : ℕ → ParentRequirements) (c : Plan) → contexts (λ i. asked (g i)) c ≡ holding g c
contexts-asked g none = refl
contexts-asked g (tree o c r) = ap (tree (record { op = o; mark = g 0 }) (resting c)) (contexts-asked (λ i. g (suc i)) r)

pub each_holding : (h : ℕ → ParentRequirements → ParentRequirements) (g : ℕ → ParentRequirements) (c : Plan) →
    each_child h (holding g c) ≡ holding (λ i. h i (g i)) c
each_holding h g none = refl
each_holding h g (tree o c r) = ap (tree (record { op = o; mark = h 0 (g 0) }) (resting c)) (each_holding (λ i. h (suc i)) (λ i. g (suc i)) r)

abbrev initially : (ℕ → List Key) → (ℕ → Distribution) → List (Option ℕ) → ℕ → ParentRequirements
initially ws ds fs i = record { order = ws i; fetch = get_or fs i None; dist = ds i }

initial-holding : (ws : ℕ → List Key) (ds : ℕ → Distribution) (g : ℕ → ParentRequirements) (c : Plan) →
    initial_from ws ds (holding g c) ≡ holding (initially ws ds (fetches c)) c
initial-holding ws ds g none = refl
initial-holding ws ds g (tree o c r) =
    ap₂ (λ (p : Plan) (s : Forest Required). tree (record { op = o; mark = record { order = ws 0; fetch = fetch_op o (fetches p); dist = ds 0 } })
    (resting c) s) (plan_holding (λ i. default_requirements) c)
    (initial-holding (λ i. ws (suc i)) (λ i. ds (suc i)) (λ i. g (suc i)) r)

new_holding : (c : Plan) → marked default_requirements c ≡ resting c
new_holding none = refl
new_holding (tree o c r) = ap₂ (tree (record { op = o; mark = default_requirements })) (new_holding c) (new_holding r)

pub initial-contexts : (f : Plan) → initial f ≡ contexts (λ i. at_root) f
initial-contexts none = refl
initial-contexts (tree o c r) =
    ap₂ (tree (record { op = o; mark = default_requirements }))
    (ap (initial_from (wanted o) (dist_of o)) (new_holding c) ∙ initial-holding (wanted o) (dist_of o) (λ i. default_requirements) c) (initial-contexts r)
