-- Width, constants and classes of a node come from those of its children alone: orders and streams do not enter.
use Rattle.std.specs.Prelude.{◌≡◌, refl, Bool, true, false, cond, List, [], ◌∷◌, map, ℕ, zero, suc, ◌+◌, ltb, get_or}
use Rattle.std.proofs.Common.{sym, ap, ap₂, ◌∙◌}
use Rattle.row_order.proofs.Order.{no_bool}
use Rattle.plan.specs.Op.{coalesce, filter, global_limit, hash_join, local_limit, merge_op, On, Op, output_requirement, partial_sort, aggregate, projection, repartition, sort_merge_join, sort_op, source, union}
use Rattle.plan.specs.declared.JoinType.{JoinType}
use Rattle.plan.specs.declared.JoinType.TheVariants.{Full, Inner, Left, LeftAnti, LeftSemi, Right, RightAnti, RightSemi}
use Rattle.plan.specs.WellFormed.{columns_of}
use Rattle.semantics.specs.Facts.{at0, at1, beside, both, Facts, facts_op, join_base, link_all, linked, nothing, placed, proj_facts, shifted, union_facts, unknown}
use Rattle.walks.specs.Terms.{blank, easing}

nth_blank : (fs : List Facts) (n : ℕ) → get_or (map blank fs) n nothing ≡ blank (get_or fs n nothing)
nth_blank [] n = refl
nth_blank (F ∷ fs) zero = refl
nth_blank (F ∷ fs) (suc n) = nth_blank fs n

pub blank_at : (fs gs : List Facts) (n : ℕ) → map blank fs ≡ map blank gs → blank (get_or fs n nothing) ≡ blank (get_or gs n nothing)
blank_at fs gs n e = sym (nth_blank fs n) ∙ ap (λ (l : List Facts). get_or l n nothing) e ∙ nth_blank gs n

widths_blank : (fs : List Facts) → map (λ F. F.width) (map blank fs) ≡ map (λ F. F.width) fs
widths_blank [] = refl
widths_blank (F ∷ fs) = ap (λ (l : List ℕ). F.width ∷ l) (widths_blank fs)

pub blank_widths : (fs gs : List Facts) → map blank fs ≡ map blank gs → map (λ F. F.width) fs ≡ map (λ F. F.width) gs
blank_widths fs gs e = sym (widths_blank fs) ∙ ap (map (λ F. F.width)) e ∙ widths_blank gs

union_of : (fs : List Facts) → blank (union_facts (map blank fs)) ≡ blank (union_facts fs)
union_of [] = refl
union_of (F ∷ []) = refl
union_of (F ∷ G ∷ fs) = ap (λ (B : Facts). blank (both F B)) (union_of (G ∷ fs))

link_blank : (w : ℕ) (on : List On) (X Y : Facts) → blank X ≡ blank Y → blank (link_all w on X) ≡ blank (link_all w on Y)
link_blank w [] X Y e = e
link_blank w (k ∷ on) X Y e = link_blank w on (cond (ltb k.key.col w) (linked X k.key.col (w + k.other)) X)
    (cond (ltb k.key.col w) (linked Y k.key.col (w + k.other)) Y) (go (ltb k.key.col w))
  where
    go : (b : Bool) → blank (cond b (linked X k.key.col (w + k.other)) X) ≡ blank (cond b (linked Y k.key.col (w + k.other)) Y)
    go true = ap (λ (B : Facts). blank (linked B k.key.col (w + k.other))) e
    go false = e

join_blank : (t : JoinType) (on : List On) (F G H K : Facts) → blank F ≡ blank H → blank G ≡ blank K → blank (join_base t on F G) ≡ blank (join_base t on H K)
join_blank Inner on F G H K e f =
    sym (link_blank F.width on (beside (blank F) (blank G)) (beside F G) refl)
    ∙ ap₂ (λ (A B : Facts). blank (link_all A.width on (beside A B))) e f
    ∙ link_blank H.width on (beside (blank H) (blank K)) (beside H K) refl
join_blank Left on F G H K e f = ap₂ (λ (A B : Facts). blank (placed A B.width)) e f
join_blank Right on F G H K e f = ap₂ (λ (A B : Facts). blank (shifted A.width B)) e f
join_blank Full on F G H K e f = ap₂ (λ (A B : Facts). blank (unknown (A.width + B.width))) e f
join_blank LeftSemi on F G H K e f = e
join_blank LeftAnti on F G H K e f = e
join_blank RightSemi on F G H K e f = f
join_blank RightAnti on F G H K e f = f

pub op_blank : (o : Op) (fs gs : List Facts) → map blank fs ≡ map blank gs → blank (facts_op o fs) ≡ blank (facts_op o gs)
op_blank (source s) fs gs e = refl
op_blank filter fs gs e = blank_at fs gs 0 e
op_blank (projection cols) fs gs e = ap (λ (B : Facts). blank (proj_facts B cols)) (blank_at fs gs 0 e)
op_blank union fs gs e = sym (union_of fs) ∙ ap (λ (l : List Facts). blank (union_facts l)) e ∙ union_of gs
op_blank (repartition p n h ks) fs gs e = blank_at fs gs 0 e
op_blank (coalesce f) fs gs e = blank_at fs gs 0 e
op_blank (sort_op p ks f) fs gs e = blank_at fs gs 0 e
op_blank (merge_op ks f) fs gs e = blank_at fs gs 0 e
op_blank (global_limit s f note) fs gs e = blank_at fs gs 0 e
op_blank (local_limit f note) fs gs e = blank_at fs gs 0 e
op_blank (sort_merge_join t on) fs gs e = join_blank t on (at0 fs) (at1 fs) (at0 gs) (at1 gs) (blank_at fs gs 0 e) (blank_at fs gs 1 e)
op_blank (hash_join t on) fs gs e = join_blank t on (at0 fs) (at1 fs) (at0 gs) (at1 gs) (blank_at fs gs 0 e) (blank_at fs gs 1 e)
op_blank (output_requirement ks d f) fs gs e = blank_at fs gs 0 e
op_blank (partial_sort p ks n f) fs gs e = blank_at fs gs 0 e
op_blank (aggregate ks n) fs gs e = ap (λ (B : Facts). blank (placed (proj_facts B (columns_of ks)) n)) (blank_at fs gs 0 e)

-- Kinds 5 to 10 have their child's
pub ease_blank : (o : Op) (fs : List Facts) → easing o ≡ true → blank (facts_op o fs) ≡ blank (at0 fs)
ease_blank (source s) fs e = no_bool e
ease_blank filter fs e = refl
ease_blank (projection cols) fs e = no_bool e
ease_blank union fs e = no_bool e
ease_blank (repartition p n h ks) fs e = refl
ease_blank (coalesce f) fs e = refl
ease_blank (sort_op p ks f) fs e = refl
ease_blank (merge_op ks f) fs e = refl
ease_blank (global_limit s f note) fs e = refl
ease_blank (local_limit f note) fs e = refl
ease_blank (sort_merge_join t on) fs e = no_bool e
ease_blank (hash_join t on) fs e = no_bool e
ease_blank (output_requirement ks d f) fs e = refl
ease_blank (partial_sort p ks n f) fs e = refl
ease_blank (aggregate ks n) fs e = no_bool e
