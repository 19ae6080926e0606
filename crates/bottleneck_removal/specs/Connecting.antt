-- The mark of a node, from the marks in its children's handles.
use Rattle.std.specs.Prelude.{◌≡◌, Bool, true, false, cond, not, ◌&&◌, ◌||◌, ℕ, suc, ◌+◌, ◌≤◌, ◌<◌, length, get_or, drop}
use Rattle.std.proofs.Math.Path.{refl, sym, ap, ap₂}
use Rattle.std.proofs.Common.{◌∙◌, arith, add-one, drop_of_length-le, drop-cons}
use mathlib.Core.List.{List, [], ◌∷◌}
use Rattle.row_order.proofs.Order.{no_bool}
use Rattle.plan.specs.Op.{Op}
use Rattle.semantics.specs.Properties.{singles}
use Rattle.arena.specs.Arena.{marked}
use Rattle.walks.specs.Marks.{head_mark}
use Rattle.walks.specs.Utils.{is_coalesce_partitions}
use Rattle.walks.specs.ParallelizeSorts.{any_mark_at, bottleneck, update_coalesce_ctx_children}
use Rattle.plan_context.specs.View.{forest}
use Rattle.plan_updates.specs.From.{from, from_first, from_next}

-- Each of the first j children is unmarked, or p does not hold of it
abbrev pub UnmarkedBefore : (ℕ → Bool) → List ℕ → ℕ → Type 0
UnmarkedBefore p ks j = (m : List ℕ) → any_mark_at (from p j) (forest m (drop j ks)) ≡ any_mark_at p (forest m ks)

module _ (p : ℕ → Bool) (ks : List ℕ) where
  pub passed_none : UnmarkedBefore p ks 0
  passed_none m = refl

  module _ (j : ℕ) (q : UnmarkedBefore p ks j) where
    split : j < length ks → (m : List ℕ) → any_mark_at (from p j) (forest m (drop j ks)) ≡ (marked (get_or ks j 0) && p j) || any_mark_at (from p (suc j))
        (forest m (drop (suc j) ks))
    unfolding forest
    split l m =
        ap (λ hs. any_mark_at (from p j) (forest m hs)) (drop-cons ks j 0 l)
        ∙ ap₂ (λ x f. (marked (get_or ks j 0) && x) || any_mark_at f (forest m (drop (suc j) ks))) (from_first p j) (from_next p j)

    pub passed_more : j < length ks → marked (get_or ks j 0) && p j ≡ false → UnmarkedBefore p ks (j + 1)
    passed_more l e m = rw (add-one j) (sym (split l m ∙ ap (λ b. b || any_mark_at (from p (suc j)) (forest m (drop (suc j) ks))) e) ∙ q m)

    pub passed_found : j < length ks → marked (get_or ks j 0) && p j ≡ true → (m : List ℕ) → true ≡ any_mark_at p (forest m ks)
    passed_found l e m = sym (sym (q m) ∙ split l m ∙ ap (λ b. b || any_mark_at (from p (suc j)) (forest m (drop (suc j) ks))) e)

    pub passed_all : length ks ≤ j → (m : List ℕ) → false ≡ any_mark_at p (forest m ks)
    unfolding forest
    passed_all l m = sym (ap (λ hs. any_mark_at (from p j) (forest m hs)) (drop_of_length-le ks {i = j} l)) ∙ q m

-- ---- the node's mark

module _ (o : Op) where
  pub alone_unmarked : (ks m : List ℕ) → length ks ≡ 0 → false ≡ update_coalesce_ctx_children o (forest m ks)
  unfolding forest
  alone_unmarked [] m e = refl
  alone_unmarked (k ∷ ks) m e = absurd (omega arith)

  with_children : (ks m : List ℕ) → (length ks ≡ 0 → ⊥) → update_coalesce_ctx_children o (forest m ks) ≡ cond (is_coalesce_partitions o) (bottleneck o)
      (any_mark_at (λ i. not (singles o i)) (forest m ks))
  unfolding forest
  with_children [] m e = absurd (e refl)
  with_children (k ∷ ks) m e = refl

  pub coalesce_marked : (ks m : List ℕ) → (length ks ≡ 0 → ⊥) → is_coalesce_partitions o ≡ true → bottleneck o ≡ update_coalesce_ctx_children o (forest m ks)
  coalesce_marked ks m n e = sym (with_children ks m n ∙ ap (λ b. cond b (bottleneck o) (any_mark_at (λ i. not (singles o i)) (forest m ks))) e)

  pub other_marked : (ks m : List ℕ) → (length ks ≡ 0 → ⊥) → is_coalesce_partitions o ≡ false → any_mark_at (λ i. not (singles o i)) (forest m ks)
      ≡ update_coalesce_ctx_children o (forest m ks)
  other_marked ks m n e = sym (with_children ks m n ∙ ap (λ b. cond b (bottleneck o) (any_mark_at (λ i. not (singles o i)) (forest m ks))) e)

-- ---- the first child's mark

pub no_first : (ks m : List ℕ) → length ks ≡ 0 → false ≡ head_mark (forest m ks)
unfolding forest
no_first [] m e = refl
no_first (k ∷ ks) m e = absurd (omega arith)

pub first_mark : (ks m : List ℕ) → (length ks ≡ 0 → ⊥) → marked (get_or ks 0 0) ≡ head_mark (forest m ks)
unfolding forest
first_mark [] m e = absurd (e refl)
first_mark (k ∷ ks) m e = refl

pub some_first : (ks m : List ℕ) → head_mark (forest m ks) ≡ true → 0 < length ks
unfolding forest
some_first [] m e = no_bool e
some_first (k ∷ ks) m e = omega arith
