-- After ensuring, in every run every node's facts hold of its streams and every wanted order is there: declared facts are the sources', which the walk
-- keeps.
use Rattle.std.specs.Prelude.{◌≡◌, refl, Bool, true, false, cond, ℕ}
use Rattle.std.proofs.Common.{sym, ap, ◌∙◌, subst}
use Rattle.row_order.proofs.Order.{no_bool}
use Rattle.plan.specs.Forest.{Forest, none, tree}
use Rattle.plan.specs.Op.{coalesce, filter, global_limit, hash_join, local_limit, merge_op, Op, output_requirement, partial_sort, aggregate, Plan, projection, repartition, sort_merge_join, sort_op, source, union}
use Rattle.semantics.specs.Runs.{Env, next_s, past, Run, SourceOK, Sources, Streams}
use Rattle.semantics.specs.Holds.{Good}
use Rattle.semantics.proofs.Theorems.Sound.Sound.{sound}
use Rattle.walks.specs.EnsureSorting.{ensure}
use Rattle.walks.specs.Terms.{◌⊕◌, easing, prune}
use Rattle.walks.proofs.Theorems.Common.Skeleton.{eased}
use Rattle.walks.specs.Trees.{Fit}
use Rattle.walks.proofs.Theorems.Common.Rows.{ease_next_s, ensure_plan, SamePlan, skeleton_past}
use Rattle.walks.proofs.Theorems.Ensure.Passes.{ensure_passes}

ease_source : (E : Env) (i : ℕ) (o : Op) → easing o ≡ true → SourceOK E i o
ease_source E i (source s) e = no_bool e
ease_source E i filter e = tt
ease_source E i (projection cols) e = tt
ease_source E i union e = tt
ease_source E i (repartition p n hash part) e = tt
ease_source E i (coalesce f) e = tt
ease_source E i (sort_op p ks f) e = tt
ease_source E i (merge_op ks f) e = tt
ease_source E i (global_limit s f note) e = tt
ease_source E i (local_limit f note) e = tt
ease_source E i (sort_merge_join t on) e = tt
ease_source E i (hash_join t on) e = tt
ease_source E i (output_requirement ks dist most) e = tt
ease_source E i (partial_sort p ks n f) e = tt
ease_source E i (aggregate ks n) e = tt

sources_join : (E : Env) (i : ℕ) (a b : Plan) → Sources E i a → Sources E (past next_s a i) b → Sources E i (a ⊕ b)
sources_join E i none b h k = k
sources_join E i (tree o c r) b h k = (h.0, h.1, sources_join E (past next_s c (next_s o i)) r b h.2 k)

sources_part : (E : Env) (i : ℕ) (a b : Plan) → Sources E i (a ⊕ b) → Sources E i a × Sources E (past next_s a i) b
sources_part E i none b h = (tt, h)
sources_part E i (tree o c r) b h = let p = sources_part E (past next_s c (next_s o i)) r b h.2 in ((h.0, h.1, p.0), p.1)

pub sources_bones : (E : Env) (i : ℕ) (f : Plan) → Sources E i f → Sources E i (prune easing f)
sources_bones E i none h = tt
sources_bones E i (tree o c r) h = go (easing o) refl (sources_bones E (next_s o i) c h.1) (sources_bones E (past next_s c (next_s o i)) r h.2)
  where
    go : (b : Bool) → easing o ≡ b → Sources E (next_s o i) (prune easing c) → Sources E (past next_s c (next_s o i)) (prune easing r)
        → Sources E i (cond b (prune easing c) (tree o (prune easing c) none) ⊕ prune easing r)
    go true e p q =
        sources_join E i (prune easing c) (prune easing r) (subst (λ (k : ℕ). Sources E k (prune easing c)) (ease_next_s o i e) p)
        (subst (λ (k : ℕ). Sources E k (prune easing r)) (ap (past next_s c) (ease_next_s o i e) ∙ sym (skeleton_past next_s ease_next_s c i)) q)
    go false e p q = (h.0, p, subst (λ (k : ℕ). Sources E k (prune easing r)) (sym (skeleton_past next_s ease_next_s c (next_s o i))) q)

pub sources_back : (E : Env) (i : ℕ) (f : Plan) → Sources E i (prune easing f) → Sources E i f
sources_back E i none h = tt
sources_back E i (tree o c r) h₀ = go (easing o) refl (λ k p. sources_back E k c p) (λ k p. sources_back E k r p) h₀
  where
    go : (b : Bool) → easing o ≡ b → ((k : ℕ) → Sources E k (prune easing c) → Sources E k c) → ((k : ℕ) → Sources E k (prune easing r) → Sources E k r) →
        Sources E i (cond b (prune easing c) (tree o (prune easing c) none) ⊕ prune easing r) → Sources E i (tree o c r)
    go true e p q h =
        let s = sources_part E i (prune easing c) (prune easing r) h in
        let n : i ≡ next_s o i = sym (ease_next_s o i e) in (
          ease_source E i o e,
          subst (λ (k : ℕ). Sources E k c) n (p i s.0),
          q (past next_s c (next_s o i))
              (subst (λ (k : ℕ). Sources E k (prune easing r)) (skeleton_past next_s ease_next_s c i ∙ ap (past next_s c) n) s.1),
        )
    go false e p q h = (
      h.0,
      p (next_s o i) h.1,
      q (past next_s c (next_s o i))
          (subst (λ (k : ℕ). Sources E k (prune easing r)) (skeleton_past next_s ease_next_s c (next_s o i)) h.2),
    )

-- A rewrite that keeps the skeleton keeps what the sources declare
pub sources_kept : {a : Bool} (E : Env) (f g : Plan) → SamePlan a f g → Sources E 0 f → Sources E 0 g
sources_kept E f g s h = sources_back E 0 g (subst (Sources E 0) (sym (eased f g s.bones)) (sources_bones E 0 f h))

pub ensure-sound : {E : Env} (f : Plan) {out : Forest Streams} → Fit f → Sources E 0 f → Run E 0 0 (ensure f) out → Good (ensure f) out
ensure-sound {E} f h d r = sound r (sources_kept E f (ensure f) (ensure_plan f h) d) (ensure_passes f h)
