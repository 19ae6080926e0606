-- The ways through a step, and the count of new nodes. Assumes nothing.
use Rattle.std.specs.Prelude.{◌≡◌, refl, Bool, true, false, cond, not, ◌&&◌, List, [], ◌∷◌, ℕ, ◌+◌, ◌≤◌, eqb, length, Option, Some, Ok, Err}
use Rattle.std.proofs.Common.{sym, ap, ap₂, ◌∙◌, arith, length-append}
use Rattle.row_order.specs.Iso.{Key}
use Rattle.row_order.proofs.Order.{no_bool}
use Rattle.plan.specs.Op.{Op, source, filter, projection, union, repartition, coalesce, sort_op, merge_op, global_limit, local_limit, sort_merge_join, hash_join, output_requirement, partial_sort, aggregate}
use Rattle.plan.specs.Numbers.{code}
use Rattle.plan.specs.declared.Refusal.TheVariants.{TooManyNodes, ConstantSort}
use Rattle.semantics.specs.Facts.{is_nil}
use Rattle.key_lists.specs.declared.Keys.{Keys}
use Rattle.key_lists.specs.Keys.{order_of, Real}
use Rattle.walks.specs.Utils.{new_merge, new_sort, is_sort}
use Rattle.walks.specs.Counted.{one, too_many}
use Rattle.sort_pushdown.specs.declared.NewNodes.{NewNodes}
use Rattle.sort_pushdown.specs.Decisions.{tops_of}
use Rattle.push_steps.specs.Steps.{some, step_by}
use Rattle.sort_pushdown.specs.Deciding.{requirement_some}

pub one-some : (o : Option Keys) (k : Keys) → Real o → o ≡ Some k → 1 ≡ some (order_of o)
one-some o k h e = go (order_of o) (requirement_some o k h e)
  where
    go : (ks : List Key) → is_nil ks ≡ false → 1 ≡ some ks
    go [] f = no_bool (sym f)
    go (x ∷ ks) f = refl

merge_count : (ks : List Key) (f : Option ℕ) → length (new_merge ks f) ≡ some ks
merge_count [] f = refl
merge_count (k ∷ ks) f = refl

sort_count : (p : Bool) (ks : List Key) (f : Option ℕ) → length (new_sort p ks f) ≡ some ks
sort_count p [] f = refl
sort_count p (k ∷ ks) f = refl

pub some_le : (ks : List Key) → some ks ≤ 1
some_le [] = omega arith
some_le (k ∷ ks) = omega arith

pub count_is : (t : NewNodes) (a b : ℕ) → a ≡ some (order_of t.merge) → b ≡ some (order_of t.sort) → a + b ≡ length (tops_of t)
count_is t a b x y =
    ap₂ ◌+◌ (x ∙ sym (merge_count (order_of t.merge) t.mfetch)) (y ∙ sym (sort_count t.preserve (order_of t.sort) t.sfetch))
    ∙ sym (length-append (new_merge (order_of t.merge) t.mfetch) (new_sort t.preserve (order_of t.sort) t.sfetch))

pub sort_code : (o : Op) → eqb (code o) 7 ≡ is_sort o
sort_code (source s) = refl
sort_code filter = refl
sort_code (projection cols) = refl
sort_code union = refl
sort_code (repartition p n h ks) = refl
sort_code (coalesce f) = refl
sort_code (sort_op p ks f) = refl
sort_code (merge_op ks f) = refl
sort_code (global_limit s f note) = refl
sort_code (local_limit f note) = refl
sort_code (sort_merge_join t on) = refl
sort_code (hash_join t on) = refl
sort_code (output_requirement ks d f) = refl
sort_code (partial_sort p ks n f) = refl
sort_code (aggregate ks n) = refl

-- the ways through a step
module _ (a q p : Bool) (n : ℕ) where
  pub step_so : a ≡ true → Err ConstantSort ≡ step_by a q p n
  step_so e = sym (ap (λ x. step_by x q p n) e)

  pub step_over : a ≡ false → not q && too_many (n + one p) ≡ true → Err TooManyNodes ≡ step_by a q p n
  step_over e d = sym (ap (λ x. step_by x q p n) e ∙ ap (λ x. cond x (Err TooManyNodes) (Ok n)) d)

  pub step_goes : a ≡ false → not q && too_many (n + one p) ≡ false → Ok n ≡ step_by a q p n
  step_goes e d = sym (ap (λ x. step_by x q p n) e ∙ ap (λ x. cond x (Err TooManyNodes) (Ok n)) d)

pub not-not : (b : Bool) → not (not b) ≡ b
not-not true = refl
not-not false = refl
