-- A file that holds no plan is refused with a number from 1 to 8, and no two refusals of files have one number.
-- Definitions: Refusal, refusal_number (plan); refusal_of (plan_format); reading (plan_codec).
use Rattle.std.specs.Prelude.{◌≡◌, refl, Bool, true, false, cond, List, [], ◌∷◌, ℕ, zero, suc, ◌-◌, ◌≤◌, leb, length, get_or, take, Ok, Err}
use Rattle.std.proofs.Common.{sym, ap, ◌∙◌, arith}
use Rattle.plan.specs.Numbers.{Verdict, Accepted, refusal_number, number_of}
use Rattle.plan.specs.declared.Refusal.{Refusal}
use Rattle.plan.specs.declared.Refusal.TheVariants.{Length, BlockSum, Header, KindOrChildren, RecordCount, Field, Column, Width}
use Rattle.plan.specs.declared.Refusal.TheVariants.{NoSuchNode, HasPartialSort, TooManyNodes, OutputTooShort, ConstantSort}
use Rattle.plan_format.specs.Record.{children, fields}
use Rattle.plan_format.specs.Blocks.{length_ok, records}
use Rattle.plan_format.specs.Passed.{refused_some}
use Rattle.plan_format.specs.LastPass.{union_ok, column_limit, columns_rule, width_of, and_then, last_pass, node_refusal, widths}
use Rattle.plan_format.specs.Reading.{sums_ok, headers_ok, kinds_ok, tree_ok, records_ok, early_refusal, refusal_of}
use Rattle.plan_codec.specs.Reading.{plan, plan_of, unless_refused, reading, refused}

-- ---- at most 8
record Small (x : Verdict) : Type 0 where
  small : number_of x ≤ 8

either : (b : Bool) {x y : Verdict} → Small x → Small y → Small (cond b x y)
either true h k = h
either false h k = k

is : (x : Verdict) → number_of x ≤ 8 → Small x
is x h = record { small = h }

early_small : (s : List ℕ) → Small (early_refusal s)
unfolding early_refusal
early_small s =
    either (length_ok (length s)) (either (sums_ok s) (either (headers_ok s) (either (kinds_ok s) (either (tree_ok s)
    (either (records_ok s) (is Accepted (omega arith)) (is (Err Field) (omega arith))) (is (Err RecordCount) (omega arith)))
    (is (Err KindOrChildren) (omega arith))) (is (Err Header) (omega arith))) (is (Err BlockSum) (omega arith))) (is (Err Length) (omega arith))

node_small : (r ws : List ℕ) → Small (node_refusal r ws)
unfolding node_refusal
node_small r ws =
    either (union_ok r ws) (either (columns_rule (fields r) r (column_limit (fields r) r ws) (get_or ws 1 0))
    (either (leb (width_of (fields r) r ws) 32) (is Accepted (omega arith)) (is (Err Width) (omega arith))) (is (Err Column) (omega arith))) (is (Err Field) (omega arith))

then_small : (x y : Verdict) → Small x → Small y → Small (and_then x y)
then_small (Ok z) y h k = k
then_small (Err r) y h k = h

last_small : (l : List (List ℕ)) → Small (last_pass l)
last_small [] = record { small = omega arith }
last_small (r ∷ l) = then_small (last_pass l) _ (last_small l) (node_small r (take (children r) (widths l)))

refusal_small : (s : List ℕ) → Small (refusal_of s)
unfolding refusal_of
refusal_small s = then_small (early_refusal s) _ (early_small s) (last_small (records s))

-- ---- a refused file
some : (k : ℕ) → (k ≡ 0 → ⊥) → 1 ≤ k
some zero h = absurd (h refl)
some (suc k) h = omega arith

pub refused_number : (s : List ℕ) (x : Refusal) → reading s ≡ refused x → (1 ≤ refusal_number x) × (refusal_number x ≤ 8)
unfolding reading
refused_number s x e = go (refusal_of s) refl e
  where
    go : (v : Verdict) → refusal_of s ≡ v → unless_refused v (plan_of s) ≡ refused x → (1 ≤ refusal_number x) × (refusal_number x ≤ 8)
    go (Ok v) q e = let z : ◌≡◌ {A = ℕ} 0 1 = cc in absurd (omega arith)
    go (Err r) q e =
        let same : r ≡ x = cc in
        let n : number_of (refusal_of s) ≡ refusal_number x = ap number_of q ∙ ap refusal_number same in
        (some (refusal_number x) (refused_some x), omega (arith, (refusal_small s).small))

-- ---- which refusal it is
first_ones : List Refusal
first_ones = Length ∷ BlockSum ∷ Header ∷ KindOrChildren ∷ RecordCount ∷ Field ∷ Column ∷ Width ∷ []

of_number : (x : Refusal) → refusal_number x ≤ 8 → get_or first_ones (refusal_number x - 1) Length ≡ x
unfolding first_ones
of_number Length h = refl
of_number BlockSum h = refl
of_number Header h = refl
of_number KindOrChildren h = refl
of_number RecordCount h = refl
of_number Field h = refl
of_number Column h = refl
of_number Width h = refl
of_number NoSuchNode h = absurd (omega arith)
of_number HasPartialSort h = absurd (omega arith)
of_number TooManyNodes h = absurd (omega arith)
of_number OutputTooShort h = absurd (omega arith)
of_number ConstantSort h = absurd (omega arith)

pub same_refusal : (x y : Refusal) → refusal_number x ≤ 8 → refusal_number x ≡ refusal_number y → x ≡ y
same_refusal x y h e = sym (of_number x h) ∙ ap (λ (n : ℕ). get_or first_ones (n - 1) Length) e ∙ of_number y (omega arith)
