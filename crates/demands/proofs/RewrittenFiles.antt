-- From bytes to bytes: what each of the five exports that rewrite writes, where it answers 0, is a plan file of a plan that the rewrite answers. Said
-- over the definitions that the contracts of the exports cite: `rewrites`, `refusal_in`, `output_in` (call_answers).
-- Definitions further: reading (plan_codec); well_formed (plan); AllBytes (scan); answer (Walks); partially_sorted (walks); AllFed (OrderKept);
-- clear (walks); SameInputs, Run (semantics); delivered, times (RowsKept).
use Rattle.std.specs.Prelude.{◌≡◌, Bool, true, false, cond, List, ◌++◌, ℕ, length, take, drop, Ok, Err}
use Rattle.std.proofs.Math.Path.{refl}
use Rattle.std.proofs.Common.{sym, ap, ◌∙◌, subst, arith}
use Rattle.std.proofs.lemmas.List.{take-append-le}
use Rattle.std.proofs.Math.Seq.{take-length}
use Rattle.plan.specs.Forest.{none, tree}
use Rattle.plan.specs.Op.{Plan}
use Rattle.plan.specs.Numbers.{Verdict, Accepted, refusal_number, number_of}
use Rattle.plan.specs.WellFormed.{every, well_formed}
use Rattle.plan.specs.declared.Refusal.TheVariants.{ConstantSort, HasPartialSort, OutputTooShort, TooManyNodes}
use Rattle.plan_format.specs.Passed.{refused_some}
use Rattle.plan_format.specs.Reading.{refusal_of}
use Rattle.scan.specs.Bytes.{AllBytes}
use Rattle.plan_codec.specs.Reading as codec
use Rattle.plan_codec.specs.Reading.{plan_of, unless_refused, reading}
use Rattle.plan_codec.specs.Writing.{file_of_plan}
use Rattle.plan_codec.proofs.RoundTrip.{read_well_formed, read_written}
use Rattle.walks.specs.Marks.{strip, transform_up, Tree}
use Rattle.walks.specs.EnsureSorting.{ensure_sorting}
use Rattle.walks.specs.ParallelizeSorts.{parallelize_sorts}
use Rattle.walks.specs.OrderPreserving.{replace_with_order_preserving_variants}
use Rattle.walks.specs.PushdownSorts.{at_root, push}
use Rattle.walks.specs.PartialSort.{from_node}
use Rattle.walks.specs.Counted.{Answer, answered, has_partial_sort, partial_at, partially_sorted, refused}
use Rattle.walks.specs.Terms.{answer_down, answer_up, has_constant_sort, sizes_down, sizes_up, small}
use Rattle.walks.proofs.Theorems.Calls.Answers.{ensured_is, parallelized_is, preserved_is, pushed_is, well_fit}
use Rattle.walks.proofs.Theorems.PartialSort.Kept.{partial_well}
use Rattle.call_answers.specs.Answers.{after_reading, output_in, refusal_in, rewrites, rewritten, too_short}
use Rattle.demands.specs.Walks.{answer, ensuring, parallelizing, preserving, pushing, Walk}
use Rattle.demands.proofs.PlanKept.{well_formed_again}
use Rattle.demands.specs.RewrittenFiles.{Rewriting}

-- ---- no walk refuses with the number 0

abbrev Numbered : Answer → Type 0
Numbered (refused x) = refusal_number x ≡ 0 → ⊥
Numbered (answered f) = Unit {0}

up_numbered : (a b : Bool) (g : Plan) → Numbered (cond a (refused HasPartialSort) (cond b (answered g) (refused TooManyNodes)))
up_numbered true b g = λ e. omega arith
up_numbered false true g = tt
up_numbered false false g = λ e. omega arith

down_numbered : (a b d : Bool) (g : Plan)
    → Numbered (cond a (refused HasPartialSort) (cond b (cond d (refused ConstantSort) (answered g)) (refused TooManyNodes)))
down_numbered true b d g = λ e. omega arith
down_numbered false true true g = λ e. omega arith
down_numbered false true false g = tt
down_numbered false false d g = λ e. omega arith

up_of : (step : Tree → Tree) (f : Plan) → Numbered (answer_up step f)
up_of step f = up_numbered (has_partial_sort f) (every small (sizes_up step 0 f)) (strip (transform_up step f))

down_of : (f : Plan) → Numbered (answer_down f)
down_of f = down_numbered (has_partial_sort f) (every small (sizes_down 0 (λ i. at_root) f)) (has_constant_sort f) (push f)

answer_numbered : (w : Walk) (f : Plan) → well_formed f ≡ true → Numbered (answer w f)
answer_numbered ensuring f e = subst Numbered (sym (ensured_is f)) (up_of ensure_sorting f)
answer_numbered parallelizing f e = subst Numbered (sym (parallelized_is f)) (up_of parallelize_sorts f)
answer_numbered (preserving s) f e = subst Numbered (sym (preserved_is s f)) (up_of (replace_with_order_preserving_variants s) f)
answer_numbered pushing f e = subst Numbered (sym (pushed_is f (well_fit f e))) (down_of f)

-- nor does partial sorting
partial_numbered : (n : ℕ) (f h : Plan) → Numbered (partial_at n f h)
partial_numbered n f none = λ e. omega arith
partial_numbered n f (tree o c r) = tt

-- ---- where an export answers 0: the plan that it was given, the plan that the rewrite g answers, and how long its file is

-- Of a rewrite that refuses with no 0 and answers well-formed plans
module _ (g : Plan → Answer) (numbered : (f : Plan) → well_formed f ≡ true → Numbered (g f))
    (well : (f h : Plan) → well_formed f ≡ true → g f ≡ answered h → well_formed h ≡ true) (s out : List ℕ) (bytes : AllBytes s) (n : ℕ) (out' : List ℕ)
    (z : n ≡ 0) where
  -- by what was read
  read_as : (v : Verdict) → reading s ≡ unless_refused v (plan_of s)
      → n ≡ number_of (refusal_in (rewrites g s) out) → out' ≡ output_in (rewrites g s) out → Rewriting g s out'
  read_as (Err x) r first second =
      absurd (refused_some x (sym (ap (λ x. number_of (refusal_in (after_reading (λ f. rewritten (g f)) x) out)) r) ∙ sym first ∙ z))
  read_as (Ok v) r first second =
      walked (g (plan_of s)) refl
      (first ∙ ap (λ x. number_of (refusal_in (after_reading (λ f. rewritten (g f)) x) out)) r)
      (second ∙ ap (λ x. output_in (after_reading (λ f. rewritten (g f)) x) out) r)
    where
      fine : well_formed (plan_of s) ≡ true
      fine = read_well_formed s (plan_of s) bytes r

      -- by the room in the output
      short : (h : Plan) → g (plan_of s) ≡ answered h → (b : Bool) → n ≡ number_of (cond b (Err OutputTooShort) Accepted)
          → out' ≡ cond b out (file_of_plan h ++ drop (length (file_of_plan h)) out) → Rewriting g s out'
      short h e true first second = absurd (let y : 0 ≡ 24 = sym z ∙ first in omega arith)
      short h e false first second =
          record {
            given = plan_of s;
            made = h;
            long = length (file_of_plan h);
            read = r;
            formed = fine;
            answers = e;
            again = ap (λ x. reading (take (length (file_of_plan h)) x)) second
                ∙ ap reading (take-append-le (length (file_of_plan h)) (file_of_plan h) (drop (length (file_of_plan h)) out) (omega arith)
                ∙ take-length (file_of_plan h)) ∙ read_written h (well (plan_of s) h fine e);
          }

      -- by the rewrite's answer
      walked : (a : Answer) → g (plan_of s) ≡ a → n ≡ number_of (refusal_in (rewritten a) out) → out' ≡ output_in (rewritten a) out → Rewriting g s out'
      walked (refused x) e first second = absurd ((subst Numbered e (numbered (plan_of s) fine)) (sym first ∙ z))
      walked (answered h) e first second = short h e (too_short h out) first second

-- ---- the walk w's export, by its contract: the file, its answer, the output before and after

module _ (w : Walk) (s out : List ℕ) (bytes : AllBytes s) (n : ℕ) (out' : List ℕ) (first : n ≡ number_of (refusal_in (rewrites (answer w) s) out))
    (second : out' ≡ output_in (rewrites (answer w) s) out) where
  pub rewriting : n ≡ 0 → Rewriting (answer w) s out'
  unfolding reading
  rewriting z = read_as (answer w) (answer_numbered w) (well_formed_again w) s out bytes n out' z (refusal_of s) refl first second

-- ---- partial sorting of node number k: `replace_with_partial_sort`, by its contract

module _ (k : ℕ) (s out : List ℕ) (bytes : AllBytes s) (n : ℕ) (out' : List ℕ) (first : n ≡ number_of (refusal_in (rewrites (partially_sorted k) s) out))
    (second : out' ≡ output_in (rewrites (partially_sorted k) s) out) where
  pub partial_rewriting : n ≡ 0 → Rewriting (partially_sorted k) s out'
  unfolding reading
  partial_rewriting z =
      read_as (partially_sorted k) (λ f e. partial_numbered k f (from_node k f)) (partial_well k) s out bytes n out' z (refusal_of s) refl
      first second
