-- 02, P2, from bytes to bytes: "partial sorting of such a sort answers the tree unchanged". Said over the definitions that the contract of
-- `replace_with_partial_sort` cites: `rewrites`, `refusal_in`, `output_in` (call_answers).
-- Definitions further: reading (plan_codec); AllBytes (scan); partially_sorted, SortedAlready (walks).
use Rattle.std.specs.Prelude.{◌≡◌, List, ◌++◌, ℕ, ◌≤◌, ◌<◌, length, drop}
use Rattle.std.proofs.Common.{sym, ap, ◌∙◌, subst, arith}
use Rattle.plan.specs.Op.{Plan}
use Rattle.plan.specs.Numbers.{number_of}
use Rattle.scan.specs.Bytes.{AllBytes}
use Rattle.plan_codec.specs.Reading.{plan, reading}
use Rattle.plan_codec.specs.Writing.{file_of_plan}
use Rattle.plan_codec.proofs.RoundTrip.{written_read}
use Rattle.walks.specs.Counted.{partially_sorted}
use Rattle.walks.specs.Terms.{SortedAlready}
use Rattle.walks.proofs.Theorems.PartialSort.Earlier.{already_unchanged}
use Rattle.call_answers.specs.Answers.{after_reading, gives, output_in, refusal_in, rewrites, rewritten}
use Rattle.call_answers.proofs.Laws.{fit_accepted, fit_written, refusal_leaves_output, short_refused}

-- The file s of a plan f whose node number k is a sort over an unbounded child that already meets all its keys: what the call answers, and the output
-- before and after
module _ (k : ℕ) (s out : List ℕ) (bytes : AllBytes s) (f : Plan) (read : reading s ≡ plan f) (already : SortedAlready k f) (n : ℕ) (out' : List ℕ)
    (first : n ≡ number_of (refusal_in (rewrites (partially_sorted k) s) out)) (second : out' ≡ output_in (rewrites (partially_sorted k) s) out) where
  comes_back : rewrites (partially_sorted k) s ≡ gives f
  comes_back = ap (after_reading (λ g. rewritten (partially_sorted k g))) read ∙ ap rewritten (already_unchanged k f already)

  same_file : file_of_plan f ≡ s
  same_file = written_read s f bytes read

  -- What is written is the file that was read; bytes past it stay
  pub file_comes_back : length s ≤ length out → (n ≡ 0) × (out' ≡ s ++ drop (length s) out)
  file_comes_back room =
      let fits : length (file_of_plan f) ≤ length out = subst (λ t. length t ≤ length out) (sym same_file) room in (
        first ∙ ap (λ g. number_of (refusal_in g out)) comes_back ∙ ap number_of (fit_accepted f out fits),
        second ∙ ap (λ g. output_in g out) comes_back ∙ fit_written f out fits ∙ ap (λ t. t ++ drop (length t) out) same_file,
      )

  -- An output shorter than it gets 24, where 22 came before
  pub short_gets_24 : length out < length s → (n ≡ 24) × (out' ≡ out)
  short_gets_24 short =
      let less : length out < length (file_of_plan f) = subst (λ t. length out < length t) (sym same_file) short in
      let number : n ≡ 24 = first ∙ ap (λ g. number_of (refusal_in g out)) comes_back ∙ ap number_of (short_refused f out less) in
      (number, second ∙ refusal_leaves_output (rewrites (partially_sorted k) s) out (λ z. omega arith))
