-- From bytes to bytes, of the plans: what each export that rewrites writes, where it answers 0 (RewrittenFiles), passes the order check, feeds in order and
-- delivers the rows, as the plans do. Said over the definitions that the contracts of the exports cite: `rewrites`, `refusal_in`, `output_in` (call_answers).
-- Definitions further: Rewriting (RewrittenFiles); AllBytes (scan); answer (Walks); partially_sorted (walks); AllFed (OrderKept); clear (walks);
-- SameInputs, Run (semantics); delivered, times (RowsKept).
use Rattle.std.specs.Prelude.{◌≡◌, true, List, ℕ}
use Rattle.row_order.specs.Iso.{Row}
use Rattle.plan.specs.Forest.{Forest, tree}
use Rattle.plan.specs.Numbers.{number_of}
use Rattle.plan.specs.WellFormed.{every}
use Rattle.scan.specs.Bytes.{AllBytes}
use Rattle.plan_codec.specs.Reading.{plan}
use Rattle.semantics.specs.Check.{check}
use Rattle.semantics.specs.Runs.{Env, Run, SameInputs, Sources, Streams}
use Rattle.walks.specs.EnsureSorting.{ensure_sorting}
use Rattle.walks.specs.Counted.{partially_sorted}
use Rattle.walks.specs.Terms.{clear}
use Rattle.walks.proofs.Theorems.PartialSort.Kept.{partial_sources}
use Rattle.call_answers.specs.Answers.{output_in, refusal_in, rewrites}
use Rattle.demands.specs.OrderKept.{AllFed}
use Rattle.demands.proofs.OrderKept.{order_kept}
use Rattle.demands.specs.Walks.{answer, ensuring, Walk}
use Rattle.demands.proofs.ChecksKept.{partial_sort_passes}
use Rattle.demands.specs.RowsKept.{delivered, times}
use Rattle.demands.proofs.RowsKept.{rows_kept}
use Rattle.demands.proofs.EnsurePasses.{ensure_passes}
use Rattle.demands.proofs.RewrittenFiles.{rewriting, partial_rewriting}
use Rattle.demands.proofs.AfterEnsuring.{ensure_feeds}

-- ---- the walk w's export, by its contract: the file, its answer, the output before and after

module _ (w : Walk) (s out : List ℕ) (bytes : AllBytes s) (n : ℕ) (out' : List ℕ) (first : n ≡ number_of (refusal_in (rewrites (answer w) s) out))
    (second : out' ≡ output_in (rewrites (answer w) s) out) where
  -- Where the given tree has no join, aggregate, limit or fetch, every run of the plan read from the output delivers the rows of every run of the plan given
  pub rewritten_rows : (z : n ≡ 0) → let r = rewriting w s out bytes n out' first second z in clear r.given ≡ true → (E E' : Env) → SameInputs E E' r.given → (a b : Forest Streams)
      → Run E 0 0 r.given a → Run E' 0 0 r.made b
      → (x : Row) → times x (delivered a) ≡ times x (delivered b)
  rewritten_rows z c E E' d a b x y t = let r = rewriting w s out bytes n out' first second z in rows_kept w r.given r.made r.formed c r.answers E E' d a b x y t

-- What `ensure_sorting` writes passes the order check, and no run of it, over source rows that keep what the given plan declares, feeds an operator out of
-- order
module _ (s out : List ℕ) (bytes : AllBytes s) (n : ℕ) (out' : List ℕ) (first : n ≡ number_of (refusal_in (rewrites (answer ensuring) s) out))
    (second : out' ≡ output_in (rewrites (answer ensuring) s) out) where
  pub ensured_passes : (z : n ≡ 0) → check (rewriting ensuring s out bytes n out' first second z).made ≡ true
  ensured_passes z = let r = rewriting ensuring s out bytes n out' first second z in ensure_passes r.given r.made r.formed r.answers

  pub ensured_feeds : (z : n ≡ 0) → let r = rewriting ensuring s out bytes n out' first second z in
      (E : Env) → Sources E 0 r.given → (a : Forest Streams) → Run E 0 0 r.made a → AllFed r.made a
  ensured_feeds z E d a x = let r = rewriting ensuring s out bytes n out' first second z in
      ensure_feeds r.given r.made r.formed r.answers E d a x

-- ---- partial sorting of node number k: `replace_with_partial_sort`, by its contract

module _ (k : ℕ) (s out : List ℕ) (bytes : AllBytes s) (n : ℕ) (out' : List ℕ) (first : n ≡ number_of (refusal_in (rewrites (partially_sorted k) s) out))
    (second : out' ≡ output_in (rewrites (partially_sorted k) s) out) where
  -- Where the given plan passes the order check, what is written passes it too, and no run of it, over source rows that keep what the given plan declares,
  -- feeds an operator out of order
  pub partially_passes : (z : n ≡ 0) → let r = partial_rewriting k s out bytes n out' first second z in check r.given ≡ true → check r.made ≡ true
  partially_passes z e = let r = partial_rewriting k s out bytes n out' first second z in partial_sort_passes k r.given r.made e r.answers

  pub partially_feeds : (z : n ≡ 0) → let r = partial_rewriting k s out bytes n out' first second z in check r.given ≡ true
      → (E : Env) → Sources E 0 r.given → (a : Forest Streams) → Run E 0 0 r.made a → AllFed r.made a
  partially_feeds z e E d a x = let r = partial_rewriting k s out bytes n out' first second z in
      order_kept r.made (partially_passes z e) E (partial_sources k r.given r.made r.answers E d) a x
