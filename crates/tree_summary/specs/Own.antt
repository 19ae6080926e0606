-- What a record says of its node alone: its fetch, whether it is a source without end, whether it is a limit or a projection; and the summary that the
-- code makes of it.
use Rattle.std.specs.Prelude.{◌≡◌, refl, Bool, cond, ◌&&◌, ◌||◌, not, List, ℕ, ◌+◌, eqb, ltb, get_or}
use Rattle.std.proofs.Common.{sym, ap, ◌∙◌}
use Rattle.row_order.specs.Packed.{bit}
use Rattle.scan.specs.Bytes.{le32}
use Rattle.plan.specs.Numbers.{kind_number, kind_of, no_fetch}
use Rattle.plan.specs.declared.Kind.{Kind}
use Rattle.plan.specs.declared.Kind.TheVariants.{Source, Filter, Projection, Union, Repartition, Coalesce, Sort, Merge, GlobalLimit, LocalLimit, SortMergeJoin, HashJoin, OutputRequirement, PartialSort, Aggregate}
use Rattle.plan_codec.specs.NodeRecord.{NodeRecord}
use Rattle.plan_codec.specs.Decode.{from_bytes, operator_of, decode, fetch_of}
use Rattle.plan_codec.specs.Encode.{encode}
use Rattle.plan_codec.proofs.FromRecord.{operator_kind}
use Rattle.semantics.specs.Properties.{cuts, source_endless, is_limit}
use Rattle.record_fields.specs.Encoded.{code_byte}
use Rattle.tree_summary.specs.declared.Summary.{Summary}

kind_same : (r : List ℕ) (n : ℕ) → r ≡ encode n (decode r) → get_or r 0 0 ≡ kind_number (kind_of (get_or r 0 0))
unfolding decode
kind_same r n e = code_byte r n e ∙ ap kind_number (operator_kind (kind_of (get_or r 0 0)) (from_bytes r))

-- ---- the fetch, no_fetch for none

abbrev has_fetch : ℕ → Bool
has_fetch k = (ltb 5 k && ltb k 11) || (ltb 12 k && ltb k 15)

abbrev pub fetch_in : List ℕ → ℕ
fetch_in r = cond ((ltb 5 (get_or r 0 0) && ltb (get_or r 0 0) 11) || (ltb 12 (get_or r 0 0) && ltb (get_or r 0 0) 15)) (le32 r 4) no_fetch

fetch_by : (k : Kind) (x : NodeRecord) (n : ℕ) → x.fetch ≡ fetch_of n → fetch_of (cond (has_fetch (kind_number k)) n no_fetch) ≡ (cuts (operator_of k x)).fetch
fetch_by Source x n e = refl
fetch_by Filter x n e = refl
fetch_by Projection x n e = refl
fetch_by Union x n e = refl
fetch_by Repartition x n e = refl
fetch_by Coalesce x n e = sym e
fetch_by Sort x n e = sym e
fetch_by Merge x n e = sym e
fetch_by GlobalLimit x n e = sym e
fetch_by LocalLimit x n e = sym e
fetch_by SortMergeJoin x n e = refl
fetch_by HashJoin x n e = refl
fetch_by OutputRequirement x n e = sym e
fetch_by PartialSort x n e = sym e
fetch_by Aggregate x n e = refl

pub fetch_is : (r : List ℕ) (n : ℕ) → r ≡ encode n (decode r) → fetch_of (fetch_in r) ≡ (cuts (decode r)).fetch
unfolding decode
fetch_is r n e = ap (λ k. fetch_of (cond (has_fetch k) (le32 r 4) no_fetch)) (kind_same r n e) ∙ fetch_by (kind_of (get_or r 0 0)) (from_bytes r)
    (le32 r 4) refl

-- ---- boundedness

abbrev pub endless_in : List ℕ → Bool
endless_in r = eqb (get_or r 0 0) 1 && bit (get_or r 3 0) 2

endless_by : (k : Kind) (x : NodeRecord) → eqb (kind_number k) 1 && x.unbounded ≡ source_endless (operator_of k x)
endless_by Source x = refl
endless_by Filter x = refl
endless_by Projection x = refl
endless_by Union x = refl
endless_by Repartition x = refl
endless_by Coalesce x = refl
endless_by Sort x = refl
endless_by Merge x = refl
endless_by GlobalLimit x = refl
endless_by LocalLimit x = refl
endless_by SortMergeJoin x = refl
endless_by HashJoin x = refl
endless_by OutputRequirement x = refl
endless_by PartialSort x = refl
endless_by Aggregate x = refl

pub endless_is : (r : List ℕ) (n : ℕ) → r ≡ encode n (decode r) → endless_in r ≡ source_endless (decode r)
unfolding decode
endless_is r n e = ap (λ k. eqb k 1 && bit (get_or r 3 0) 2) (kind_same r n e) ∙ endless_by (kind_of (get_or r 0 0)) (from_bytes r)

pub limit_is : (r : List ℕ) (n : ℕ) → r ≡ encode n (decode r) → (eqb (get_or r 0 0) 9 || eqb (get_or r 0 0) 10) ≡ is_limit (decode r)
limit_is r n e = ap (λ k. eqb k 9 || eqb k 10) (code_byte r n e)

-- ---- the summary of its tree, over children with the summary s; w: its wanted orders are met

abbrev pub own : List ℕ → Bool → Summary → Summary
own r w s =
    record {
      passes = w && s.passes;
      endless = not (eqb (get_or r 0 0) 9 || eqb (get_or r 0 0) 10) && (endless_in r || s.endless);
      nodes = s.nodes + 1;
      fetch = cond (eqb (get_or r 0 0) 3) s.fetch (fetch_in r);
    }
