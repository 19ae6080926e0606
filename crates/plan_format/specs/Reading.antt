-- What is refused of a file, in document 01's order: '1; 2 over all blocks; 3 over all; then 4, 5, and 6's single-record rules, each over all records;
-- then from the last node to the first: unequal union, 7, 8'. These are definitions.
use Rattle.std.specs.Prelude.{Bool, true, cond, ◌&&◌, List, [], ◌∷◌, ℕ, ◌+◌, ◌-◌, leb, eqb, length, Err}
use Rattle.scan.specs.Bytes.{all_below}
use Rattle.plan.specs.Numbers.{Verdict, Accepted}
use Rattle.plan.specs.declared.Refusal.TheVariants.{Length, BlockSum, Header, KindOrChildren, RecordCount, Field}
use Rattle.plan_format.specs.Record.{children, kind_ok, record_ok}
use Rattle.plan_format.specs.Blocks.{length_ok, block_count, block, sum_ok, header_ok, record_count, record_at, span, records}
use Rattle.plan_format.specs.LastPass.{and_then, last_pass}

-- 2, over all blocks
unfoldable pub sums_ok : List ℕ → Bool
sums_ok s = all_below (λ k. sum_ok (block s k)) (block_count s)

-- 3, over all blocks
unfoldable pub headers_ok : List ℕ → Bool
headers_ok s = all_below (λ k. header_ok (block_count s) k (block s k)) (block_count s)

-- 4, over all records
unfoldable pub kinds_ok : List ℕ → Bool
kinds_ok s = all_below (λ i. kind_ok (record_at s i)) (record_count s)

-- 5: 'records missing or left over'. From the last record to the first, each finds as many finished trees as it has children; at the end there is one
abbrev pub finished : List ℕ → ℕ
finished [] = 0
finished (k ∷ l) = finished l - k + 1

abbrev pub enough : List ℕ → Bool
enough [] = true
enough (k ∷ l) = leb k (finished l) && enough l

abbrev pub one_tree : List ℕ → Bool
one_tree l = enough l && eqb (finished l) 1

abbrev pub children_at : List ℕ → ℕ → ℕ
children_at s i = children (record_at s i)

unfoldable pub tree_ok : List ℕ → Bool
tree_ok s = one_tree (span (children_at s) 0 (record_count s))

-- 6's single-record rules, over all records
unfoldable pub records_ok : List ℕ → Bool
records_ok s = all_below (λ i. record_ok (record_at s i)) (record_count s)

-- The passes before the last one
unfoldable pub early_refusal : List ℕ → Verdict
early_refusal s =
    cond (length_ok (length s))
    (cond (sums_ok s)
    (cond (headers_ok s)
    (cond (kinds_ok s)
    (cond (tree_ok s)
    (cond (records_ok s) Accepted (Err Field))
    (Err RecordCount))
    (Err KindOrChildren))
    (Err Header))
    (Err BlockSum))
    (Err Length)

-- Refusals 1 to 8, or that the file is accepted
unfoldable pub refusal_of : List ℕ → Verdict
refusal_of s = and_then (early_refusal s) (last_pass (records s))
