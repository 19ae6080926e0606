-- What an accepted file has passed. The tests stand in Reading; here is what follows from them. Assumes nothing.
use Rattle.std.specs.Prelude.{◌≡◌, refl, Bool, true, cond, ◌&&◌, not, List, ℕ, ◌+◌, ◌*◌, ◌-◌, ◌/◌, ◌%◌, ◌≤◌, leb, length, get_or, Ok, Err}
use Rattle.std.proofs.Common.{sym, ◌∙◌, arith}
use Rattle.std.proofs.Math.Path.{ap}
use Rattle.std.proofs.Math.Bool.{false}
use Rattle.std.proofs.Math.Dec.{eqb}
use borrow.Author.Tests.{leb-true, eqb-true, not-false}
use Rattle.scan.specs.Below.{all_at, and_left, and_right, or_false}
use Rattle.scan.specs.Bytes.{le16}
use Rattle.plan.specs.Numbers.{Verdict, Accepted, refusal_number, number_of}
use Rattle.plan.specs.declared.Refusal.{Refusal}
use Rattle.plan.specs.declared.Refusal.TheVariants.{Length, BlockSum, Header, KindOrChildren, RecordCount, Field, Column, Width}
use Rattle.plan.specs.declared.Refusal.TheVariants.{NoSuchNode, HasPartialSort, TooManyNodes, OutputTooShort, ConstantSort}
use Rattle.plan_format.specs.Blocks.{length_ok, records, block, block_count, record_count, count_ok, padding_ok, header_ok}
use Rattle.plan_format.specs.LastPass.{and_then, last_pass}
use Rattle.plan_format.specs.Reading.{sums_ok, headers_ok, kinds_ok, tree_ok, records_ok, early_refusal, refusal_of}

pub accepted : (x : Verdict) → number_of x ≡ 0 → x ≡ Accepted
accepted (Ok x) e = refl
accepted (Err Length) e = absurd (omega arith)
accepted (Err BlockSum) e = absurd (omega arith)
accepted (Err Header) e = absurd (omega arith)
accepted (Err KindOrChildren) e = absurd (omega arith)
accepted (Err RecordCount) e = absurd (omega arith)
accepted (Err Field) e = absurd (omega arith)
accepted (Err Column) e = absurd (omega arith)
accepted (Err Width) e = absurd (omega arith)
accepted (Err NoSuchNode) e = absurd (omega arith)
accepted (Err HasPartialSort) e = absurd (omega arith)
accepted (Err TooManyNodes) e = absurd (omega arith)
accepted (Err OutputTooShort) e = absurd (omega arith)
accepted (Err ConstantSort) e = absurd (omega arith)

pub refused_some : (x : Refusal) → refusal_number x ≡ 0 → ⊥
refused_some x z = let e : Err x ≡ Accepted = accepted (Err x) z in let y : ◌≡◌ {A = ℕ} 0 1 = cc in omega arith

pub record Passed (s : List ℕ) : Type 0 where
  pub len : length_ok (length s) ≡ true
  pub sums : sums_ok s ≡ true
  pub heads : headers_ok s ≡ true
  pub kinds : kinds_ok s ≡ true
  pub shape : tree_ok s ≡ true
  pub fields : records_ok s ≡ true

-- the passes before the last one
pub passed-early : (s : List ℕ) → number_of (early_refusal s) ≡ 0 → Passed s
unfolding early_refusal
passed-early s e = go (length_ok (length s)) (sums_ok s) (headers_ok s) (kinds_ok s) (tree_ok s) (records_ok s) refl refl refl refl refl refl e
  where
    go : (a b c d f g : Bool) → length_ok (length s) ≡ a → sums_ok s ≡ b → headers_ok s ≡ c → kinds_ok s ≡ d → tree_ok s ≡ f → records_ok s ≡ g
        → number_of (cond a (cond b (cond c (cond d (cond f (cond g Accepted (Err Field)) (Err RecordCount)) (Err KindOrChildren)) (Err Header)) (Err BlockSum)) (Err Length)) ≡ 0 → Passed s
    go true true true true true true p q r t u v e = record { len = p; sums = q; heads = r; kinds = t; shape = u; fields = v }
    go true true true true true false p q r t u v e = absurd (omega arith)
    go true true true true false g p q r t u v e = absurd (omega arith)
    go true true true false f g p q r t u v e = absurd (omega arith)
    go true true false d f g p q r t u v e = absurd (omega arith)
    go true false c d f g p q r t u v e = absurd (omega arith)
    go false b c d f g p q r t u v e = absurd (omega arith)

module _ (s : List ℕ) (e : refusal_of s ≡ Accepted) where
  early : early_refusal s ≡ Accepted
  unfolding refusal_of
  early = go (early_refusal s) refl e
    where
      go : (x : Verdict) → early_refusal s ≡ x → and_then x (last_pass (records s)) ≡ Accepted → early_refusal s ≡ Accepted
      go (Ok x) q e = q
      go (Err r) q e = q ∙ e

  pub passed : Passed s
  passed = passed-early s (ap number_of early)

  pub passed_last : last_pass (records s) ≡ Accepted
  unfolding refusal_of
  passed_last = rw early at e

-- ---- how many records and blocks there are

-- a block has at most seven records
pub count_small : (t : Bool) (c : ℕ) → count_ok t c ≡ true → c ≤ 7
count_small true c e = leb-true c 7 (and_right (leb 1 c) (leb c 7) (sym (or_false (leb 1 c && leb c 7)) ∙ e))
count_small false c e = omega (arith, eqb-true c 7 e)

-- after the headers, there are at most seven records to a block
pub count_le : (s : List ℕ) → 1 ≤ block_count s → headers_ok s ≡ true → record_count s ≤ 7 * block_count s
unfolding headers_ok
count_le s p h =
    let n : ℕ = block_count s in
    let k : ℕ = n - 1 in
    let b : List ℕ = block s k in
    let e : header_ok n k b ≡ true = all_at (λ k. header_ok n k (block s k)) n h k (omega arith) in
    let l : get_or b 4 0 ≤ 7 = count_small (eqb (k + 1) n) (get_or b 4 0)
    (and_right (eqb (le16 b 0) k && eqb (le16 b 2) n) (count_ok (eqb (k + 1) n) (get_or b 4 0))
    (and_left ((eqb (le16 b 0) k && eqb (le16 b 2) n) && count_ok (eqb (k + 1) n) (get_or b 4 0)) (padding_ok b) e)) in
    omega arith

-- an accepted length is that of 1 to 18 blocks
pub length_facts : (t : Bool) (n : ℕ) → t ≡ length_ok n → not t ≡ false → (1 ≤ n / 512) × (n / 512 ≤ 18)
length_facts t n e h =
    let z : length_ok n ≡ true = sym e ∙ not-false t h in
    let a = leb-true 1 n (and_left (leb 1 n) (leb n 9216) (and_left (leb 1 n && leb n 9216) (eqb (n % 512) 0) z)) in
    let b = leb-true n 9216 (and_right (leb 1 n) (leb n 9216) (and_left (leb 1 n && leb n 9216) (eqb (n % 512) 0) z)) in
    let d = eqb-true (n % 512) 0 (and_right (leb 1 n && leb n 9216) (eqb (n % 512) 0) z) in
    (omega arith, omega arith)

-- an accepted file has at most 18 blocks, and at most seven records to a block
pub few_records : (s : List ℕ) → Passed s → (1 ≤ block_count s) × (block_count s ≤ 18) × (record_count s ≤ 7 * block_count s)
few_records s p = let f = length_facts true (length s) (sym p.len) refl in (f.0, f.1, count_le s f.0 p.heads)
