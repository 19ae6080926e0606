-- A stream in its declared order, row by row. Assumes nothing.
use Rattle.std.specs.Prelude.{◌≡◌, refl, Bool, true, false, cond, not, ◌&&◌, ◌⊎◌, List, ℕ, zero, suc, ◌+◌, ◌*◌, ◌-◌, ◌<◌, ◌≤◌}
use Rattle.std.proofs.Common.{sym, ap, ◌∙◌, inl, inr, arith, add-one}
use Rattle.row_order.specs.Iso.{Row, Key, before}
use Rattle.row_order.specs.RowLists.{le}
use Rattle.row_order.proofs.Order.{le_total, no_bool}
use Rattle.row_order.specs.Lists.{tab}
use Rattle.row_order.specs.Compared.{compared}
use Rattle.row_order.specs.declared.Comparison.{Comparison}
use Rattle.row_order.specs.declared.Comparison.TheVariants.{Before, Peers, After}
use Rattle.scan.specs.Below.{all_none, all_more, all_first, all_fail, all_end}
use Rattle.scan.specs.Bytes.{le32, all_below}
use Rattle.stepping.specs.RowBytes.{row_at, row_place, stream_at}
use Rattle.stepping.specs.Answers.{in_order_from, in_order}

-- The second row comes first
abbrev pub is_after : Comparison → Bool
is_after Before = false
is_after Peers = false
is_after After = true

not_after : (ks : List Key) (x y : Row) → not (is_after (compared ks x y)) ≡ le ks x y
not_after ks x y = go (before ks x y) (before ks y x) (le_total ks x y)
  where
    go : (a b : Bool) → (not b ≡ true) ⊎ (not a ≡ true) → not (is_after (cond a Before (cond b After Peers))) ≡ not b
    go true true (inl e) = no_bool e
    go true true (inr e) = no_bool e
    go true false e = refl
    go false true e = refl
    go false false e = refl

-- ---- rows one after another
from_tab : (ks : List Key) (f : ℕ → Row) (m : ℕ) → in_order_from ks (f 0) (tab m (λ k. f (suc k))) ≡ all_below (λ i. le ks (f i) (f (suc i))) m
from_tab ks f zero = sym (all_none (λ i. le ks (f i) (f (suc i))))
from_tab ks f (suc m) = ap (λ (b : Bool). le ks (f 0) (f 1) && b) (from_tab ks (λ k. f (suc k)) m) ∙ sym (all_first (λ i. le ks (f i) (f (suc i))) m)

-- Row i does not sort after row i + 1
abbrev pub pair_ok : List Key → List ℕ → ℕ → ℕ → ℕ → Bool
pair_ok ks s at w i = le ks (row_at s (row_place at w i) w) (row_at s (row_place at w (suc i)) w)

module _ (ks : List Key) (s : List ℕ) (at w : ℕ) where
  pub stream_pairs : (n m : ℕ) → n ≡ le32 s at → n ≡ suc m → in_order ks (stream_at s at w) ≡ all_below (pair_ok ks s at w) m
  stream_pairs n m e f = ap (λ (k : ℕ). in_order ks (tab k (λ i. row_at s (row_place at w i) w))) (sym e ∙ f) ∙ from_tab ks (λ i. row_at s (row_place at w i) w) m

  pub pairs_none : (n : ℕ) → n ≡ le32 s at → n ≡ 0 → true ≡ in_order ks (stream_at s at w)
  pairs_none n e f = sym (ap (λ (k : ℕ). in_order ks (tab k (λ i. row_at s (row_place at w i) w))) (sym e ∙ f))

  -- the answer of compare_at at rows i and i + 1
  pair_is : (i : ℕ) (r : Comparison) → r ≡ compared ks (row_at s (at + 4 + i * (4 + 8 * w)) w) (row_at s (at + 4 + (i + 1) * (4 + 8 * w)) w) →
      not (is_after r) ≡ pair_ok ks s at w i
  pair_is i r e = ap (λ (c : Comparison). not (is_after c)) e
      ∙ not_after ks (row_at s (at + 4 + i * (4 + 8 * w)) w) (row_at s (at + 4 + (i + 1) * (4 + 8 * w)) w)
      ∙ ap (λ (k : ℕ). le ks (row_at s (row_place at w i) w) (row_at s (row_place at w k) w)) (add-one i)

  pub pair_fails : (n i : ℕ) (r : Comparison) (q : Bool) → n ≡ le32 s at → i + 1 < n →
      r ≡ compared ks (row_at s (at + 4 + i * (4 + 8 * w)) w) (row_at s (at + 4 + (i + 1) * (4 + 8 * w)) w) → q ≡ is_after r → q ≡ true →
      false ≡ in_order ks (stream_at s at w)
  pair_fails n i r q e h f g t =
      all_fail (pair_ok ks s at w) i (n - 1) (omega arith) (sym (pair_is i r f) ∙ ap not (sym g ∙ t))
      ∙ sym (stream_pairs n (n - 1) e (omega arith))

  pub pair_more : (i : ℕ) (r : Comparison) (q : Bool) → all_below (pair_ok ks s at w) i ≡ true →
      r ≡ compared ks (row_at s (at + 4 + i * (4 + 8 * w)) w) (row_at s (at + 4 + (i + 1) * (4 + 8 * w)) w) → q ≡ is_after r → q ≡ false →
      all_below (pair_ok ks s at w) (i + 1) ≡ true
  pair_more i r q h f g t = all_more (pair_ok ks s at w) i h (sym (pair_is i r f) ∙ ap not (sym g ∙ t))

  pub pairs_end : (n i : ℕ) → n ≡ le32 s at → (n ≡ 0) ⊎ (i + 1 ≤ n) → n ≤ i + 1 → all_below (pair_ok ks s at w) i ≡ true → true ≡ in_order ks (stream_at s at w)
  pairs_end n i e (inl z) b h = pairs_none n e z
  pairs_end n i e (inr a) b h = all_end (pair_ok ks s at w) i (n - 1) (omega arith) (omega arith) h ∙ sym (stream_pairs n (n - 1) e (omega arith))

pub none_or_some : (n : ℕ) → (n ≡ 0) ⊎ (0 + 1 ≤ n)
none_or_some zero = inl refl
none_or_some (suc n) = inr (omega arith)
