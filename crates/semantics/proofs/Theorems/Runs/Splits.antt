-- Rows sent to output streams, in parts that are interleaved there, are a split (reading 19): `sends_split`.
use Rattle.std.specs.Prelude.{◌≡◌, refl, Bool, true, List, [], ◌∷◌, ◌++◌, ℕ, zero, suc, ◌+◌, length, get_or}
use Rattle.std.proofs.Common.{sym, ap, ap₂, ◌∙◌, arith}
use Rattle.row_order.specs.Iso.{Row, Key}
use Rattle.row_order.specs.Lists.{sum, concat, All, all_nil, all_cons, Mixes, tab}
use Rattle.row_order.specs.ListLaws.{sum_append, mixes_sum, length-tab}
use Rattle.row_order.specs.RowLists.{Sorted}
use Rattle.semantics.specs.Runs.{Streams, Each, each_nil, each_cons, Split}
use Rattle.semantics.specs.Sending.{sent_to, Sends}
use Rattle.semantics.proofs.Theorems.Common.Streams.{each_length}
use Rattle.semantics.proofs.Theorems.Common.Sums.{sum-concat_append}

-- ---- a split: each row of each input stream is sent to one output stream, so it comes out as often as it goes in
sum_mixed : (w : Row → ℕ) {parts : List Streams} {out : Streams} → Each Mixes parts out → sum w (concat out) ≡ sum w (concat (concat parts))
sum_mixed w each_nil = refl
sum_mixed w (each_cons {x = p} {y = z} {l = parts} {m = out} m h) =
    omega (arith, sum_append w z (concat out), mixes_sum m w, sum_mixed w h, sum-concat_append w p (concat parts))

sum-tab_nil : (w : Row → ℕ) (n : ℕ) → sum w (concat (concat (tab n (λ j. [])))) ≡ 0
sum-tab_nil w zero = refl
sum-tab_nil w (suc n) = sum-tab_nil w n

sum-tab_cons : (w : Row → ℕ) (n : ℕ) (f : ℕ → List Row) (g : ℕ → Streams) →
    sum w (concat (concat (tab n (λ j. f j ∷ g j)))) ≡ sum w (concat (tab n f)) + sum w (concat (concat (tab n g)))
sum-tab_cons w zero f g = refl
sum-tab_cons w (suc n) f g =
    omega (
      arith,
      sum-tab_cons w n (λ k. f (suc k)) (λ k. g (suc k)),
      sum_append w (f 0) (concat (g 0 ++ concat (tab n (λ j. f (suc j) ∷ g (suc j))))),
      sum-concat_append w (g 0) (concat (tab n (λ j. f (suc j) ∷ g (suc j)))),
      sum_append w (f 0) (concat (tab n (λ k. f (suc k)))),
      sum-concat_append w (g 0) (concat (tab n (λ k. g (suc k)))),
    )

tab_all : (n : ℕ) (p : Streams) → length p ≡ n → tab n (λ j. get_or p j []) ≡ p
tab_all zero [] e = refl
tab_all zero (x ∷ p) e = absurd (omega arith)
tab_all (suc n) [] e = absurd (omega arith)
tab_all (suc n) (x ∷ p) e = ap (λ (l : Streams). x ∷ l) (tab_all n p (omega arith))

-- by outputs and by inputs, where each input has n parts
sum_sent : (w : Row → ℕ) (n : ℕ) {parts : List Streams} → All (λ p. length p ≡ n) parts →
    sum w (concat (concat (tab n (sent_to parts)))) ≡ sum w (concat (concat parts))
sum_sent w n all_nil = sum-tab_nil w n
sum_sent w n (all_cons {x = p} {l = parts} e es) =
    sum-tab_cons w n (λ j. get_or p j []) (sent_to parts)
    ∙ ap₂ ◌+◌ (ap (λ (l : Streams). sum w (concat l)) (tab_all n p e)) (sum_sent w n es)
    ∙ sym (sum-concat_append w p (concat parts))

pub sends_split : (n : ℕ) (ks : List Key) (b : Bool) {ins out : Streams} → Sends n ins out → (b ≡ true → All (Sorted ks) ins → All (Sorted ks) out) →
    Split n ks b ins out
sends_split n ks b h s =
    record {
      count = each_length h.mixed ∙ length-tab n (sent_to h.parts);
      same = record { sums = λ w. sum_mixed w h.mixed ∙ sum_sent w n h.sizes ∙ sym (sum_mixed w h.taken) };
      sorted = s;
    }
