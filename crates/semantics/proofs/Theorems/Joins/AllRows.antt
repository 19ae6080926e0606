-- For each pair of streams a join puts out all rows of their SQL join, in some order, whichever side it keeps: `joined_sql`.
use Rattle.std.specs.Prelude.{◌≡◌, refl, cond, List, map, ℕ}
use Rattle.std.proofs.Common.{sym, ◌∙◌, arith}
use Rattle.row_order.specs.Iso.{Row}
use Rattle.row_order.specs.Lists.{sum, concat, Same}
use Rattle.row_order.specs.ListLaws.{sum_append, same_trans}
use Rattle.plan.specs.Op.{On}
use Rattle.plan.specs.declared.JoinType.{JoinType}
use Rattle.plan.specs.declared.JoinType.TheVariants.{Inner, Left, Right, Full, LeftSemi, LeftAnti, RightSemi, RightAnti}
use Rattle.semantics.specs.Facts.{Kept, k_left, k_right, k_none}
use Rattle.semantics.specs.Joins.{keep, join_row, matches, matched, g_left, g_right, sql, Grouped, grouped_nil, grouped_cons, Joined}
use Rattle.semantics.specs.Runs.{Pair}
use Rattle.semantics.proofs.Theorems.Common.Sums.{sum-map, sum-keep, sum-concat, sum_swap, sum_ext}

pub grouped_same : {g : Row → List Row} {l m : List Row} → Grouped g l m → Same m (concat (map g l))
grouped_same h = record { sums = λ w. go w h }
  where
    go : (w : Row → ℕ) {g : Row → List Row} {l m : List Row} → Grouped g l m → sum w m ≡ sum w (concat (map g l))
    go w grouped_nil = refl
    go w {g} (grouped_cons {x = x} {l = l} {t = t} {m = m} s h) = omega (arith, sum_append w t m, s.sums w, go w h, sum_append w (g x) (concat (map g l)))

-- an inner join taken by its right rows
inner_swap : (on : List On) (n v : ℕ) (L R : List Row) → Same (concat (map (g_right matched on n L) R)) (concat (map (g_left matched on n v R) L))
inner_swap on n v L R = record {
  sums = λ w. sum-concat w (g_right matched on n L) R ∙ sum_ext _ _ (by_right w) R ∙ sym (sum_swap (one w) L R)
      ∙ sym (sum_ext _ _ (by_left w) L) ∙ sym (sum-concat w (g_left matched on n v R) L);
}
  where
    one : (Row → ℕ) → Row → Row → ℕ
    one w l r = cond (matches on l r) (w (join_row n l r)) 0

    by_right : (w : Row → ℕ) (r : Row) → sum w (g_right matched on n L r) ≡ sum (λ l. one w l r) L
    by_right w r = sum-map w (λ l. join_row n l r) (keep (λ l. matches on l r) L) ∙ sum-keep (λ l. w (join_row n l r)) (λ l. matches on l r) L

    by_left : (w : Row → ℕ) (l : Row) → sum w (g_left matched on n v R l) ≡ sum (one w l) R
    by_left w l = sum-map w (join_row n l) (keep (matches on l) R) ∙ sum-keep (λ r. w (join_row n l r)) (matches on l) R

module _ (on : List On) (w v : ℕ) (p : Pair) (out : List Row) where
  left_sql : (t : JoinType) → Joined t k_left on w v p out → Same out (sql t on w v p.0 p.1)
  left_sql Inner j = grouped_same j
  left_sql Left j = grouped_same j
  left_sql Right j = absurd j
  left_sql Full j = absurd j
  left_sql LeftSemi j = grouped_same j
  left_sql LeftAnti j = grouped_same j
  left_sql RightSemi j = absurd j
  left_sql RightAnti j = absurd j

  right_sql : (t : JoinType) → Joined t k_right on w v p out → Same out (sql t on w v p.0 p.1)
  right_sql Inner j = same_trans (grouped_same j) (inner_swap on w v p.0 p.1)
  right_sql Left j = absurd j
  right_sql Right j = grouped_same j
  right_sql Full j = absurd j
  right_sql LeftSemi j = absurd j
  right_sql LeftAnti j = absurd j
  right_sql RightSemi j = grouped_same j
  right_sql RightAnti j = grouped_same j

  pub joined_sql : (t : JoinType) (k : Kept) → Joined t k on w v p out → Same out (sql t on w v p.0 p.1)
  joined_sql t k_left j = left_sql t j
  joined_sql t k_right j = right_sql t j
  joined_sql t k_none j = j
