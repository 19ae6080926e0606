-- Tables that facts and runs share, told by what every run of a small plan delivers, so that an error in one shows: whose order a join keeps
-- (smj_kept, hash_kept: rows that match once, so a kept side fixes the order of all rows), whose streams it has (by_right), which left rows
-- a hash join sees, and when a repartition keeps the known order (keeps_order). Where no side is kept, and where a repartition does not
-- maintain, any order is a run: NotNarrower.
use Rattle.std.specs.Prelude.{◌≡◌, refl, Bool, true, false, List, [], ◌∷◌, ◌++◌, map, ℕ, suc, ◌≤◌, pos, leb, length}
use Rattle.std.proofs.Common.{sym, ap, ap₂, ◌∙◌, subst, arith, leb-true}
use mathlib.Core.List.Memᴰ
use mathlib.Core.List.Memᴰ.{head as here}
use Rattle.row_order.specs.Iso.{null, num, Row, Key}
use Rattle.row_order.specs.RowLists.{row_discrete, Sorted}
use Rattle.row_order.specs.Lists.{concat, Same, All, all_nil, all_cons, tab}
use Rattle.row_order.specs.ListLaws.{same_mem, all_head, all_tail}
use Rattle.plan.specs.Forest.{Forest, none, tree, roots}
use Rattle.plan.specs.Op.{On, Op, repartition, sort_merge_join, hash_join, Plan}
use Rattle.plan.specs.Samples.{up, by, source_of}
use Rattle.plan.specs.declared.JoinType.{JoinType}
use Rattle.plan.specs.declared.JoinType.TheVariants.{Inner, Left, Right, Full, LeftSemi, LeftAnti, RightSemi, RightAnti}
use Rattle.semantics.specs.Facts.{facts_op, facts}
use Rattle.semantics.specs.Properties.{cuts}
use Rattle.semantics.specs.Joins.{join_row, nulls, left_pairs, right_pairs, Gives, matched, padded, semi, anti, given, g_left, g_right, Grouped, grouped_nil, grouped_cons}
use Rattle.semantics.specs.Runs.{Streams, Env, next_s, next_f, Each, each_nil, each_cons, Pair, Made, cut_rows, Run, run_none, run_tree}
use Rattle.semantics.proofs.Examples.SampleRows.{row, pair, twin, Has}
use Rattle.semantics.specs.Holds.{AsMany}
use Rattle.semantics.proofs.Theorems.Runs.RunStreams.{each_root, run_streams}
use Rattle.semantics.proofs.Theorems.Runs.Rows.{map_id}

-- ---- a node over one source, and over two, of one column

abbrev scan : ℕ → List Key → Plan → Plan
scan n ks r = tree (source_of 1 n 0 ks false) none r

one_has : (E : Env) (i : ℕ) (ks : List Key) (s : Streams) → Has E i s → (j : ℕ) (cs : Forest Streams) → Run E i j (scan (length s) ks none) cs →
    roots cs ≡ s ∷ []
one_has E i ks s h j cs (run_tree st run_none run_none) = ap (λ (x : Streams). x ∷ []) (st.is ∙ map_id _ (λ l. refl) st.raw ∙ st.made ∙ h)

two_has : (E : Env) (i : ℕ) (s t : Streams) → Has E i s → Has E (suc i) t → (j : ℕ) (cs : Forest Streams) →
    Run E i j (scan (length s) [] (scan (length t) [] none)) cs → roots cs ≡ s ∷ t ∷ []
two_has E i s t h k j cs (run_tree st run_none r) = ap₂ ◌∷◌ (st.is ∙ map_id _ (λ l. refl) st.raw ∙ st.made ∙ h) (one_has E (suc i) [] t k _ _ r)

-- The streams that every run has at its root
abbrev pub Delivers : Env → Plan → Streams → Type 0
Delivers E f s = (out : Forest Streams) → Run E 0 0 f out → roots out ≡ s ∷ []

-- a node that cuts nothing off, over children of whose streams all runs tell the same
pub over_made : (E : Env) (o : Op) (c : Plan) (css : List Streams) → next_s o 0 ≡ 0 → ((j : ℕ) (cs : Forest Streams) → Run E 0 j c cs → roots cs ≡ css) →
    ((l : List Row) → cut_rows (cuts o) l ≡ l) →
    (P : Streams → Type 0) → ((raw : Streams) → Made E 0 0 o (facts c) css raw → P raw) → (out : Forest Streams) → Run E 0 0 (tree o c none) out →
    (s : Streams) × (roots out ≡ s ∷ []) × P s
over_made E o c css z same u P h out (run_tree {s = s} {cs = cs} st a run_none) = (
  s,
  refl,
  subst P (sym (st.is ∙ map_id _ u st.raw))
      (h st.raw (subst (λ (x : List Streams). Made E 0 0 o (facts c) x st.raw) (same _ cs (subst (λ (i : ℕ). Run E i (next_f o 0) c cs) z a))
      st.made)),
)

-- ---- rows that come in groups of one at most come in one order
same_one : (t : List Row) (x : Row) → Same t (x ∷ []) → t ≡ x ∷ []
same_one [] x s = absurd (omega (arith, s.sums (λ _. 1)))
same_one (y ∷ []) x s = ap (λ (z : Row). z ∷ []) (Memᴰ.eq_of_singleton (same_mem row_discrete s y (here refl)))
same_one (y ∷ z ∷ t) x s = absurd (omega (arith, s.sums (λ _. 1)))

same_few : (t l : List Row) → length l ≤ 1 → Same t l → t ≡ l
same_few [] [] h s = refl
same_few (y ∷ t) [] h s = absurd (omega (arith, s.sums (λ _. 1)))
same_few t (x ∷ []) h s = same_one t x s
same_few t (x ∷ y ∷ l) h s = absurd (omega arith)

grouped_few : (g : Row → List Row) {l out : List Row} → All (λ x. length (g x) ≤ 1) l → Grouped g l out → out ≡ concat (map g l)
grouped_few g ps grouped_nil = refl
grouped_few g ps (grouped_cons {x = x} {t = t} s h) = ap₂ ◌++◌ (same_few t (g x) (all_head ps) s) (grouped_few g (all_tail ps) h)

given-few : (g : Gives) (ms : List Row) (x alone : Row) → length ms ≤ 1 → length (given g ms x alone) ≤ 1
given-few matched ms x alone h = h
given-few padded [] x alone h = omega arith
given-few padded (m ∷ ms) x alone h = h
given-few semi [] x alone h = omega arith
given-few semi (m ∷ ms) x alone h = omega arith
given-few anti [] x alone h = omega arith
given-few anti (m ∷ ms) x alone h = omega arith

-- ---- whose order a join keeps
abbrev by_first : List On
by_first = record { key = up 0; other = 0 } ∷ []

abbrev join_of : Op → Streams → Streams → Plan
join_of o ls rs = tree o (scan (length ls) [] (scan (length rs) [] none)) none

join_delivers : (E : Env) (o : Op) (ls rs s : Streams) → Has E 0 ls → Has E 1 rs → next_s o 0 ≡ 0 → ((l : List Row) → cut_rows (cuts o) l ≡ l) →
    ((raw : Streams) → Made E 0 0 o (facts (scan (length ls) [] (scan (length rs) [] none))) (ls ∷ rs ∷ []) raw → raw ≡ s) → Delivers E (join_of o ls rs) s
join_delivers E o ls rs s p q z u h out r =
    let a = over_made E o (scan (length ls) [] (scan (length rs) [] none)) (ls ∷ rs ∷ []) z (two_has E 0 ls rs p q) u (λ x. x ≡ s) h out r in
    a.1 ∙ ap (λ (x : Streams). x ∷ []) a.2

-- 1 and 2 stand on both sides, in the other order on the right; 3 and 4 on the left alone, 6 and 5 on the right alone
abbrev lefts : List Row
lefts = row 1 ∷ row 2 ∷ row 3 ∷ row 4 ∷ []

abbrev rights : List Row
rights = row 6 ∷ row 5 ∷ row 2 ∷ row 1 ∷ []

by_left : (g : Gives) (raw : Streams) → Each (λ (p : Pair) o. Grouped (g_left g by_first 1 1 p.1) p.0 o) ((lefts, rights) ∷ []) raw →
    raw ≡ concat (map (g_left g by_first 1 1 rights) lefts) ∷ []
by_left g raw (each_cons j each_nil) =
    let few : (x : Row) → leb (length (left_pairs by_first 1 rights x)) 1 ≡ true → length (g_left g by_first 1 1 rights x) ≤ 1 =
    λ x e. given-few g (left_pairs by_first 1 rights x) x (join_row 1 x (nulls 1)) (leb-true (length (left_pairs by_first 1 rights x)) 1 e) in
    ap (λ (x : List Row). x ∷ [])
    (grouped_few (g_left g by_first 1 1 rights)
    (all_cons (few (row 1) refl) (all_cons (few (row 2) refl) (all_cons (few (row 3) refl) (all_cons (few (row 4) refl) all_nil)))) j)

by_right : (g : Gives) (raw : Streams) → Each (λ (p : Pair) o. Grouped (g_right g by_first 1 p.0) p.1 o) ((lefts, rights) ∷ []) raw →
    raw ≡ concat (map (g_right g by_first 1 lefts) rights) ∷ []
by_right g raw (each_cons j each_nil) =
    let few : (x : Row) → leb (length (right_pairs by_first 1 lefts x)) 1 ≡ true → length (g_right g by_first 1 lefts x) ≤ 1 =
    λ x e. given-few g (right_pairs by_first 1 lefts x) x (join_row 1 (nulls 1) x) (leb-true (length (right_pairs by_first 1 lefts x)) 1 e) in
    ap (λ (x : List Row). x ∷ [])
    (grouped_few (g_right g by_first 1 lefts)
    (all_cons (few (row 6) refl) (all_cons (few (row 5) refl) (all_cons (few (row 2) refl) (all_cons (few (row 1) refl) all_nil)))) j)

module _ (E : Env) (l : Has E 0 (lefts ∷ [])) (r : Has E 1 (rights ∷ [])) where
  abbrev Gets : Op → List Row → Type 0
  Gets o rows = Delivers E (join_of o (lefts ∷ []) (rights ∷ [])) (rows ∷ [])

  gets : (o : Op) (rows : List Row) → next_s o 0 ≡ 0 → ((l : List Row) → cut_rows (cuts o) l ≡ l) →
      ((raw : Streams) → Made E 0 0 o (facts (scan 1 [] (scan 1 [] none))) ((lefts ∷ []) ∷ (rights ∷ []) ∷ []) raw → raw ≡ rows ∷ []) → Gets o rows
  gets o rows z u h = join_delivers E o (lefts ∷ []) (rights ∷ []) (rows ∷ []) l r z u h

  -- a sort-merge join: in the order of the left rows, for Right types of the right rows
  pub smj_inner : Gets (sort_merge_join Inner by_first) (twin 1 ∷ twin 2 ∷ [])
  smj_inner = gets (sort_merge_join Inner by_first) _ refl (λ l. refl) (by_left matched)

  pub smj_left : Gets (sort_merge_join Left by_first) (twin 1 ∷ twin 2 ∷ pair (num (pos 3)) null ∷ pair (num (pos 4)) null ∷ [])
  smj_left = gets (sort_merge_join Left by_first) _ refl (λ l. refl) (by_left padded)

  pub smj_right : Gets (sort_merge_join Right by_first) (pair null (num (pos 6)) ∷ pair null (num (pos 5)) ∷ twin 2 ∷ twin 1 ∷ [])
  smj_right = gets (sort_merge_join Right by_first) _ refl (λ l. refl) (by_right padded)

  pub smj_left_semi : Gets (sort_merge_join LeftSemi by_first) (row 1 ∷ row 2 ∷ [])
  smj_left_semi = gets (sort_merge_join LeftSemi by_first) _ refl (λ l. refl) (by_left semi)

  pub smj_left_anti : Gets (sort_merge_join LeftAnti by_first) (row 3 ∷ row 4 ∷ [])
  smj_left_anti = gets (sort_merge_join LeftAnti by_first) _ refl (λ l. refl) (by_left anti)

  pub smj_right_semi : Gets (sort_merge_join RightSemi by_first) (row 2 ∷ row 1 ∷ [])
  smj_right_semi = gets (sort_merge_join RightSemi by_first) _ refl (λ l. refl) (by_right semi)

  pub smj_right_anti : Gets (sort_merge_join RightAnti by_first) (row 6 ∷ row 5 ∷ [])
  smj_right_anti = gets (sort_merge_join RightAnti by_first) _ refl (λ l. refl) (by_right anti)

  -- a hash join: in the order of the right rows
  pub hash_inner : Gets (hash_join Inner by_first) (twin 2 ∷ twin 1 ∷ [])
  hash_inner = gets (hash_join Inner by_first) _ refl (λ l. refl) (by_right matched)

  pub hash_right : Gets (hash_join Right by_first) (pair null (num (pos 6)) ∷ pair null (num (pos 5)) ∷ twin 2 ∷ twin 1 ∷ [])
  hash_right = gets (hash_join Right by_first) _ refl (λ l. refl) (by_right padded)

  pub hash_right_semi : Gets (hash_join RightSemi by_first) (row 2 ∷ row 1 ∷ [])
  hash_right_semi = gets (hash_join RightSemi by_first) _ refl (λ l. refl) (by_right semi)

  pub hash_right_anti : Gets (hash_join RightAnti by_first) (row 6 ∷ row 5 ∷ [])
  hash_right_anti = gets (hash_join RightAnti by_first) _ refl (λ l. refl) (by_right anti)

-- ---- like-numbered streams, and all left rows
abbrev one_two : Streams
one_two = (row 1 ∷ []) ∷ (row 2 ∷ []) ∷ []

abbrev two_one : Streams
two_one = (row 2 ∷ []) ∷ (row 1 ∷ []) ∷ []

module _ (E : Env) (l : Has E 0 one_two) (r : Has E 1 two_one) where
  -- a hash join puts out, for each right stream, its join with the rows of all left streams
  pub hash_all_left : Delivers E (join_of (hash_join Inner by_first) one_two two_one) ((twin 2 ∷ []) ∷ (twin 1 ∷ []) ∷ [])
  hash_all_left = join_delivers E (hash_join Inner by_first) one_two two_one ((twin 2 ∷ []) ∷ (twin 1 ∷ []) ∷ []) l r refl (λ l. refl) joined
    where
      joined : (raw : Streams) →
          Each (λ (p : Pair) o. Grouped (g_right matched by_first 1 p.0) p.1 o) ((row 1 ∷ row 2 ∷ [], row 2 ∷ []) ∷ (row 1 ∷ row 2 ∷ [], row 1 ∷ [])
          ∷ []) raw → raw ≡ (twin 2 ∷ []) ∷ (twin 1 ∷ []) ∷ []
      joined raw (each_cons j (each_cons k each_nil)) = ap₂ (λ (x y : List Row). x ∷ y ∷ []) (grouped_few _ (all_cons (omega arith) all_nil) j)
          (grouped_few _ (all_cons (omega arith) all_nil) k)

  -- a sort-merge join joins the first streams, and the second
  pub smj_like_numbered : Delivers E (join_of (sort_merge_join Inner by_first) one_two two_one) ([] ∷ [] ∷ [])
  smj_like_numbered = join_delivers E (sort_merge_join Inner by_first) one_two two_one ([] ∷ [] ∷ []) l r refl (λ l. refl) joined
    where
      joined : (raw : Streams) →
          Each (λ (p : Pair) o. Grouped (g_left matched by_first 1 1 p.1) p.0 o) ((row 1 ∷ [], row 2 ∷ []) ∷ (row 2 ∷ [], row 1 ∷ []) ∷ []) raw →
          raw ≡ [] ∷ [] ∷ []
      joined raw (each_cons j (each_cons k each_nil)) = ap₂ (λ (x y : List Row). x ∷ y ∷ []) (grouped_few _ (all_cons (omega arith) all_nil) j)
          (grouped_few _ (all_cons (omega arith) all_nil) k)

-- ---- whose streams a join has: of two streams on the left and three on the right
abbrev two_three : Op → Plan
two_three o = tree o (scan 2 [] (scan 3 [] none)) none

-- Every run has n streams at the root
abbrev pub Many : ℕ → Op → Type 0
Many n o = (E : Env) (out : Forest Streams) → Run E 0 0 (two_three o) out → map length (roots out) ≡ n ∷ []

many : (n : ℕ) (o : Op) → (facts_op o (facts (scan 2 [] (scan 3 [] none)))).streams ≡ n → Many n o
many n o e E out r = go (each_root AsMany (run_streams r))
  where
    go : {css : List Streams} → Each AsMany (facts (two_three o)) css → map length css ≡ n ∷ []
    go (each_cons h each_nil) = ap (λ (m : ℕ). m ∷ []) (h ∙ e)

pub smj_streams :
    Many 2 (sort_merge_join Inner by_first)
    × Many 2 (sort_merge_join Left by_first)
    × Many 3 (sort_merge_join Right by_first)
    × Many 2 (sort_merge_join Full by_first)
    × Many 2 (sort_merge_join LeftSemi by_first)
    × Many 2 (sort_merge_join LeftAnti by_first)
    × Many 3 (sort_merge_join RightSemi by_first)
    × Many 3 (sort_merge_join RightAnti by_first)
smj_streams = (
  many 2 (sort_merge_join Inner by_first) refl,
  many 2 (sort_merge_join Left by_first) refl,
  many 3 (sort_merge_join Right by_first) refl,
  many 2 (sort_merge_join Full by_first) refl,
  many 2 (sort_merge_join LeftSemi by_first) refl,
  many 2 (sort_merge_join LeftAnti by_first) refl,
  many 3 (sort_merge_join RightSemi by_first) refl,
  many 3 (sort_merge_join RightAnti by_first) refl,
)

pub hash_streams : (t : JoinType) → Many 3 (hash_join t by_first)
hash_streams t = many 3 (hash_join t by_first) refl

-- ---- when a repartition keeps the known order: over one stream, and over several with the mark
module _ (E : Env) (n : ℕ) where
  abbrev split : Bool → Streams → Plan
  split mark ins = tree (repartition mark n false []) (scan (length ins) (by 0) none) none

  abbrev InOrder : Bool → Streams → Type 0
  InOrder mark ins = (out : Forest Streams) → Run E 0 0 (split mark ins) out → (s : Streams) × (roots out ≡ s ∷ []) × All (Sorted (by 0)) s

  pub one_stream_kept : (a : List Row) → Has E 0 (a ∷ []) → Sorted (by 0) a → InOrder false (a ∷ [])
  one_stream_kept a h o = over_made E (repartition false n false []) (scan 1 (by 0) none) ((a ∷ []) ∷ []) refl (one_has E 0 (by 0) (a ∷ []) h) (λ l. refl)
      (All (Sorted (by 0))) (λ raw m. m.sorted refl (all_cons o all_nil))

  pub marked_kept : (a b : List Row) → Has E 0 (a ∷ b ∷ []) → Sorted (by 0) a → Sorted (by 0) b → InOrder true (a ∷ b ∷ [])
  marked_kept a b h o p = over_made E (repartition true n false []) (scan 2 (by 0) none) ((a ∷ b ∷ []) ∷ []) refl (one_has E 0 (by 0) (a ∷ b ∷ []) h)
      (λ l. refl) (All (Sorted (by 0))) (λ raw m. m.sorted refl (all_cons o (all_cons p all_nil)))
