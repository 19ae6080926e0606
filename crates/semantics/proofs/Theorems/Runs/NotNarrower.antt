-- Runs are not narrower than 01 leaves them, shown for a node over a source of any number of streams: a coalesce and a global limit take
-- any interleaving, a merge any that is in order, an unmarked repartition any split, a marked one any that is in order, a sort any
-- ordered permutation, of all rows or of each stream; a join has a kept row's matches in any order, or all rows where no side is kept;
-- an aggregate any rows that its definition allows (what these are is told in Groups); and sources and filters are numbered in node order.
use Rattle.std.specs.Prelude.{◌≡◌, refl, Bool, true, false, List, [], ◌∷◌, ◌++◌, map, ℕ, suc, length, None}
use Rattle.std.proofs.Common.{sym, ap, ◌∙◌, arith}
use Rattle.row_order.specs.Iso.{Row, Key}
use Rattle.row_order.specs.RowLists.{le, Sorted}
use Rattle.row_order.proofs.Order.{no_bool}
use Rattle.row_order.specs.Lists.{concat, Same, All, all_nil, all_cons, pw_nil, pw_cons, mix_nil, mix_left, mix_right, Mixes, mixes_nil, mixes_cons, tab}
use Rattle.plan.specs.Forest.{Forest, none, tree}
use Rattle.plan.specs.Op.{On, Op, filter, union, repartition, coalesce, sort_op, merge_op, global_limit, sort_merge_join, hash_join, aggregate, Plan}
use Rattle.plan.specs.Samples.{source_of}
use Rattle.plan.specs.declared.JoinType.{JoinType}
use Rattle.plan.specs.declared.JoinType.TheVariants.{Inner, Left, Full, LeftSemi, LeftAnti}
use Rattle.semantics.specs.Facts.{Facts, keeps_order, at0, facts}
use Rattle.semantics.specs.Properties.{cuts}
use Rattle.semantics.specs.Joins.{grouped_cons, grouped_nil, join_row, keep, matches, sql}
use Rattle.semantics.specs.Runs.{Streams, Env, next_s, Each, each_nil, each_cons, SortOf, Made, cut_rows, Run, run_none, run_tree, SameInputs, Grouping}
use Rattle.semantics.specs.Sending.{Sends}
use Rattle.semantics.proofs.Examples.SampleRows.{Has}
use Rattle.semantics.proofs.Theorems.Common.Streams.{all_sorted_nil}
use Rattle.semantics.proofs.Theorems.Runs.Splits.{sends_split}
use Rattle.semantics.proofs.Theorems.Runs.Rows.{map_id}

-- A source of two columns and n streams, with declared keys, and a node over it
abbrev pub from : ℕ → List Key → Plan
from n ks = tree (source_of 2 n 0 ks false) none none

abbrev pub over : Op → ℕ → List Key → Plan
over o n ks = tree o (from n ks) none

-- The streams of the two nodes
abbrev pub gives : Streams → Streams → Forest Streams
gives out ins = tree out (tree ins none none) none

-- A run of such a plan: what a node that cuts nothing off makes of the source's streams
pub over_run : (E : Env) (o : Op) (ks : List Key) (ins out : Streams) → Has E 0 ins → next_s o 0 ≡ 0 → ((l : List Row) → cut_rows (cuts o) l ≡ l) →
    Made E 0 0 o (facts (from (length ins) ks)) (ins ∷ []) out →
    Run E 0 0 (over o (length ins) ks) (gives out ins)
over_run E o ks ins out e z u m =
    run_tree (record { raw = out; made = m; is = sym (map_id (cut_rows (cuts o)) u out) })
    (run_tree (record { raw = ins; made = sym (ap (λ (i : ℕ). tab (length ins) (E.rows i)) z ∙ e); is = sym (map_id _ (λ l. refl) ins) }) run_none
    run_none) run_none

-- ---- coalesce: any interleaving
pub coalesce_any : (E : Env) (ks : List Key) (ins : Streams) (z : List Row) → Has E 0 ins → Mixes ins z →
    Run E 0 0 (over (coalesce None) (length ins) ks) (gives (z ∷ []) ins)
coalesce_any E ks ins z p m = over_run E (coalesce None) ks ins (z ∷ []) p refl (λ l. refl) (record { one = z; is = refl; that = m })

-- one that is not round robin: the first stream whole, then the second
pub not_round_robin : (E : Env) (ks : List Key) (x y z : Row) → Has E 0 ((x ∷ y ∷ []) ∷ (z ∷ []) ∷ []) →
    Run E 0 0 (over (coalesce None) 2 ks) (gives ((x ∷ y ∷ z ∷ []) ∷ []) ((x ∷ y ∷ []) ∷ (z ∷ []) ∷ []))
not_round_robin E ks x y z p = coalesce_any E ks ((x ∷ y ∷ []) ∷ (z ∷ []) ∷ []) (x ∷ y ∷ z ∷ []) p
    (mixes_cons (mixes_cons mixes_nil (mix_left mix_nil)) (mix_left (mix_left (mix_right mix_nil))))

-- a global limit over several streams: any interleaving too
pub limit_any : (E : Env) (ks : List Key) (ins : Streams) (z : List Row) → Has E 0 ins → Mixes ins z →
    Run E 0 0 (over (global_limit 0 None []) (length ins) ks) (gives (z ∷ []) ins)
limit_any E ks ins z p m = over_run E (global_limit 0 None []) ks ins (z ∷ []) p refl (λ l. refl) (record { one = z; is = refl; that = m })

-- ---- merge: any interleaving that is in order if all its streams are
pub merge_any : (E : Env) (ks ls : List Key) (ins : Streams) (z : List Row) → Has E 0 ins → Mixes ins z → (All (Sorted ks) ins → Sorted ks z) →
    Run E 0 0 (over (merge_op ks None) (length ins) ls) (gives (z ∷ []) ins)
merge_any E ks ls ins z p m s = over_run E (merge_op ks None) ls ins (z ∷ []) p refl (λ l. refl)
    (record { one = z; is = refl; that = record { mixed = m; sorted = s } })

-- ---- repartition: any split (reading 19)
module _ (E : Env) (mark : Bool) (n : ℕ) (ks : List Key) (ins out : Streams) (has : Has E 0 ins) where
  -- where it maintains, the output streams are in the known order if the input streams are
  abbrev known : Facts
  known = at0 (facts (from (length ins) ks))

  abbrev InOrder : Type 0
  InOrder = keeps_order mark known ≡ true → All (Sorted known.order) ins → All (Sorted known.order) out

  pub split_any : length out ≡ n → Same (concat out) (concat ins) → InOrder → Run E 0 0 (over (repartition mark n false []) (length ins) ks) (gives out ins)
  split_any c m s = over_run E (repartition mark n false []) ks ins out has refl (λ l. refl) (record { count = c; same = m; sorted = s })

  -- among them: each row sent to one output stream, and interleaved there with what the other inputs send
  pub sent_any : Sends n ins out → InOrder → Run E 0 0 (over (repartition mark n false []) (length ins) ks) (gives out ins)
  sent_any m s = over_run E (repartition mark n false []) ks ins out has refl (λ l. refl) (sends_split n _ _ m s)

-- everything to the second stream
pub all_to_one : (E : Env) (z : List Row) → Has E 0 (z ∷ []) → Run E 0 0 (over (repartition false 2 false []) 1 []) (gives ([] ∷ z ∷ []) (z ∷ []))
all_to_one E z p = split_any E false 2 [] (z ∷ []) ([] ∷ z ∷ []) p refl (record { sums = λ w. refl }) (λ _ _. all_sorted_nil ([] ∷ z ∷ []))

-- one stream to one, turned round: the rows x, y come out as y, x
pub turned : (E : Env) (x y : Row) → Has E 0 ((x ∷ y ∷ []) ∷ []) →
    Run E 0 0 (over (repartition false 1 false []) 1 []) (gives ((y ∷ x ∷ []) ∷ []) ((x ∷ y ∷ []) ∷ []))
turned E x y p = split_any E false 1 [] ((x ∷ y ∷ []) ∷ []) ((y ∷ x ∷ []) ∷ []) p refl (record { sums = λ w. omega arith })
    (λ _ _. all_sorted_nil ((y ∷ x ∷ []) ∷ []))

-- where it maintains, peers may come out in either order
abbrev by_first : Bool → Bool → List Key
by_first desc first = record { col = 0; desc = desc; first = first } ∷ []

sorted_two : (ks : List Key) (x y : Row) → le ks x y ≡ true → Sorted ks (x ∷ y ∷ [])
sorted_two ks x y h = pw_cons (all_cons h all_nil) (pw_cons all_nil pw_nil)

pub split_peers : (E : Env) (desc first : Bool) (x y : Row) → le (by_first desc first) y x ≡ true → Has E 0 ((x ∷ y ∷ []) ∷ []) →
    Run E 0 0 (over (repartition false 1 false []) 1 (by_first desc first)) (gives ((y ∷ x ∷ []) ∷ []) ((x ∷ y ∷ []) ∷ []))
split_peers E desc first x y h p =
    split_any E false 1 (by_first desc first) ((x ∷ y ∷ []) ∷ []) ((y ∷ x ∷ []) ∷ []) p refl (record { sums = λ w. omega arith })
    (λ _ _. all_cons (sorted_two (by_first desc first) y x h) all_nil)

-- without the preserve mark, ordered streams in any order: the order is lost
pub unmarked_any : (E : Env) (ks : List Key) (a b z : List Row) → Has E 0 (a ∷ b ∷ []) → Same (concat (z ∷ [])) (concat (a ∷ b ∷ [])) →
    Run E 0 0 (over (repartition false 1 false []) 2 ks) (gives (z ∷ []) (a ∷ b ∷ []))
unmarked_any E ks a b z p m = split_any E false 1 ks (a ∷ b ∷ []) (z ∷ []) p refl m (λ e. no_bool e)

-- Rows a, b and c, d come out as d, a and b, c: each output stream is interleaved on its own, not cut from one interleaving of all rows
abbrev crossed : Row → Row → Row → Row → Forest Streams
crossed a b c d = gives ((d ∷ a ∷ []) ∷ (b ∷ c ∷ []) ∷ []) ((a ∷ b ∷ []) ∷ (c ∷ d ∷ []) ∷ [])

pub crossed_split : (E : Env) (ks : List Key) (a b c d : Row) → Has E 0 ((a ∷ b ∷ []) ∷ (c ∷ d ∷ []) ∷ []) →
    Run E 0 0 (over (repartition false 2 false []) 2 ks) (crossed a b c d)
crossed_split E ks a b c d p =
    split_any E false 2 ks ((a ∷ b ∷ []) ∷ (c ∷ d ∷ []) ∷ []) ((d ∷ a ∷ []) ∷ (b ∷ c ∷ []) ∷ []) p refl (record { sums = λ w. omega arith })
    (λ e. no_bool e)

-- and with the mark, where each output stream is in order: if the input streams are, the four rows are peers
pub crossed_peers : (E : Env) (desc first : Bool) (a b c d : Row) → le (by_first desc first) d a ≡ true → le (by_first desc first) b c ≡ true →
    Has E 0 ((a ∷ b ∷ []) ∷ (c ∷ d ∷ []) ∷ []) →
    Run E 0 0 (over (repartition true 2 false []) 2 (by_first desc first)) (crossed a b c d)
crossed_peers E desc first a b c d u v p =
    split_any E true 2 (by_first desc first) ((a ∷ b ∷ []) ∷ (c ∷ d ∷ []) ∷ []) ((d ∷ a ∷ []) ∷ (b ∷ c ∷ []) ∷ []) p refl
    (record { sums = λ w. omega arith })
    (λ _ _. all_cons (sorted_two (by_first desc first) d a u) (all_cons (sorted_two (by_first desc first) b c v) all_nil))

-- ---- sort: any ordered permutation, of the rows of all streams together
pub sort_any : (E : Env) (ks ls : List Key) (ins : Streams) (t : List Row) → Has E 0 ins → Same t (concat ins) → Sorted ks t →
    Run E 0 0 (over (sort_op false ks None) (length ins) ls) (gives (t ∷ []) ins)
sort_any E ks ls ins t p s o = over_run E (sort_op false ks None) ls ins (t ∷ []) p refl (λ l. refl)
    (record { one = t; is = refl; that = record { same = s; sorted = o } })

-- two peers may come out in either order
pub peers_swapped : (E : Env) (ks : List Key) (x y : Row) → le ks y x ≡ true → Has E 0 ((x ∷ y ∷ []) ∷ []) →
    Run E 0 0 (over (sort_op false ks None) 1 []) (gives ((y ∷ x ∷ []) ∷ []) ((x ∷ y ∷ []) ∷ []))
peers_swapped E ks x y h p = sort_any E ks [] ((x ∷ y ∷ []) ∷ []) (y ∷ x ∷ []) p (record { sums = λ w. omega arith }) (sorted_two ks y x h)

-- with the preserve mark, of each stream on its own
pub sort_each_lem : (E : Env) (ks ls : List Key) (ins out : Streams) → Has E 0 ins → Each (SortOf ks) ins out →
    Run E 0 0 (over (sort_op true ks None) (length ins) ls) (gives out ins)
sort_each_lem E ks ls ins out p s = over_run E (sort_op true ks None) ls ins out p refl (λ l. refl) s

-- ---- aggregate: for each group of a stream, in the order in which they begin, a row with any aggregate cells (Groups)
pub aggregate_any : (E : Env) (gs ls : List Key) (n : ℕ) (ins out : Streams) → Has E 0 ins → Each (Grouping gs n) ins out →
    Run E 0 0 (over (aggregate gs n) (length ins) ls) (gives out ins)
aggregate_any E gs ls n ins out p g = over_run E (aggregate gs n) ls ins out p refl (λ l. refl) g

-- ---- joins, of two sources with one stream each
abbrev sides : Plan
sides = tree (source_of 2 1 0 [] false) none (from 1 [])

abbrev joins : List Row → List Row → List Row → Forest Streams
joins out l r = tree (out ∷ []) (tree (l ∷ []) none (tree (r ∷ []) none none)) none

join_run : (E : Env) (o : Op) (l r out : List Row) → E.rows 0 0 ≡ l → E.rows 1 0 ≡ r → next_s o 0 ≡ 0 → out ≡ cut_rows (cuts o) out →
    Made E 0 0 o (facts sides) ((l ∷ []) ∷ (r ∷ []) ∷ []) (out ∷ []) → Run E 0 0 (tree o sides none) (joins out l r)
join_run E o l r out p q z u m =
    run_tree (record { raw = out ∷ []; made = m; is = ap (λ (x : List Row). x ∷ []) u })
    (run_tree (record { raw = l ∷ []; made = sym (ap (λ (i : ℕ). tab 1 (E.rows i)) z ∙ ap (λ (x : List Row). x ∷ []) p); is = refl }) run_none
    (run_tree (record { raw = r ∷ []; made = sym (ap (λ (i : ℕ). tab 1 (E.rows (suc i))) z ∙ ap (λ (x : List Row). x ∷ []) q); is = refl }) run_none
    run_none))
    run_none

-- a sort-merge join keeps the left side's order: of each left row, its matches in any order
pub join_any : (E : Env) (on : List On) (x y : Row) (r t u : List Row) → E.rows 0 0 ≡ x ∷ y ∷ [] → E.rows 1 0 ≡ r →
    Same t (map (join_row 2 x) (keep (matches on x) r)) → Same u (map (join_row 2 y) (keep (matches on y) r)) →
    Run E 0 0 (tree (sort_merge_join Inner on) sides none) (joins (t ++ (u ++ [])) (x ∷ y ∷ []) r)
join_any E on x y r t u p q s v = join_run E (sort_merge_join Inner on) (x ∷ y ∷ []) r (t ++ (u ++ [])) p q refl refl
    (each_cons (grouped_cons s (grouped_cons v grouped_nil)) each_nil)

-- where no side is kept, all rows of the SQL join in any order: a Full sort-merge join, and a hash join of the types below
module _ (E : Env) (on : List On) (l r out : List Row) (p : E.rows 0 0 ≡ l) (q : E.rows 1 0 ≡ r) where
  pub join_unkept : Same out (sql Full on 2 2 l r) → Run E 0 0 (tree (sort_merge_join Full on) sides none) (joins out l r)
  join_unkept s = join_run E (sort_merge_join Full on) l r out p q refl refl (each_cons s each_nil)

  -- all left rows: those of the left stream
  abbrev Any : JoinType → Type 0
  Any t = Same out (sql t on 2 2 (concat (l ∷ [])) r) → Run E 0 0 (tree (hash_join t on) sides none) (joins out l r)

  pub hash_left_any : Any Left
  hash_left_any s = join_run E (hash_join Left on) l r out p q refl refl (each_cons s each_nil)

  pub hash_full_any : Any Full
  hash_full_any s = join_run E (hash_join Full on) l r out p q refl refl (each_cons s each_nil)

  pub hash_left_semi_any : Any LeftSemi
  hash_left_semi_any s = join_run E (hash_join LeftSemi on) l r out p q refl refl (each_cons s each_nil)

  pub hash_left_anti_any : Any LeftAnti
  hash_left_anti_any s = join_run E (hash_join LeftAnti on) l r out p q refl refl (each_cons s each_nil)

-- ---- numbers in node order: the second source of a union has the rows of source 1, the second filter the test of filter 1
abbrev filtered : Plan → Plan
filtered r = tree filter (from 1 []) r

pub numbered : (E : Env) → Run E 0 0 (tree union (filtered (filtered none)) none)
    (tree (keep (E.test 0) (E.rows 0 0) ∷ keep (E.test 1) (E.rows 1 0) ∷ [])
    (tree (keep (E.test 0) (E.rows 0 0) ∷ []) (tree (E.rows 0 0 ∷ []) none none)
    (tree (keep (E.test 1) (E.rows 1 0) ∷ []) (tree (E.rows 1 0 ∷ []) none none) none)) none)
numbered E =
    run_tree (record { raw = keep (E.test 0) (E.rows 0 0) ∷ keep (E.test 1) (E.rows 1 0) ∷ []; made = refl; is = refl })
    (run_tree (record { raw = keep (E.test 0) (E.rows 0 0) ∷ []; made = refl; is = refl })
    (run_tree (record { raw = E.rows 0 0 ∷ []; made = refl; is = refl }) run_none run_none)
    (run_tree (record { raw = keep (E.test 1) (E.rows 1 0) ∷ []; made = refl; is = refl })
    (run_tree (record { raw = E.rows 1 0 ∷ []; made = refl; is = refl }) run_none run_none) run_none))
    run_none

-- ---- two runs are given the same where a source's rows are spread over its streams in another way
pub spread_anew : (E E' : Env) (x y : Row) → E.test ≡ E'.test → E.rows 0 0 ≡ x ∷ y ∷ [] → E.rows 0 1 ≡ [] → E'.rows 0 0 ≡ y ∷ [] →
    E'.rows 0 1 ≡ x ∷ [] → SameInputs E E' (from 2 [])
spread_anew E E' x y t a b c d =
    record {
      rows = (rw (a, b, c, d) (record { sums = λ w. omega arith }), tt, tt);
      tests = λ j r. ap (λ (f : ℕ → Row → Bool). f j r) t;
    }
