-- In every run of a plan that passes the order check, over rows that keep their declared facts, every node's facts hold, and on
-- every input stream the wanted order holds: `sound`.
use Rattle.std.specs.Prelude.{◌≡◌, refl, Bool, true, false, cond, List, [], ◌∷◌, map, ℕ, suc, ◌≤◌, eqb, length, get_or, drop}
use Rattle.std.proofs.Common.{sym, ap, ◌∙◌, subst}
use Rattle.std.proofs.lemmas.List.{length-map}
use Rattle.row_order.specs.Iso.{Cell, null, Row, cell}
use Rattle.row_order.specs.Lists.{concat, All, all_nil, all_cons, pw_nil, tab}
use Rattle.row_order.specs.ListLaws.{all_head, all_tail, all_map, all_concat, all_over, mixes_all, length-tab, tab-true}
use Rattle.row_order.specs.RowLists.{Sorted}
use Rattle.row_order.specs.Packed.{bit}
use Rattle.plan.specs.Forest.{Forest, roots}
use Rattle.plan.specs.Op.{On, Op, source, filter, projection, union, repartition, coalesce, sort_op, merge_op, global_limit, local_limit, sort_merge_join, hash_join, output_requirement, partial_sort, aggregate, Plan}
use Rattle.plan.specs.declared.JoinType.{JoinType}
use Rattle.plan.specs.declared.JoinType.TheVariants.{Inner, Left, Right, Full, LeftSemi, LeftAnti, RightSemi, RightAnti}
use Rattle.plan.specs.WellFormed.{columns_of}
use Rattle.semantics.specs.Facts.{Facts, cl, nf, ordered, nothing, source_facts, union_facts, proj_facts, keeps_order, Kept, k_left, k_right, k_none, smj_kept, hash_kept, by_right, join_base, join_order, join_facts, at0, at1, facts_op, facts}
use Rattle.semantics.specs.Properties.{wanted, cuts}
use Rattle.semantics.specs.Check.{wants_met, check}
use Rattle.semantics.specs.Joins.{Joined}
use Rattle.semantics.specs.Runs.{Streams, Env, Each, each_nil, each_cons, Pair, zip_left, zip_right, like_numbered, with_all, in0, in1, Made, Run, run_none, run_tree, SourceOK, Sources}
use Rattle.semantics.specs.Holds.{RowOK, Holds, AsMany, Wanted, nowhere, node, Good}
use Rattle.semantics.specs.Canonical.{Canon}
use Rattle.semantics.proofs.Theorems.Common.Bools.{and_left, and_right}
use Rattle.semantics.proofs.Theorems.Common.Lowest.{tab_same}
use Rattle.semantics.proofs.Theorems.Canonical.UnionsProjections.{proj_canon}
use Rattle.semantics.proofs.Theorems.Canonical.EveryNode.{nth_canon, canon}
use Rattle.semantics.proofs.Theorems.Check.CheckIsMet.{wants_met_lem}
use Rattle.semantics.proofs.Theorems.Common.Streams.{sorted_nil, each_at, all_drop}
use Rattle.semantics.proofs.Theorems.Runs.RunStreams.{everywhere_map, each_root, run_streams}
use Rattle.semantics.proofs.Theorems.Sound.KindsHold.{nf_sorted, met_sorted, nf_one, union_holds, filter_holds, projection_holds, single_holds, repartition_holds, limit_sorted, sorting_holds, cut_holds}
use Rattle.semantics.proofs.Theorems.Sound.GroupsHold.{aggregate_holds}
use Rattle.semantics.proofs.Theorems.Sound.JoinsHold.{join_value, joined_rows, KeptSorted, joined_sorted}

-- ---- a child by its number
pub child_holds : {fs : List Facts} {css : List Streams} → Each Holds fs css → (n : ℕ) → Holds (get_or fs n nothing) (get_or css n [])
child_holds hs n = each_at nothing [] (record { value = λ c. null; rows = all_nil; sorted = all_nil }) hs n

-- ---- joins
first_all : {A : Type 0} {P : A → Type 0} (d : A) {l : List A} → P d → All P l → P (get_or l 0 d)
first_all d z all_nil = z
first_all d z (all_cons p ps) = p

zip_left_all : {P Q : List Row → Type 0} {ls rs : Streams} → Q [] → All P ls → All Q rs → All (λ p. P p.0 × Q p.1) (zip_left ls rs)
zip_left_all z all_nil qs = all_nil
zip_left_all z (all_cons p ps) qs = all_cons (p, first_all [] z qs) (zip_left_all z ps (all_drop 1 qs))

zip_right_all : {P Q : List Row → Type 0} {ls rs : Streams} → P [] → All P ls → All Q rs → All (λ p. P p.0 × Q p.1) (zip_right ls rs)
zip_right_all z ps all_nil = all_nil
zip_right_all z ps (all_cons q qs) = all_cons (first_all [] z ps, q) (zip_right_all z (all_drop 1 ps) qs)

pub numbered_all : {P Q : List Row → Type 0} (t : JoinType) {ls rs : Streams} → P [] → Q [] → All P ls → All Q rs → All (λ p. P p.0 × Q p.1)
    (like_numbered t ls rs)
numbered_all {P} {Q} t {ls} {rs} y z ps qs = go (by_right t)
  where
    go : (b : Bool) → All (λ p. P p.0 × Q p.1) (cond b (zip_right ls rs) (zip_left ls rs))
    go true = zip_right_all y ps qs
    go false = zip_left_all z ps qs

pub joins_rows : {P : Pair → Type 0} {Q : List Row → Type 0} {J : Pair → List Row → Type 0} {ps : List Pair} {out : Streams}
    → ((p : Pair) (o : List Row) → P p → J p o → Q o) → All P ps → Each J ps out → All Q out
joins_rows f hs each_nil = all_nil
joins_rows f hs (each_cons {x = p} {y = o} j js) = all_cons (f p o (all_head hs) j) (joins_rows f (all_tail hs) js)

Sides : Facts → Facts → (ℕ → Cell) → (ℕ → Cell) → Pair → Type 0
Sides F G u v p = All (RowOK F u) p.0 × All (RowOK G v) p.1

join_holds : (t : JoinType) (k : Kept) (on : List On) (F G : Facts) → ((c : ℕ) → cl F c ≤ c) → (u v : ℕ → Cell) (n : ℕ) (ps : List Pair) (out : Streams) →
    All (λ p. All (RowOK F u) p.0 × All (RowOK G v) p.1) ps → All (KeptSorted k F G) ps → Each (Joined t k on F.width G.width) ps out
    → Holds (join_facts t k on F G n) out
join_holds t k on F G low u v n ps out hs ss js =
    let B : Facts = join_base t on F G in
    let val : ℕ → Cell = join_value t on F G u v in
    let rs : All (All (RowOK B val)) out = joins_rows (λ p o h j. joined_rows on F G low u v t k p o h.0 h.1 j) hs js in
    record {
      value = val;
      rows = rs;
      sorted = nf_sorted B val (join_order t k F G) rs (joins_rows (λ p o h j. joined_sorted on F G p o t k h j) ss js);
    }

none_kept : (F G : Facts) (ps : List Pair) → All (KeptSorted k_none F G) ps
none_kept F G [] = all_nil
none_kept F G (p ∷ ps) = all_cons tt (none_kept F G ps)

module _ (F G : Facts) {ls rs : Streams} (sl : All (Sorted F.order) ls) (sr : All (Sorted G.order) rs) where
  smj_left : All (KeptSorted k_left F G) (zip_left ls rs)
  smj_left = all_map (λ p h. h.0) (zip_left_all {Q = Sorted G.order} pw_nil sl sr)

  smj_right : All (KeptSorted k_right F G) (zip_right ls rs)
  smj_right = all_map (λ p h. h.1) (zip_right_all {P = Sorted F.order} pw_nil sl sr)

  smj_kept_lem : (t : JoinType) → All (KeptSorted (smj_kept t) F G) (like_numbered t ls rs)
  smj_kept_lem Inner = smj_left
  smj_kept_lem Left = smj_left
  smj_kept_lem Right = smj_right
  smj_kept_lem Full = none_kept F G (zip_left ls rs)
  smj_kept_lem LeftSemi = smj_left
  smj_kept_lem LeftAnti = smj_left
  smj_kept_lem RightSemi = smj_right
  smj_kept_lem RightAnti = smj_right

  hash_right : (l : List Row) → All (KeptSorted k_right F G) (map (with_all l) rs)
  hash_right l = all_over (with_all l) (λ r s. s) sr

  hash_kept_lem : (l : List Row) (t : JoinType) → All (KeptSorted (hash_kept t) F G) (map (with_all l) rs)
  hash_kept_lem l Inner = hash_right l
  hash_kept_lem l Left = none_kept F G (map (with_all l) rs)
  hash_kept_lem l Right = hash_right l
  hash_kept_lem l Full = none_kept F G (map (with_all l) rs)
  hash_kept_lem l LeftSemi = none_kept F G (map (with_all l) rs)
  hash_kept_lem l LeftAnti = none_kept F G (map (with_all l) rs)
  hash_kept_lem l RightSemi = hash_right l
  hash_kept_lem l RightAnti = hash_right l

-- ---- wanted orders
met_wanted : (fs : List Facts) (css : List Streams) → Each Holds fs css → (o : Op) → wants_met o fs ≡ true → Wanted o css
met_wanted fs css hs o e i = met_sorted (get_or fs i nothing) (wanted o i) (child_holds hs i) (wants_met_lem o fs e i)

made_holds : (E : Env) (i j : ℕ) (o : Op) (fs : List Facts) (css : List Streams) (out : Streams) → SourceOK E i o → All Canon fs → Each AsMany fs css
    → Each Holds fs css → Wanted o css → Made E i j o fs css out → Holds (facts_op o fs) out
made_holds E i j (source s) fs css out d cs ns hs wt e =
    let F : Facts = source_facts s.width s.streams s.constants in
    let rs : All (All (RowOK F d.value)) (tab s.streams (E.rows i)) =
    all_map (λ l. all_map (λ r p. record {
      const = λ c e. p c (tab-true s.width (bit s.constants) c e).1;
      class = λ c. ap (cell r) (tab_same s.width c);
    })) d.rows in
    subst (Holds (ordered F s.streams (nf F [] s.keys))) (sym e)
    (record { value = d.value; rows = rs; sorted = nf_sorted F d.value s.keys rs d.sorted })
made_holds E i j filter fs css out d cs ns hs wt e = subst (Holds (at0 fs)) (sym e) (filter_holds (at0 fs) (E.test j) (in0 css) (child_holds hs 0))
made_holds E i j (projection cols) fs css out d cs ns hs wt e = subst (Holds (proj_facts (at0 fs) cols)) (sym e)
    (projection_holds (at0 fs) cols (in0 css) (child_holds hs 0))
made_holds E i j union fs css out d cs ns hs wt e = subst (Holds (union_facts fs)) (sym e) (union_holds hs)
made_holds E i j (repartition p n h ks) fs css out d cs ns hs wt e = repartition_holds (at0 fs) (keeps_order p (at0 fs)) n (child_holds hs 0) e
made_holds E i j (coalesce f) fs css out d cs ns hs wt e =
    let h = child_holds hs 0 in single_holds (at0 fs) h.value [] e (mixes_all e.that h.rows) (sorted_nil e.one)
made_holds E i j (sort_op p ks f) fs css out d cs ns hs wt e = sorting_holds (at0 fs) p ks (in0 css) out (child_holds hs 0) e
made_holds E i j (merge_op ks f) fs css out d cs ns hs wt e =
    let h = child_holds hs 0 in
    let rs : All (RowOK (at0 fs) h.value) e.one = mixes_all e.that.mixed h.rows in
    single_holds (at0 fs) h.value (nf (at0 fs) [] ks) e rs (nf_one (at0 fs) h.value ks rs (e.that.sorted (wt 0)))
made_holds E i j (global_limit s f note) fs css out d cs ns hs wt e =
    let h = child_holds hs 0 in single_holds (at0 fs) h.value (cond (eqb (at0 fs).streams 1) (at0 fs).order []) e (mixes_all e.that h.rows)
    (limit_sorted (at0 fs) (in0 css) e.one (each_at nothing [] refl ns 0) h e.that)
made_holds E i j (local_limit f note) fs css out d cs ns hs wt e = subst (Holds (at0 fs)) (sym e) (child_holds hs 0)
made_holds E i j (sort_merge_join t on) fs css out d cs ns hs wt e =
    let h = child_holds hs 0 in
    let k = child_holds hs 1 in
    join_holds t (smj_kept t) on (at0 fs) (at1 fs) (nth_canon fs cs 0).classes.low h.value k.value
    (cond (by_right t) (at1 fs).streams (at0 fs).streams) (like_numbered t (in0 css) (in1 css)) out
    (numbered_all t all_nil all_nil h.rows k.rows)
    (smj_kept_lem (at0 fs) (at1 fs) h.sorted k.sorted t) e
made_holds E i j (hash_join t on) fs css out d cs ns hs wt e =
    let h = child_holds hs 0 in
    let k = child_holds hs 1 in
    join_holds t (hash_kept t) on (at0 fs) (at1 fs) (nth_canon fs cs 0).classes.low h.value k.value (at1 fs).streams
    (map (with_all (concat (in0 css))) (in1 css)) out
    (all_over (with_all (concat (in0 css))) (λ r q. (all_concat (in0 css) h.rows, q)) k.rows)
    (hash_kept_lem (at0 fs) (at1 fs) h.sorted k.sorted (concat (in0 css)) t) e
made_holds E i j (output_requirement ks dist f) fs css out d cs ns hs wt e = subst (Holds (at0 fs)) (sym e) (child_holds hs 0)
made_holds E i j (partial_sort p ks n f) fs css out d cs ns hs wt e = sorting_holds (at0 fs) p ks (in0 css) out (child_holds hs 0) e
made_holds E i j (aggregate ks n) fs css out d cs ns hs wt e =
    aggregate_holds (at0 fs) ks n (proj_canon (at0 fs) (nth_canon fs cs 0) (columns_of ks)).classes.low (child_holds hs 0) e

-- ---- every node
pub good_roots : {f : Plan} {out : Forest Streams} → Good f out → Each Holds (facts f) (roots out)
good_roots g = each_root Holds (everywhere_map (λ o c css s h. h.0) g)

pub sound : {E : Env} {i j : ℕ} {f : Plan} {out : Forest Streams} → Run E i j f out → Sources E i f → check f ≡ true → Good f out
sound run_none d e = nowhere
sound {E} (run_tree {i = i} {j = j} {o = o} {c = c} {r = r} {s = s} {cs = cs} {rs = rs} st h k) d e =
    let g : Good c cs = sound h d.1 (search (and_left, and_right)) in
    let hs = good_roots g in
    let wt : Wanted o (roots cs) = met_wanted (facts c) (roots cs) hs o (search and_left) in
    let F : Facts = facts_op o (facts c) in
    let raw : Holds F st.raw = made_holds E i j o (facts c) (roots cs) st.raw d.0 (canon c) (each_root AsMany (run_streams h)) hs wt st.made in
    node (subst (Holds F) (sym st.is) (cut_holds F (cuts o) st.raw raw), wt) g (sound k d.2 (search (and_left, and_right)))
