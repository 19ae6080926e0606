-- Without cuts, every row arrives. Where no node cuts rows off (and none is a join or an aggregate: `simple_plan` of Bags), what a finished stepping
-- delivers is the sources' rows as the projections show them, each as often: `arrives`; so as many rows come out as went in: `none_lost`, from the
-- rows' bytes `none_lost_of_bytes`, and of the bytes that are written `writes_all`.
-- Definitions: Plan, well_formed (plan); simple_plan, bags, Fills (semantics, Bags); delivered, unfiltered (Stepping); rows_given, waiting (StepCount).
use Rattle.std.specs.Prelude.{◌≡◌, refl, true, not, ◌&&◌, List, [], ◌∷◌, ◌++◌, ℕ, zero, suc, ◌+◌, ◌≤◌, length, get_or, take, drop}
use Rattle.std.proofs.Common.{sym, ap, ap₂, ◌∙◌, subst, append-nil, arith, length-append, length-drop, take-append-drop, get_or-drop}
use Rattle.std.proofs.Math.Path.{fun_ext}
use Rattle.std.proofs.lemmas.List.{length-map}
use Rattle.row_order.specs.Iso.{Row}
use Rattle.row_order.specs.Lists.{sum, concat, tab}
use Rattle.row_order.specs.ListLaws.{length-tab}
use Rattle.plan.specs.Forest.{Forest, none, tree, roots}
use Rattle.plan.specs.Op.{SourceInfo, Op, source, filter, projection, union, repartition, coalesce, sort_op, merge_op, global_limit, local_limit, sort_merge_join, hash_join, output_requirement, partial_sort, aggregate, Plan}
use Rattle.plan.specs.WellFormed.{well_formed}
use Rattle.semantics.specs.Properties.{cuts, whole, simple_op}
use Rattle.semantics.specs.Joins.{keep}
use Rattle.semantics.specs.Runs.{Streams, Each, each_nil, each_cons, next_s, next_f, past, proj, Run}
use Rattle.semantics.specs.Bags.{simple_plan, bag_op, bags, Fills}
use Rattle.semantics.specs.SourceRows.{own as source_of, sources_of}
use Rattle.semantics.proofs.Theorems.Common.Bools.{and_left, and_right}
use Rattle.semantics.proofs.Theorems.Runs.Rows.{run_rows}
use Rattle.stepping.specs.Stepping.{unfiltered, start, delivered, is_unstepped, can_step}
use Rattle.stepping.specs.RowBytes.{stream_end, streams_at, rows_together, stream_widths, streams_before, source_streams, rows_in, streams_bytes}
use Rattle.stepping.specs.Answers.{written, answer}
use Rattle.stepping.proofs.Theorems.Formed.{Formed, Steppable, steppable-none, steppable-tree}
use Rattle.stepping.proofs.Theorems.Delivered.{formed, delivers}
use Rattle.stepping.proofs.Theorems.Written.{writes_run}
use Rattle.stepping.specs.StepCount.{rows_given, waiting}
use Rattle.stepping.proofs.Theorems.StepCount.{all_wait}

-- A plan that cuts nothing off and has no join and no aggregate is stepped
pub simple_steps : (f : Plan) → simple_plan f ≡ true → can_step f ≡ true
simple_steps none e = refl
simple_steps (tree o c r) e =
    let q = and_right (simple_op o) (simple_plan c && simple_plan r) e in
    ap₂ ◌&&◌ (and_right (whole (cuts o)) (not (is_unstepped o)) (and_left (simple_op o) (simple_plan c && simple_plan r) e))
    (ap₂ ◌&&◌ (simple_steps c (and_left (simple_plan c) (simple_plan r) q)) (simple_steps r (and_right (simple_plan c) (simple_plan r) q)))

first_fills : {s : Streams} {bs : List (List Row)} → Each Fills (s ∷ []) bs → (bs ≡ get_or bs 0 [] ∷ []) × Fills s (get_or bs 0 [])
first_fills (each_cons h each_nil) = (refl, h)

-- ---- the very rows. ss: what the root of a run puts out, where every test is true
run_fills : (f : Plan) (rows : ℕ → ℕ → List Row) {out : Forest Streams} {ss : Streams} → simple_plan f ≡ true → Run (unfiltered rows) 0 0 f out →
    roots out ≡ ss ∷ [] → Each Fills (ss ∷ []) (bags (unfiltered rows) 0 0 f)
run_fills f rows e r q = subst (λ (l : List Streams). Each Fills l (bags (unfiltered rows) 0 0 f)) q (run_rows r e)

-- `bags`: of each root, the sources' rows as the projections below it show them
pub arrives : (f : Plan) (rows : ℕ → ℕ → List Row) (bytes : List ℕ) → well_formed f ≡ true → simple_plan f ≡ true →
    Fills (delivered f rows bytes) (get_or (bags (unfiltered rows) 0 0 f) 0 [])
arrives f rows bytes w e = let r = delivers f rows bytes w (simple_steps f e) in (first_fills (run_fills f rows e r.1 r.2)).1

-- ---- their number
keep_all : (l : List Row) → length (keep (λ r. true) l) ≡ length l
keep_all [] = refl
keep_all (x ∷ l) = ap suc (keep_all l)

one_bag : (bs : List (List Row)) → length bs ≡ 1 → concat bs ≡ get_or bs 0 []
one_bag [] e = absurd (omega arith)
one_bag (b ∷ []) e = append-nil b
one_bag (b ∷ c ∷ bs) e = absurd (omega arith)

no_bag : (bs : List (List Row)) → length bs ≡ 0 → length (concat bs) ≡ 0
no_bag [] e = refl
no_bag (b ∷ bs) e = absurd (omega arith)

-- no node makes rows but a source, and none loses one
node_count_lem : (rows : ℕ → ℕ → List Row) (i j : ℕ) (o : Op) (bs : List (List Row)) (l : List SourceInfo) → Formed o (length bs) →
    rows_given rows i (source_of o l) + length (concat bs) ≡ length (bag_op (unfiltered rows) i j o bs) + rows_given rows (next_s o i) l
node_count_lem rows i j (source s) bs l n = omega (arith, no_bag bs n)
node_count_lem rows i j filter bs l n = omega (arith, ap length (one_bag bs n), keep_all (get_or bs 0 []))
node_count_lem rows i j (projection cols) bs l n = omega (arith, ap length (one_bag bs n), length-map (get_or bs 0 []) (proj cols))
node_count_lem rows i j union bs l n = omega arith
node_count_lem rows i j (repartition p m h ks) bs l n = omega (arith, ap length (one_bag bs n.0))
node_count_lem rows i j (coalesce f) bs l n = omega (arith, ap length (one_bag bs n))
node_count_lem rows i j (sort_op p ks f) bs l n = omega (arith, ap length (one_bag bs n))
node_count_lem rows i j (merge_op ks f) bs l n = omega (arith, ap length (one_bag bs n))
node_count_lem rows i j (global_limit s f note) bs l n = omega (arith, ap length (one_bag bs n))
node_count_lem rows i j (local_limit f note) bs l n = omega (arith, ap length (one_bag bs n))
node_count_lem rows i j (sort_merge_join t on) bs l n = absurd n
node_count_lem rows i j (hash_join t on) bs l n = absurd n
node_count_lem rows i j (output_requirement ks d f) bs l n = omega (arith, ap length (one_bag bs n))
node_count_lem rows i j (partial_sort p ks m f) bs l n = omega (arith, ap length (one_bag bs n))
node_count_lem rows i j (aggregate ks m) bs l n = absurd n

bags-length : (rows : ℕ → ℕ → List Row) (i j : ℕ) (f : Plan) → length (bags (unfiltered rows) i j f) ≡ length (roots f)
bags-length rows i j none = refl
bags-length rows i j (tree o c r) = ap suc (bags-length rows (past next_s c (next_s o i)) (past next_f c (next_f o j)) r)

bags_count : (rows : ℕ → ℕ → List Row) (i j : ℕ) {f : Plan} → Steppable f → (l : List SourceInfo) →
    rows_given rows i (sources_of f l) ≡ length (concat (bags (unfiltered rows) i j f)) + rows_given rows (past next_s f i) l
bags_count rows i j steppable-none l = omega arith
bags_count rows i j (steppable-tree {o = o} {c = c} {r = r} n s t) l =
    let below : List (List Row) = bags (unfiltered rows) (next_s o i) (next_f o j) c in
    let beside : List (List Row) = bags (unfiltered rows) (past next_s c (next_s o i)) (past next_f c (next_f o j)) r in
    omega (
      arith,
      node_count_lem rows i j o below (sources_of c (sources_of r l)) (subst (Formed o) (sym (bags-length rows (next_s o i) (next_f o j) c)) n),
      bags_count rows (next_s o i) (next_f o j) s (sources_of r l),
      bags_count rows (past next_s c (next_s o i)) (past next_f c (next_f o j)) t l,
      length-append (bag_op (unfiltered rows) i j o below) (concat beside),
    )

sum_ones : (l : List Row) → sum (λ x. 1) l ≡ length l
sum_ones [] = refl
sum_ones (x ∷ l) = omega (arith, sum_ones l)

run_count : (f : Plan) (rows : ℕ → ℕ → List Row) (out : Forest Streams) (ss : Streams) → Steppable f → simple_plan f ≡ true →
    Run (unfiltered rows) 0 0 f out → roots out ≡ ss ∷ [] → length (concat ss) ≡ rows_given rows 0 (sources_of f [])
run_count f rows out ss s e r q =
    let h = first_fills (run_fills f rows e r q) in
    let b : List Row = get_or (bags (unfiltered rows) 0 0 f) 0 [] in
    sym (sum_ones (concat ss))
    ∙ h.1.sums (λ x. 1)
    ∙ sum_ones b
    ∙ omega (arith, ap length (append-nil b), ap (λ (l : List (List Row)). length (concat l)) h.0, bags_count rows 0 0 s [])

-- As many rows as the sources have
pub none_lost : (f : Plan) (rows : ℕ → ℕ → List Row) (bytes : List ℕ) → well_formed f ≡ true → simple_plan f ≡ true →
    length (concat (delivered f rows bytes)) ≡ rows_given rows 0 (sources_of f [])
none_lost f rows bytes w e =
    let j = simple_steps f e in
    let r = delivers f rows bytes w j in
    run_count f rows r.0 (delivered f rows bytes) (formed f w j) e r.1 r.2

-- which are the rows that wait in the first state
pub none_lost_waiting : (f : Plan) (rows : ℕ → ℕ → List Row) (bytes : List ℕ) → well_formed f ≡ true → simple_plan f ≡ true →
    length (concat (delivered f rows bytes)) ≡ waiting (start rows 0 f)
none_lost_waiting f rows bytes w e = none_lost f rows bytes w e ∙ sym (all_wait rows f)

-- ---- from the rows' bytes: each source has its own streams, and all are read
length_streams : (s : List ℕ) (a : ℕ) (ws : List ℕ) → length (streams_at s a ws) ≡ length ws
length_streams s a [] = refl
length_streams s a (w ∷ ws) = ap suc (length_streams s (stream_end s a w) ws)

next_rows : (rows : ℕ → ℕ → List Row) (i : ℕ) (l : List SourceInfo) → rows_given rows (suc i) l ≡ rows_given (λ k. rows (suc k)) i l
next_rows rows i [] = refl
next_rows rows i (s ∷ l) = ap (λ (n : ℕ). length (concat (tab s.streams (rows (suc i)))) + n) (next_rows rows (suc i) l)

tab-take : (n : ℕ) (ss : Streams) → n ≤ length ss → tab n (λ k. get_or ss k []) ≡ take n ss
tab-take zero ss h = refl
tab-take (suc n) [] h = absurd (omega arith)
tab-take (suc n) (l ∷ ss) h = ap (λ (m : Streams). l ∷ m) (tab-take n ss (omega arith))

concat_append : (ss ts : Streams) → length (concat (ss ++ ts)) ≡ length (concat ss) + length (concat ts)
concat_append [] ts = omega arith
concat_append (l ∷ ss) ts = omega (arith, length-append l (concat (ss ++ ts)), length-append l (concat ss), concat_append ss ts)

all_read : (l : List SourceInfo) (ss : Streams) → length ss ≡ length (stream_widths l) →
    rows_given (λ i k. get_or ss (streams_before l i + k) []) 0 l ≡ length (concat ss)
all_read [] [] e = refl
all_read [] (x ∷ ss) e = absurd (omega arith)
all_read (s ∷ l) ss e =
    let n : ℕ = s.streams in
    let widths : List ℕ = tab n (λ k. s.width) in
    let long : length ss ≡ n + length (stream_widths l) = omega (arith, e, length-append widths (stream_widths l), length-tab n (λ k. s.width)) in
    let first : tab n (λ k. get_or ss (0 + k) []) ≡ take n ss =
    ap (tab n) (fun_ext (λ k. ap (λ (m : ℕ). get_or ss m []) (let z : 0 + k ≡ k = omega arith in z))) ∙ tab-take n ss (omega arith) in
    let others : rows_given (λ i k. get_or ss (streams_before (s ∷ l) i + k) []) 1 l ≡ length (concat (drop n ss)) =
    next_rows (λ i k. get_or ss (streams_before (s ∷ l) i + k) []) 0 l
    ∙ ap (λ (rows : ℕ → ℕ → List Row). rows_given rows 0 l) (fun_ext (λ i. fun_ext (λ k. moved n i k)))
    ∙ all_read l (drop n ss) (length-drop n ss ∙ omega arith) in
    ap₂ ◌+◌ (ap (λ (m : Streams). length (concat m)) first) others
    ∙ sym (ap (λ (m : Streams). length (concat m)) (sym (take-append-drop n ss)) ∙ concat_append (take n ss) (drop n ss))
  where
    moved : (n i k : ℕ) → get_or ss (n + streams_before l i + k) [] ≡ get_or (drop n ss) (streams_before l i + k) []
    moved n i k =
        let z : n + streams_before l i + k ≡ n + (streams_before l i + k) = omega arith in
        ap (λ (m : ℕ). get_or ss m []) z ∙ sym (get_or-drop n ss (streams_before l i + k) [])

pub none_lost_of_bytes : (f : Plan) (s bytes : List ℕ) → well_formed f ≡ true → simple_plan f ≡ true →
    length (concat (delivered f (rows_in f s) bytes)) ≡ rows_together s 0 (stream_widths (sources_of f []))
none_lost_of_bytes f s bytes w e =
    none_lost f (rows_in f s) bytes w e ∙ all_read (sources_of f []) (source_streams f s) (length_streams s 0 (stream_widths (sources_of f [])))

-- and of what a dry run writes
pub writes_all : (f : Plan) (s bytes : List ℕ) (room : ℕ) (out : List ℕ) → well_formed f ≡ true → simple_plan f ≡ true → answer f s bytes room ≡ written out →
    (ss : Streams) × (out ≡ streams_bytes ss) × (length (concat ss) ≡ rows_together s 0 (stream_widths (sources_of f [])))
writes_all f s bytes room out w e a =
    let r = writes_run f s bytes room out w a in (
      r.0,
      r.1,
      run_count f (rows_in f s) r.2 r.0 (formed f w (simple_steps f e)) e r.3 r.4
          ∙ all_read (sources_of f []) (source_streams f s) (length_streams s 0 (stream_widths (sources_of f []))),
    )
