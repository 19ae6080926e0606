-- Every stepping ends (02, P3: each step moves one row through one operator). However its steps are chosen, there are at most the sources' rows
-- times the operators of them: `every_stepping_ends`, and so of the caller's list: `steps_taken`, `stepping_short`. The last state is the finished one:
-- `last_state`. That until then some operator can move, and that then no row waits: NothingWaits.
-- The bound is `work` of the first state: each source's rows, as often as there are operators above it (`start-work`).
use Rattle.std.specs.Prelude.{◌≡◌, refl, Bool, true, false, cond, ◌⊎◌, List, [], ◌∷◌, ◌++◌, map, ℕ, zero, suc, ◌+◌, ◌*◌, ◌-◌, ◌≤◌, eqb, length, get_or}
use Rattle.std.proofs.Common.{sym, ap, ap₂, ◌∙◌, subst, inl, inr, mul-add, mul_comm, mul-le-mul_right, arith, length-append}
use mathlib.Core.List.Memᴰ.{head as here}
use mathlib.Core.List.Memᴰ.{tail as there}
use mathlib.Core.List.{Memᴰ as Mem}
use Rattle.std.proofs.lemmas.List.{length-map}
use Rattle.row_order.specs.Iso.{Row}
use Rattle.row_order.specs.Lists.{concat, All, all_nil, all_cons, tab}
use Rattle.row_order.specs.ListLaws.{all_map, all_zip, all_left, all_right, all_concat, tabulate, lookup}
use Rattle.plan.specs.Forest.{Forest, none, tree, roots, size}
use Rattle.plan.specs.Op.{SourceInfo, Op, source, filter, projection, union, repartition, coalesce, sort_op, merge_op, global_limit, local_limit, sort_merge_join, hash_join, output_requirement, partial_sort, aggregate, Plan}
use Rattle.plan.specs.Numbers.{code}
use Rattle.plan.specs.WellFormed.{well_formed}
use Rattle.semantics.specs.Runs.{Streams, next_s, past}
use Rattle.semantics.specs.SourceRows.{own as source_of, sources_of}
use Rattle.stepping.specs.Outlets.{place, Outlet, spread}
use Rattle.stepping.specs.Moves.{States, moves}
use Rattle.stepping.specs.Stepping.{chosen, given, start, after, states, work, finished, stepping, can_step}
use Rattle.stepping.proofs.Theorems.Formed.{Formed, Steppable, steppable-none, steppable-tree}
use Rattle.stepping.proofs.Theorems.Lessening.{Shaped, start-shaped, Some, Less, moves_lessen}
use Rattle.stepping.proofs.Theorems.Progress.{chosen_some}
use Rattle.stepping.proofs.Theorems.Delivered.{formed}
use Rattle.stepping.specs.StepCount.{waiting, rows_given, operators}

pub few_steps : (h k : ℕ) (st : Forest Outlet) → k + size st ≤ suc h → work k st ≤ h * waiting st
few_steps h k none e = omega arith
few_steps h k (tree d c r) e =
    omega (
      arith,
      mul-le-mul_right {m = k} {n = h} (length d.waiting) (omega arith),
      few_steps h (suc k) c (omega arith),
      few_steps h k r (omega arith),
      mul-add h (length d.waiting) (waiting c + waiting r),
      mul-add h (waiting c) (waiting r),
    )

-- ---- the first state: the rows of each source, times the operators above it; k: those above the roots
abbrev own : (ℕ → ℕ → List Row) → ℕ → Op → ℕ
own rows i o = length (given rows i o)

abbrev pub carried : (ℕ → ℕ → List Row) → ℕ → ℕ → Plan → ℕ
carried rows k i none = 0
carried rows k i (tree o c r) = k * own rows i o + (carried rows (suc k) (next_s o i) c + carried rows k (past next_s c (next_s o i)) r)

pub start-work : (rows : ℕ → ℕ → List Row) (k i : ℕ) (f : Plan) → work k (start rows i f) ≡ carried rows k i f
start-work rows k i none = refl
start-work rows k i (tree o c r) = ap₂ (λ (a b : ℕ). k * own rows i o + (a + b)) (start-work rows (suc k) (next_s o i) c)
    (start-work rows k (past next_s c (next_s o i)) r)

-- a source's rows are those of all its streams
pub spread-length : (k : ℕ) (ss : Streams) → length (spread k ss) ≡ length (concat ss)
spread-length k [] = refl
spread-length k (l ∷ ss) =
    length-append (map (place k) l) (spread (suc k) ss) ∙ ap₂ ◌+◌ (length-map l (place k)) (spread-length (suc k) ss) ∙ sym (length-append l (concat ss))

given_count : (rows : ℕ → ℕ → List Row) (i : ℕ) (o : Op) (l : List SourceInfo) →
    rows_given rows i (source_of o l) ≡ length (given rows i o) + rows_given rows (next_s o i) l
given_count rows i (source s) l = ap (λ (n : ℕ). n + rows_given rows (suc i) l) (sym (spread-length 0 (tab s.streams (rows i))))
given_count rows i filter l = omega arith
given_count rows i (projection cols) l = omega arith
given_count rows i union l = omega arith
given_count rows i (repartition p n h ks) l = omega arith
given_count rows i (coalesce f) l = omega arith
given_count rows i (sort_op p ks f) l = omega arith
given_count rows i (merge_op ks f) l = omega arith
given_count rows i (global_limit s f note) l = omega arith
given_count rows i (local_limit f note) l = omega arith
given_count rows i (sort_merge_join t on) l = omega arith
given_count rows i (hash_join t on) l = omega arith
given_count rows i (output_requirement ks d f) l = omega arith
given_count rows i (partial_sort p ks n f) l = omega arith
given_count rows i (aggregate ks n) l = omega arith

-- they are the rows that wait in the first state
start_count : (rows : ℕ → ℕ → List Row) (i : ℕ) (f : Plan) (l : List SourceInfo) →
    rows_given rows i (sources_of f l) ≡ waiting (start rows i f) + rows_given rows (past next_s f i) l
start_count rows i none l = omega arith
start_count rows i (tree o c r) l =
    omega (
      arith,
      given_count rows i o (sources_of c (sources_of r l)),
      start_count rows (next_s o i) c (sources_of r l),
      start_count rows (past next_s c (next_s o i)) r l,
    )

pub all_wait : (rows : ℕ → ℕ → List Row) (f : Plan) → waiting (start rows 0 f) ≡ rows_given rows 0 (sources_of f [])
all_wait rows f = omega (arith, start_count rows 0 f [])

-- a source has no node below it
source_or_not : (o : Op) (n : ℕ) → Formed o n → (n ≡ 0) ⊎ (eqb (code o) 1 ≡ false)
source_or_not (source s) n h = inl h
source_or_not filter n h = inr refl
source_or_not (projection cols) n h = inr refl
source_or_not union n h = inr refl
source_or_not (repartition p m b ks) n h = inr refl
source_or_not (coalesce f) n h = inr refl
source_or_not (sort_op p ks f) n h = inr refl
source_or_not (merge_op ks f) n h = inr refl
source_or_not (global_limit s f note) n h = inr refl
source_or_not (local_limit f note) n h = inr refl
source_or_not (sort_merge_join t on) n h = absurd h
source_or_not (hash_join t on) n h = absurd h
source_or_not (output_requirement ks d f) n h = inr refl
source_or_not (partial_sort p ks m f) n h = inr refl
source_or_not (aggregate ks m) n h = absurd h

nothing_below : (rows : ℕ → ℕ → List Row) (k i : ℕ) (c : Plan) → length (roots c) ≡ 0 → work k (start rows i c) ≡ 0
nothing_below rows k i none e = refl
nothing_below rows k i (tree o c r) e = absurd (omega arith)

-- m, a, b: rows at a node, below it and beside it; x, y: the work for the latter two
times : (h k m a b x y : ℕ) → k ≤ h → x ≤ h * a → y ≤ h * b → k * m + (x + y) ≤ h * (m + (a + b))
times h k m a b x y p q r = omega (arith, mul-le-mul_right {m = k} {n = h} m p, mul-add h m (a + b), mul-add h a b)

few_work : (rows : ℕ → ℕ → List Row) (k i : ℕ) {f : Plan} → Steppable f → work k (start rows i f) ≤ (k + operators f) * waiting (start rows i f)
few_work rows k i steppable-none = omega arith
few_work rows k i (steppable-tree {o = o} {c = c} {r = r} n s t) =
    times (k + operators (tree o c r)) k (own rows i o) a b (work (suc k) (start rows (next_s o i) c)) (work k (start rows (past next_s c (next_s o i)) r))
    (omega arith) (below (source_or_not o (length (roots c)) n) (few_work rows (suc k) (next_s o i) s))
    (omega (
      arith,
      few_work rows k (past next_s c (next_s o i)) t,
      mul-le-mul_right {m = k + operators r} {n = k + operators (tree o c r)} b (omega arith),
    ))
  where
    a : ℕ
    a = waiting (start rows (next_s o i) c)

    b : ℕ
    b = waiting (start rows (past next_s c (next_s o i)) r)

    below : (length (roots c) ≡ 0) ⊎ (eqb (code o) 1 ≡ false) →
        work (suc k) (start rows (next_s o i) c) ≤ (suc k + operators c) * waiting (start rows (next_s o i) c) →
        work (suc k) (start rows (next_s o i) c) ≤ (k + operators (tree o c r)) * waiting (start rows (next_s o i) c)
    below (inl e) p = omega (arith, nothing_below rows (suc k) (next_s o i) c e)
    below (inr e) p =
        let one : cond {A = ℕ} (eqb (code o) 1) 0 1 ≡ 1 = ap (λ (t : Bool). cond {A = ℕ} t 0 1) e in
        omega (
          arith,
          p,
          mul-le-mul_right {m = suc k + operators c} {n = k + operators (tree o c r)} (waiting (start rows (next_s o i) c)) (omega (arith, one)),
        )

-- The work of the first state
pub rows_times-operators : (f : Plan) (rows : ℕ → ℕ → List Row) → well_formed f ≡ true → can_step f ≡ true →
    work 0 (start rows 0 f) ≤ rows_given rows 0 (sources_of f []) * operators f
rows_times-operators f rows e j =
    let z : 0 + operators f ≡ operators f = omega arith in
    let h : work 0 (start rows 0 f) ≤ operators f * waiting (start rows 0 f) =
    subst (λ (n : ℕ). work 0 (start rows 0 f) ≤ n * waiting (start rows 0 f)) z (few_work rows 0 0 (formed f e j)) in
    subst (λ (n : ℕ). work 0 (start rows 0 f) ≤ n) (mul_comm (operators f) (waiting (start rows 0 f)) ∙ ap (λ (n : ℕ). n * operators f) (all_wait rows f)) h

-- ---- any steps: n of them, each one of the moves that there are
pub data Steps (f : Plan) : ℕ → Forest Outlet → Forest Outlet → Type 0 where
  no_step : {st : Forest Outlet} → Steps f 0 st st
  step : {n : ℕ} {st st' st'' : Forest Outlet} → Mem st' (concat (concat (moves f st))) → Steps f n st' st'' → Steps f (suc n) st st''

each_less : {f : Plan} {st : Forest Outlet} → Steppable f → Shaped f st → (x : Forest Outlet) → Mem x (concat (concat (moves f st))) → Less f st x
each_less {f} {st} s a = lookup (all_concat (concat (moves f st)) (all_concat (moves f st) (all_map (λ l h. all_map (λ m k. k.1) h.1) (moves_lessen s a))))

steps_less : {f : Plan} {n : ℕ} {st st' : Forest Outlet} → Steppable f → Shaped f st → Steps f n st st' → n ≤ work 0 st
steps_less s a no_step = omega arith
steps_less s a (step {st' = x} m h) = let l = each_less s a x m in omega (arith, steps_less s l.shaped h, l.less 0)

-- "at most rows times operators steps", whoever chooses them
pub every_stepping_ends : (f : Plan) (rows : ℕ → ℕ → List Row) → well_formed f ≡ true → can_step f ≡ true → (n : ℕ) (st : Forest Outlet) →
    Steps f n (start rows 0 f) st → n ≤ rows_given rows 0 (sources_of f []) * operators f
every_stepping_ends f rows e j n st h = omega (arith, rows_times-operators f rows e j, steps_less (formed f e j) (start-shaped rows 0 f) h)

-- ---- the steps that a list of bytes chooses
in_left : {A : Type 0} {x : A} {l : List A} (m : List A) → Mem x l → Mem x (l ++ m)
in_left m (here e) = here e
in_left m (there h) = there (in_left m h)

in_right : {A : Type 0} {x : A} (l : List A) {m : List A} → Mem x m → Mem x (l ++ m)
in_right [] h = h
in_right (y ∷ l) h = there (in_right l h)

in_concat : {A : Type 0} (ls : List (List A)) → All (All (λ x. Mem x (concat ls))) ls
in_concat [] = all_nil
in_concat (l ∷ ls) =
    all_cons (tabulate l (λ x h. in_left (concat ls) h)) (all_map (λ m h. all_map (λ x k. in_right l k) h) (in_concat ls))

of_concat : {A : Type 0} {P : A → Type 0} (ls : List (List A)) → All P (concat ls) → All (All P) ls
of_concat [] h = all_nil
of_concat (l ∷ ls) h = all_cons (all_left l (concat ls) h) (of_concat ls (all_right l (concat ls) h))

-- where there is a move, the one chosen is among them
chosen_among : {f : Plan} {st : Forest Outlet} (bytes : List ℕ) (i : ℕ) (ms : List (List States)) → 1 ≤ length ms → All (Some (Some (Less f st))) ms →
    Mem (chosen bytes i st ms).value (concat (concat ms))
chosen_among {f} {st} bytes i ms n h =
    chosen_some {P = λ x. Mem x (concat (concat ms))} bytes i st ms
    (n, all_map (λ l p. (p.0.0, all_map (λ m q. (q.0.0, q.1)) (all_zip p.0.1 p.1))) (all_zip h (of_concat ms (in_concat (concat ms)))))

bytes_steps : (f : Plan) (bytes : List ℕ) (n i : ℕ) (st : Forest Outlet) → Steppable f → Shaped f st → (k : ℕ) × Steps f k st (after f bytes n i st)
bytes_steps f bytes zero i st s a = (0, no_step)
bytes_steps f bytes (suc n) i st s a = go (moves f st) refl (moves_lessen s a) (λ j x b. bytes_steps f bytes n j x s b)
  where
    go : (ms : List (List States)) → moves f st ≡ ms → All (Some (Some (Less f st))) ms →
        ((j : ℕ) (x : Forest Outlet) → Shaped f x → (k : ℕ) × Steps f k x (after f bytes n j x)) →
        (k : ℕ) × Steps f k st (after f bytes n (chosen bytes i st (moves f st)).next (chosen bytes i st (moves f st)).value)
    go [] e l ih =
        subst (λ (q : List (List States)). (k : ℕ) × Steps f k st (after f bytes n (chosen bytes i st q).next (chosen bytes i st q).value)) (sym e)
        (ih (chosen bytes i st []).next st a)
    go (m ∷ ms) e l ih =
        let c : Mem (chosen bytes i st (m ∷ ms)).value (concat (concat (m ∷ ms))) = chosen_among bytes i (m ∷ ms) (omega arith) l in
        let z : Less f st (chosen bytes i st (m ∷ ms)).value = chosen_some {P = Less f st} bytes i st (m ∷ ms) (omega arith, l) in
        let r = ih (chosen bytes i st (m ∷ ms)).next (chosen bytes i st (m ∷ ms)).value z.shaped in
        subst (λ (q : List (List States)). (k : ℕ) × Steps f k st (after f bytes n (chosen bytes i st q).next (chosen bytes i st q).value)) (sym e)
        (suc r.0, step (subst (λ (q : List (List States)). Mem (chosen bytes i st (m ∷ ms)).value (concat (concat q))) (sym e) c) r.1)

-- The stepping of a list of bytes is such a row of steps, from the first state to the last
pub steps_taken : (f : Plan) (rows : ℕ → ℕ → List Row) (bytes : List ℕ) → well_formed f ≡ true → can_step f ≡ true →
    (n : ℕ) × Steps f n (start rows 0 f) (finished f rows bytes) × (n ≤ rows_given rows 0 (sources_of f []) * operators f)
steps_taken f rows bytes e j =
    let r = bytes_steps f bytes (work 0 (start rows 0 f)) 0 (start rows 0 f) (formed f e j) (start-shaped rows 0 f) in
    (r.0, r.1, every_stepping_ends f rows e j r.0 (finished f rows bytes) r.1)

length-states : (f : Plan) (bytes : List ℕ) (n i : ℕ) (st : Forest Outlet) → length (states f bytes n i st) ≡ suc n
length-states f bytes zero i st = refl
length-states f bytes (suc n) i st = let m = chosen bytes i st (moves f st) in ap suc (length-states f bytes n m.next m.value)

-- The states are one more than the steps
pub stepping_short : (f : Plan) (rows : ℕ → ℕ → List Row) (bytes : List ℕ) → well_formed f ≡ true → can_step f ≡ true →
    length (stepping f rows bytes) ≤ suc (rows_given rows 0 (sources_of f []) * operators f)
stepping_short f rows bytes e j =
    omega (arith, length-states f bytes (work 0 (start rows 0 f)) 0 (start rows 0 f), rows_times-operators f rows e j)

last_of : (f : Plan) (bytes : List ℕ) (n i : ℕ) (st other : Forest Outlet) → get_or (states f bytes n i st) n other ≡ after f bytes n i st
last_of f bytes zero i st other = refl
last_of f bytes (suc n) i st other = let m = chosen bytes i st (moves f st) in last_of f bytes n m.next m.value other

-- and the last is the finished one
pub last_state : (f : Plan) (rows : ℕ → ℕ → List Row) (bytes : List ℕ) (other : Forest Outlet) →
    get_or (stepping f rows bytes) (length (stepping f rows bytes) - 1) other ≡ finished f rows bytes
last_state f rows bytes other =
    let q : length (stepping f rows bytes) - 1 ≡ work 0 (start rows 0 f) = omega (arith, length-states f bytes (work 0 (start rows 0 f)) 0 (start rows 0 f)) in
    ap (λ (n : ℕ). get_or (stepping f rows bytes) n other) q ∙ last_of f bytes (work 0 (start rows 0 f)) 0 (start rows 0 f) other
