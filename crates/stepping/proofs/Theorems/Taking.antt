-- One step, backwards, at the inputs: the row that was taken is put back in front of what still comes. `restored`: what `Took` says of it holds.
use Rattle.std.specs.Prelude.{◌≡◌, refl, Bool, true, false, cond, not, ◌&&◌, ◌||◌, List, [], ◌∷◌, ◌++◌, map, ℕ, zero, suc, ◌+◌, ◌-◌, ◌<◌, eqb, ltb, length}
use Rattle.std.proofs.Common.{sym, ap, ap₂, ◌∙◌, subst, append-nil, arith, eqb-true, eq-eqb, ltb-true, ltb-false, lt-ltb}
use Rattle.row_order.specs.Iso.{Row, Key}
use Rattle.row_order.specs.RowLists.{le, Rel, Sorted}
use Rattle.row_order.proofs.Order.{no_bool}
use Rattle.row_order.specs.Lists.{sum, concat, Same, All, all_nil, all_cons, tab}
use Rattle.row_order.specs.ListLaws.{sum_append, all_head, all_tail, all_map, all_append}
use Rattle.plan.specs.Forest.{Forest, none, tree, roots}
use Rattle.plan.specs.Op.{Op, Plan}
use Rattle.semantics.specs.Facts.{Facts, facts_op, facts}
use Rattle.semantics.specs.Properties.{Cut, cuts, any_of}
use Rattle.semantics.specs.Runs.{Streams, Each, each_nil, each_cons}
use Rattle.semantics.proofs.Theorems.Common.Bools.{or_false}
use Rattle.stepping.specs.Outlets.{Placed, Outlet, on, tally, inputs}
use Rattle.stepping.specs.Moves.{Picked, nobody, picked, least, Taken, nothing_taken, taken, left, beside, take_from, take_any, way, reach, live, opens}
use Rattle.stepping.specs.Coming.{cut_from, joined, Coming, Ahead, ahead_none, ahead_tree}
use Rattle.stepping.proofs.Theorems.Popping.{Popped, pop_here, pop_there, joined_same, joined_length}
use Rattle.stepping.proofs.Theorems.Picking.{Best, IsLeast, least_is, removed_other, removed-sum, removed-first, on_all}
use Rattle.stepping.proofs.Theorems.Thinning.{Sub, sub_append, removed_sub, each_sub, Thinner, thin_tree, thin_refl}
use Rattle.stepping.proofs.Theorems.Formed.{Formed, Steppable, steppable-none, steppable-tree, ahead_roots}
use Rattle.stepping.proofs.Theorems.Closed.{Quiet, made_quiet, fronts, fronts-live}

-- ---- one stream differs
pub data At (Q : List Row → List Row → Type 0) : ℕ → Streams → Streams → Type 0 where
  at_here : {l m : List Row} {ss : Streams} → Q l m → At Q 0 (l ∷ ss) (m ∷ ss)
  at_there : {i : ℕ} {l : List Row} {ss ts : Streams} → At Q i ss ts → At Q (suc i) (l ∷ ss) (l ∷ ts)

at_behind : {Q : List Row → List Row → Type 0} {i : ℕ} {ss ts : Streams} (us : Streams) → At Q i ss ts → At Q i (ss ++ us) (ts ++ us)
at_behind us (at_here q) = at_here q
at_behind us (at_there h) = at_there (at_behind us h)

at_front : {Q : List Row → List Row → Type 0} (i j : ℕ) {ss ts : Streams} (us : Streams) → i ≡ length us + j → At Q j ss ts → At Q i (us ++ ss) (us ++ ts)
at_front {Q} i j {ss} {ts} [] e h = subst (λ (n : ℕ). At Q n ss ts) (omega arith) h
at_front zero j (l ∷ us) e h = absurd (omega arith)
at_front (suc i) j (l ∷ us) e h = at_there (at_front i j us (omega arith) h)

-- b: no further row comes; w, v: what waits on each stream, with the row and without it
joined_at : (k : Cut) (Q : List Row → List Row → Type 0) (b : Bool) (w v : ℕ → List Row) (t : ℕ → ℕ) (i : ℕ) (raw : Streams) → i < length raw →
    (b ≡ true → All (λ l. l ≡ []) raw) → ((l : List Row) → (b ≡ true → l ≡ []) → Q (w i ++ l) (v i ++ l)) →
    ((n : ℕ) → (n ≡ i → ⊥) → w n ≡ v n) → At Q i (joined k w t raw) (joined k v t raw)
joined_at k Q b w v t i [] h z q other = absurd (omega arith)
joined_at k Q b w v t zero (l ∷ raw) h z q other =
    subst (λ (ss : Streams). At Q 0 ((w zero ++ cut_from k (t zero) l) ∷ joined k (λ n. w (suc n)) (λ n. t (suc n)) raw) ((v zero ++ cut_from k (t zero) l) ∷ ss))
    (joined_same k (λ n. w (suc n)) (λ n. v (suc n)) (λ n. t (suc n)) (λ n. t (suc n)) (λ n. other (suc n) (λ e. omega arith)) (λ n. refl) raw)
    (at_here (q (cut_from k (t zero) l) (λ e. ap (cut_from k (t zero)) (all_head (z e)))))
joined_at k Q b w v t (suc i) (l ∷ raw) h z q other =
    subst (λ (m : List Row). At Q (suc i) ((w zero ++ cut_from k (t zero) l) ∷ joined k (λ n. w (suc n)) (λ n. t (suc n)) raw)
    ((m ++ cut_from k (t zero) l) ∷ joined k (λ n. v (suc n)) (λ n. t (suc n)) raw)) (other zero (λ e. omega arith))
    (at_there (joined_at k Q b (λ n. w (suc n)) (λ n. v (suc n)) (λ n. t (suc n)) i raw (omega arith) (λ e. all_tail (z e)) q
    (λ n e. other (suc n) (λ f. e (omega arith)))))

joined_sub : (k : Cut) (w v : ℕ → List Row) (t : ℕ → ℕ) (raw : Streams) → ((n : ℕ) → Sub (v n) (w n)) → Each Sub (joined k v t raw) (joined k w t raw)
joined_sub k w v t [] h = each_nil
joined_sub k w v t (l ∷ raw) h =
    each_cons (sub_append (cut_from k (t zero) l) (h zero)) (joined_sub k (λ n. w (suc n)) (λ n. v (suc n)) (λ n. t (suc n)) raw (λ n. h (suc n)))

-- ---- the outlets below, with the row
pub record Restored (c : Plan) (sc : Forest Outlet) (R : Streams → Streams → Type 0) (out' : Forest Streams) : Type 0 where
  pub out : Forest Streams
  pub ahead : Ahead c sc out
  pub that : R (concat (roots out)) (concat (roots out'))
  pub thin : Thinner out' out

abbrev pub Restores : Plan → Forest Outlet → (Row → Streams → Streams → Type 0) → Taken → Type 0
Restores c sc R nothing_taken = Unit {0}
Restores c sc R (taken x sc') = (cs' : Forest Streams) → Ahead c sc' cs' → Restored c sc (R x) cs'

any_append : (bs cs : List Bool) → any_of (bs ++ cs) ≡ false → (any_of bs ≡ false) × (any_of cs ≡ false)
any_append [] cs e = (refl, e)
any_append (true ∷ bs) cs e = no_bool (sym e)
any_append (false ∷ bs) cs e = any_append bs cs e

all_quiet : {bs : List Bool} {ss : Streams} → Each Quiet bs ss → any_of bs ≡ false → All (λ l. l ≡ []) ss
all_quiet each_nil e = all_nil
all_quiet (each_cons {x = b} {l = bs} q h) e = all_cons (q (or_false b (any_of bs) e).0) (all_quiet h (or_false b (any_of bs) e).1)

-- where no stream of a node is open, its rule makes no further row
raw_quiet : {o : Op} {c : Plan} {sc : Forest Outlet} {cs : Forest Streams} {d : Outlet} {s : Streams} → Formed o (length (roots c)) → Steppable c →
    (a : Ahead c sc cs) → (h : Coming o (facts c) (roots cs) d s) →
    any_of (reach (way o) (live (concat (opens c sc)) (inputs (facts c) (roots sc)))) ≡ false → All (λ l. l ≡ []) h.raw
raw_quiet {o} {c} {sc} {cs} n s a h e =
    all_quiet (made_quiet o (facts c) (roots cs) (live (concat (opens c sc)) (inputs (facts c) (roots sc))) h.raw
    (subst (Formed o) (sym (ahead_roots a)) n) h.many (fronts-live (fronts s a)) h.made) e

-- Q of what comes on the stream of the row, with the row and without it; l: what comes behind the rows that wait
abbrev Says : List Key → (Row → List Row → List Row → Type 0) → Bool → Type 0
Says ks Q b = (i : ℕ) (x : Placed) (w v : List Placed) (l : List Row) → Best ks (λ s. eqb s i) w x v → (b ≡ true → l ≡ []) → Q x.row (on i w ++ l) (on i v ++ l)

module _ (ks : List Key) (Q : Row → List Row → List Row → Type 0) (b : Bool) (says : Says ks Q b) where
  pub from_restores : (c : Plan) (sc : Forest Outlet) (i : ℕ) → Steppable c → (b ≡ true → any_of (concat (opens c sc)) ≡ false) →
      Restores c sc (λ x. At (Q x) i) (take_from ks (facts c) i sc)
  from_restores none sc i s z = tt
  from_restores (tree o c r) none i s z = tt
  from_restores (tree o c r) (tree d sc sr) i (steppable-tree n s t) z =
      go (ltb i (facts_op o (facts c)).streams) refl
      (from_restores r sr (i - (facts_op o (facts c)).streams) t (λ e. (any_append flags (concat (opens r sr)) (z e)).1))
    where
      flags : List Bool
      flags = reach (way o) (live (concat (opens c sc)) (inputs (facts c) (roots sc)))

      back : ltb i (facts_op o (facts c)).streams ≡ true → (x : Placed) (m : List Placed) → Best ks (λ s. eqb s i) d.waiting x m →
          {out' : Forest Streams} → Ahead (tree o c r) (tree (record { waiting = m; came = d.came }) sc sr) out' →
          Restored (tree o c r) (tree d sc sr) (At (Q x.row) i) out'
      back e x m l (ahead_tree {s = s'} {cs = cs} {rs = rs} h a k) =
          record {
            out = tree (joined (cuts o) (λ j. on j d.waiting) (λ j. tally j d.came) h.raw) cs rs;
            ahead = ahead_tree (record { raw = h.raw; made = h.made; many = h.many; is = refl }) a k;
            that = at_behind (concat (roots rs))
                (subst (At (Q x.row) i (joined (cuts o) (λ j. on j d.waiting) (λ j. tally j d.came) h.raw)) (sym h.is)
                (joined_at (cuts o) (Q x.row) b (λ j. on j d.waiting) (λ j. on j m) (λ j. tally j d.came) i h.raw
                (omega (arith, h.many, ltb-true i (facts_op o (facts c)).streams e))
                (λ f. raw_quiet n s a h (any_append flags (concat (opens r sr)) (z f)).0)
                (λ f g. says i x d.waiting m f l g)
                (λ j f. removed_other l.removed j (λ g. f (g ∙ eqb-true x.stream i l.mine)))));
            thin = thin_tree (subst (λ (t : Streams). Each Sub t (joined (cuts o) (λ j. on j d.waiting) (λ j. tally j d.came) h.raw)) (sym h.is)
                (joined_sub (cuts o) (λ j. on j d.waiting) (λ j. on j m) (λ j. tally j d.came) h.raw (λ j. removed_sub l.removed j)))
                (thin_refl cs) (thin_refl rs);
          }

      here : ltb i (facts_op o (facts c)).streams ≡ true → (q : Picked) → IsLeast ks (λ s. eqb s i) d.waiting q →
          Restores (tree o c r) (tree d sc sr) (λ x. At (Q x) i) (left d sc sr q)
      here e nobody l = tt
      here e (picked x m) l = λ out' a. back e x m l a

      next : ltb i (facts_op o (facts c)).streams ≡ false → (x : Row) (sr' : Forest Outlet) →
          Restores r sr (λ y. At (Q y) (i - (facts_op o (facts c)).streams)) (taken x sr') → {out' : Forest Streams} → Ahead (tree o c r) (tree d sc sr') out' →
          Restored (tree o c r) (tree d sc sr) (At (Q x) i) out'
      next e x sr' f (ahead_tree {s = s'} {cs = cs} {rs = rs} h a k) =
          let g = f rs k in
          record {
            out = tree s' cs g.out;
            ahead = ahead_tree h a g.ahead;
            that = at_front i (i - (facts_op o (facts c)).streams) s'
                (omega (
                  arith,
                  ap length h.is,
                  joined_length (cuts o) (λ j. on j d.waiting) (λ j. tally j d.came) h.raw,
                  h.many,
                  ltb-false i (facts_op o (facts c)).streams e,
                )) g.that;
            thin = thin_tree (each_sub s') (thin_refl cs) g.thin;
          }

      there : ltb i (facts_op o (facts c)).streams ≡ false → (q : Taken) → Restores r sr (λ x. At (Q x) (i - (facts_op o (facts c)).streams)) q →
          Restores (tree o c r) (tree d sc sr) (λ x. At (Q x) i) (beside d sc q)
      there e nothing_taken f = tt
      there e (taken x sr') f = λ out' a. next e x sr' f a

      go : (p : Bool) → ltb i (facts_op o (facts c)).streams ≡ p → Restores r sr (λ x. At (Q x) (i - (facts_op o (facts c)).streams))
          (take_from ks (facts r) (i - (facts_op o (facts c)).streams) sr) →
          Restores (tree o c r) (tree d sc sr) (λ x. At (Q x) i) (cond p (left d sc sr (least ks (λ s. eqb s i) d.waiting))
          (beside d sc (take_from ks (facts r) (i - (facts_op o (facts c)).streams) sr)))
      go true e f = here e (least ks (λ s. eqb s i) d.waiting) (least_is ks (λ s. eqb s i) d.waiting)
      go false e f = there e (take_from ks (facts r) (i - (facts_op o (facts c)).streams) sr) f

-- ---- the first by keys of all streams
at_sum : {x : Row} {i : ℕ} {ss ts : Streams} → At (λ l m. Same l (x ∷ m)) i ss ts → (w : Row → ℕ) → sum w (concat ss) ≡ w x + sum w (concat ts)
at_sum (at_here {l = l} {m = m} {ss = ss} q) w = omega (arith, q.sums w, sum_append w l (concat ss), sum_append w m (concat ss))
at_sum (at_there {l = l} {ss = ss} {ts = ts} h) w = omega (arith, at_sum h w, sum_append w l (concat ss), sum_append w l (concat ts))

joined_all : {P : Row → Type 0} (k : Cut) (w : ℕ → List Row) (t : ℕ → ℕ) (raw : Streams) → All (λ l. l ≡ []) raw → ((i : ℕ) → i < length raw → All P (w i)) →
    All P (concat (joined k w t raw))
joined_all k w t [] z h = all_nil
joined_all {P} k w t (l ∷ raw) z h =
    all_append (all_append (h zero (omega arith)) (subst (All P) (sym (ap (cut_from k (t zero)) (all_head z))) all_nil))
    (joined_all k (λ n. w (suc n)) (λ n. t (suc n)) raw (all_tail z) (λ i q. h (suc i) (omega arith)))

-- sums of what waits on the row's stream
best_sum : {ks : List Key} {p : ℕ → Bool} (x : Placed) (u v : List Placed) (l : List Row) → Best ks p u x v → Same (on x.stream u ++ l) (x.row ∷ (on x.stream v ++ l))
best_sum x u v l b =
    record { sums = λ w. omega (arith, removed-sum b.removed w, sum_append w (on x.stream u) l, sum_append w (on x.stream v) l) }

-- by all of it, x is taken out of ins
abbrev Whole : List Key → Row → Streams → Streams → Type 0
Whole ks x ins ins' = Same (concat ins) (x ∷ concat ins') × All (Rel ks x) (concat ins')

no_roots : (l : List Streams) → length l ≡ 0 → l ≡ []
no_roots [] e = refl
no_roots (s ∷ l) e = absurd (omega arith)

pub any_restores : (ks : List Key) (c : Plan) (sc : Forest Outlet) → Steppable c → any_of (concat (opens c sc)) ≡ false → length (roots c) ≡ 1 →
    Restores c sc (Whole ks) (take_any ks (facts c) sc)
any_restores ks none sc s z e = tt
any_restores ks (tree o c r) none s z e = tt
any_restores ks (tree o c r) (tree d sc sr) (steppable-tree n s t) z e = here (least ks p d.waiting) (least_is ks p d.waiting)
  where
    p : ℕ → Bool
    p j = ltb j (facts_op o (facts c)).streams

    flags : List Bool
    flags = reach (way o) (live (concat (opens c sc)) (inputs (facts c) (roots sc)))

    alone : (x : Row) (rs : Forest Streams) (u v : Streams) → length (roots rs) ≡ 0 → Whole ks x u v → Whole ks x (u ++ concat (roots rs)) (v ++ concat (roots rs))
    alone x rs u v q w = subst (λ (l : Streams). Whole ks x (u ++ l) (v ++ l)) (sym (ap concat (no_roots (roots rs) q)))
        (subst (λ (l : Streams). Whole ks x l (v ++ [])) (sym (append-nil u)) (subst (Whole ks x u) (sym (append-nil v)) w))

    whole : (x : Placed) (m : List Placed) (raw : Streams) → Best ks p d.waiting x m → length raw ≡ (facts_op o (facts c)).streams → All (λ l. l ≡ []) raw →
        Whole ks x.row (joined (cuts o) (λ j. on j d.waiting) (λ j. tally j d.came) raw) (joined (cuts o) (λ j. on j m) (λ j. tally j d.came) raw)
    whole x m raw b many q =
        let h : x.stream < (facts_op o (facts c)).streams = ltb-true x.stream (facts_op o (facts c)).streams b.mine in (
          record {
            sums = at_sum (joined_at (cuts o) (λ l l'. Same l (x.row ∷ l')) false (λ j. on j d.waiting) (λ j. on j m) (λ j. tally j d.came) x.stream raw
                (omega arith) (λ f. no_bool f) (λ l f. best_sum x d.waiting m l b) (λ j f. removed_other b.removed j f));
          },
          joined_all (cuts o) (λ j. on j m) (λ j. tally j d.came) raw q
              (λ i k. on_all i (all_map (λ y f g. f (lt-ltb y.stream (facts_op o (facts c)).streams (omega (arith, eqb-true y.stream i g)))) b.first)),
        )

    back : (x : Placed) (m : List Placed) → Best ks p d.waiting x m → {out' : Forest Streams} →
        Ahead (tree o c r) (tree (record { waiting = m; came = d.came }) sc sr) out' → Restored (tree o c r) (tree d sc sr) (Whole ks x.row) out'
    back x m b (ahead_tree {s = s'} {cs = cs} {rs = rs} h a k) =
        let u : Streams = joined (cuts o) (λ j. on j d.waiting) (λ j. tally j d.came) h.raw in
        record {
          out = tree u cs rs;
          ahead = ahead_tree (record { raw = h.raw; made = h.made; many = h.many; is = refl }) a k;
          that = alone x.row rs u s' (ahead_roots k ∙ omega arith)
              (subst (Whole ks x.row u) (sym h.is) (whole x m h.raw b h.many (raw_quiet n s a h (any_append flags (concat (opens r sr)) z).0)));
          thin = thin_tree (subst (λ (t : Streams). Each Sub t u) (sym h.is)
              (joined_sub (cuts o) (λ j. on j d.waiting) (λ j. on j m) (λ j. tally j d.came) h.raw (λ j. removed_sub b.removed j)))
              (thin_refl cs) (thin_refl rs);
        }

    here : (q : Picked) → IsLeast ks p d.waiting q → Restores (tree o c r) (tree d sc sr) (Whole ks) (left d sc sr q)
    here nobody l = tt
    here (picked x m) l = λ out' a. back x m l a
