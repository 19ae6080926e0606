-- By manners: whatever choice of an input stream an operator has, the row that it takes can be put back, and `Took` says what it needs. `restored`.
use Rattle.std.specs.Prelude.{◌≡◌, refl, Bool, true, false, cond, not, ◌&&◌, ◌||◌, List, [], ◌∷◌, ◌++◌, map, ℕ, zero, suc, ◌+◌, ◌≤◌, eqb, length}
use Rattle.std.proofs.Common.{sym, ap, ap₂, ◌∙◌, subst, append-nil, arith, eqb-true}
use Rattle.row_order.specs.Iso.{Row, Key}
use Rattle.row_order.specs.RowLists.{le, Rel, Sorted}
use Rattle.row_order.proofs.Order.{le_refl, no_bool}
use Rattle.row_order.specs.Lists.{sum, concat, Same, All, all_nil, all_cons}
use Rattle.row_order.specs.ListLaws.{sum_append, all_head, all_tail, all_map, all_append, pw_head, pw_tail}
use Rattle.row_order.proofs.Sorting.{below}
use Rattle.plan.specs.Forest.{Forest, none, tree, roots}
use Rattle.plan.specs.Op.{Op, source, filter, projection, union, repartition, coalesce, sort_op, merge_op, global_limit, local_limit, sort_merge_join, hash_join, output_requirement, partial_sort, aggregate, Plan}
use Rattle.semantics.specs.Facts.{Facts, is_nil, counts, known_order, at0, facts}
use Rattle.semantics.specs.Properties.{any_of}
use Rattle.semantics.specs.Runs.{Streams}
use Rattle.semantics.proofs.Theorems.Common.Bools.{and_left, and_right}
use Rattle.stepping.specs.Outlets.{Placed, Outlet, on, inputs}
use Rattle.stepping.specs.Moves.{Manner, still, passing, merging, sorting, manner, Picked, nobody, picked, least, Taken, nothing_taken, taken, take_from, take_by, opens, with_rows, heads, of_picked, ready, once, choices}
use Rattle.stepping.specs.Coming.{Ahead}
use Rattle.stepping.proofs.Theorems.Popping.{Popped, pop_here, pop_there, popped_sum}
use Rattle.stepping.proofs.Theorems.Picking.{Best, IsLeast, least_is, removed_all, removed_at, removed-sum, removed-first, on_all}
use Rattle.stepping.proofs.Theorems.Formed.{Formed, Steppable}
use Rattle.stepping.proofs.Theorems.Closed.{Fronts, fronts_nil, fronts_cons, fronts}
use Rattle.stepping.proofs.Theorems.Rules.{Extracted, ext_here, ext_there, Took}
use Rattle.stepping.proofs.Theorems.Taking.{At, at_here, at_there, Restored, Restores, from_restores, any_restores}

restores_map : (R S : Row → Streams → Streams → Type 0) (c : Plan) (sc : Forest Outlet) →
    ((x : Row) (out : Forest Streams) (ts : Streams) → Ahead c sc out → R x (concat (roots out)) ts → S x (concat (roots out)) ts) → (q : Taken) →
    Restores c sc R q → Restores c sc S q
restores_map R S c sc f nothing_taken h = tt
restores_map R S c sc f (taken x sc') h = λ cs' a. let r = h cs' a in
    record { out = r.out; ahead = r.ahead; that = f x r.out (concat (roots cs')) r.ahead r.that; thin = r.thin }

-- ---- the first of a stream
at_popped : {x : Row} {i : ℕ} {ss ts : Streams} → At (λ l m. l ≡ x ∷ m) i ss ts → Popped x i ss ts
at_popped {x} (at_here {l = l} {m = m} {ss = ss} q) = subst (λ (a : List Row). Popped x 0 (a ∷ ss) (m ∷ ss)) (sym q) pop_here
at_popped (at_there h) = pop_there (at_popped h)

firsts : (c : Plan) (sc : Forest Outlet) (i : ℕ) → Steppable c → Restores c sc (λ x. Popped x i) (take_from [] (facts c) i sc)
firsts c sc i s = restores_map (λ x. At (λ l m. l ≡ x ∷ m) i) (λ x. Popped x i) c sc (λ x out ts a h. at_popped h) (take_from [] (facts c) i sc)
    (from_restores [] (λ x l m. l ≡ x ∷ m) false (λ i x w v l b f. ap (λ (t : List Row). t ++ l) (removed-first i b.removed b.mine)) c sc i s (λ e. no_bool e))

-- ---- the first by keys of a stream
at_extracted : {ks : List Key} {x : Row} {i : ℕ} {ss ts : Streams} → At (λ l m. Same l (x ∷ m) × All (Rel ks x) m) i ss ts → Extracted ks x i ss ts
at_extracted (at_here q) = ext_here q.0 q.1
at_extracted (at_there h) = ext_there (at_extracted h)

leasts : (ks : List Key) (c : Plan) (sc : Forest Outlet) (i : ℕ) → Steppable c → any_of (concat (opens c sc)) ≡ false →
    Restores c sc (λ x. Extracted ks x i) (take_from ks (facts c) i sc)
leasts ks c sc i s z = restores_map (λ x. At (λ l m. Same l (x ∷ m) × All (Rel ks x) m) i) (λ x. Extracted ks x i) c sc (λ x out ts a h. at_extracted h) (take_from ks (facts c) i sc)
    (from_restores ks (λ x l m. Same l (x ∷ m) × All (Rel ks x) m) true says c sc i s (λ e. z))
  where
    says : (i : ℕ) (x : Placed) (w v : List Placed) (l : List Row) → Best ks (λ s. eqb s i) w x v → (true ≡ true → l ≡ []) →
        Same (on i w ++ l) (x.row ∷ (on i v ++ l)) × All (Rel ks x.row) (on i v ++ l)
    says i x w v l b f = (
      record {
        sums = λ u. omega (
          arith,
          subst (λ (k : ℕ). sum u (on k w) ≡ u x.row + sum u (on k v)) (eqb-true x.stream i b.mine) (removed-sum b.removed u),
          sum_append u (on i w) l,
          sum_append u (on i v) l,
        );
      },
      all_append (on_all i b.first) (subst (All (Rel ks x.row)) (sym (f refl)) all_nil),
    )

-- ---- merges

-- a stream's first row, by its head's place
abbrev Heads : ℕ → Streams → Placed → Type 0
Heads n ts h = (n ≤ h.stream) × ((x : Row) (j : ℕ) (us : Streams) → Popped x j ts us → n + j ≡ h.stream → x ≡ h.row)

first_later : (n m : ℕ) {x : Row} {j : ℕ} {l : List Row} {ts us : Streams} → Popped x j (l ∷ ts) us → n + j ≡ m → suc n ≤ m → (y : Row) →
    ((z : Row) (i : ℕ) (vs : Streams) → Popped z i ts vs → suc n + i ≡ m → z ≡ y) → x ≡ y
first_later n m pop_here e h y f = absurd (omega arith)
first_later n m {x} (pop_there {i = i} {tt = vs} q) e h y f = f x i vs q (omega arith)

later : (n : ℕ) (l : List Row) (ts : Streams) (h : Placed) → Heads (suc n) ts h → Heads n (l ∷ ts) h
later n l ts h p = (omega (arith, p.0), λ x j us q e. first_later n h.stream q e p.0 h.row p.1)

first_here : (n : ℕ) {x y : Row} {j : ℕ} {l : List Row} {ts us : Streams} → Popped y j ((x ∷ l) ∷ ts) us → n + j ≡ n → y ≡ x
first_here n pop_here e = refl
first_here n (pop_there p) e = absurd (omega arith)

heads_popped : (n : ℕ) {bs : List Bool} {ws ts : Streams} → Fronts bs ws ts → All (Heads n ts) (heads n ws)
heads_popped n fronts_nil = all_nil
heads_popped n (fronts_cons {w = []} {l = l} {ts = ts} q h) = all_map (λ y p. later n l ts y p) (heads_popped (suc n) h)
heads_popped n (fronts_cons {w = x ∷ w} {l = l} {ts = ts} q h) =
    all_cons {x = record { stream = n; row = x }} (omega arith, λ y j us p e. first_here n p e) (all_map (λ y p. later n (x ∷ (w ++ l)) ts y p) (heads_popped (suc n) h))

-- where x sorts after no first row, each open stream has one, and all streams are sorted, x sorts after no row that still comes
not_open : (b : Bool) → not b || false ≡ true → b ≡ false
not_open true e = sym e
not_open false e = refl

merge_first : (ks : List Key) (x : Row) (n : ℕ) {bs : List Bool} {ws ts : Streams} → Fronts bs ws ts → ready bs ws ≡ true → All (Sorted ks) ts →
    All (λ h. le ks x h.row ≡ true) (heads n ws) → All (All (Rel ks x)) ts
merge_first ks x n fronts_nil r s m = all_nil
merge_first ks x n (fronts_cons {b = b} {w = []} {l = l} {bs = bs} {ws = ws} q h) r s m =
    all_cons (subst (All (Rel ks x)) (sym (q (not_open b (and_left (not b || false) (ready bs ws) r)))) all_nil)
    (merge_first ks x (suc n) h (and_right (not b || false) (ready bs ws) r) (all_tail s) m)
merge_first ks x n (fronts_cons {b = b} {w = y ∷ w} {l = l} {bs = bs} {ws = ws} q h) r s m =
    all_cons (all_cons (all_head m) (below ks x y (all_head m) (pw_head (all_head s))))
    (merge_first ks x (suc n) h (and_right (not b || true) (ready bs ws) r) (all_tail s) (all_tail m))

popped_all : {P : Row → Type 0} {x : Row} {i : ℕ} {ss ts : Streams} → Popped x i ss ts → All (All P) ss → All (All P) ts
popped_all pop_here (all_cons p ps) = all_cons (all_tail p) ps
popped_all (pop_there h) (all_cons p ps) = all_cons p (popped_all h ps)

merges : (ks : List Key) (c : Plan) (sc : Forest Outlet) → Steppable c → (q : Picked) →
    ready (concat (opens c sc)) (inputs (facts c) (roots sc)) ≡ true → IsLeast ks (λ s. true) (heads 0 (inputs (facts c) (roots sc))) q →
    All (λ i. Restores c sc (λ x. Took (merging ks) x i) (take_from [] (facts c) i sc)) (of_picked q)
merges ks c sc s nobody r l = all_nil
merges ks c sc s (picked y m) r l =
    all_cons (restores_map (λ x. Popped x y.stream) (λ x. Took (merging ks) x y.stream) c sc took (take_from [] (facts c) y.stream sc) (firsts c sc y.stream s)) all_nil
  where
    took : (x : Row) (out : Forest Streams) (ts : Streams) → Ahead c sc out → Popped x y.stream (concat (roots out)) ts →
        Took (merging ks) x y.stream (concat (roots out)) ts
    took x out ts a p =
        let f = fronts s a in
        let e : x ≡ y.row = (removed_at l.removed (heads_popped 0 f)).1 x y.stream ts p (omega arith) in (
          p,
          λ o. popped_all p (merge_first ks x 0 f r o
              (subst (λ (z : Row). All (λ h. le ks z h.row ≡ true) (heads 0 (inputs (facts c) (roots sc)))) (sym e)
              (removed_all l.removed (le_refl ks y.row) (all_map (λ h g. g refl) l.first)))),
        )

-- ---- all manners
everyone : {P : ℕ → Type 0} → ((i : ℕ) → P i) → (l : List ℕ) → All P l
everyone f [] = all_nil
everyone f (i ∷ l) = all_cons (f i) (everyone f l)

-- a sort has one child
abbrev pub Lone : Manner → ℕ → Type 0
Lone still n = Unit {0}
Lone passing n = Unit {0}
Lone (merging ks) n = Unit {0}
Lone (sorting p ks) n = n ≡ 1

pub lone : (o : Op) (fs : List Facts) (n : ℕ) → Formed o n → Lone (manner o fs) n
lone (source s) fs n h = tt
lone filter fs n h = tt
lone (projection cols) fs n h = tt
lone union fs n h = tt
lone (repartition p m b ks) fs n h = go (counts p (at0 fs))
  where
    go : (b : Bool) → Lone (cond b (merging (known_order (at0 fs))) passing) n
    go true = tt
    go false = tt
lone (coalesce f) fs n h = tt
lone (sort_op p ks f) fs n h = h
lone (merge_op ks f) fs n h = tt
lone (global_limit s f note) fs n h = tt
lone (local_limit f note) fs n h = tt
lone (sort_merge_join t keys) fs n h = tt
lone (hash_join t keys) fs n h = tt
lone (output_requirement ks d f) fs n h = tt
lone (partial_sort p ks m f) fs n h = h
lone (aggregate ks m) fs n h = tt

pub restored : (m : Manner) (c : Plan) (sc : Forest Outlet) → Steppable c → Lone m (length (roots c)) →
    All (λ i. Restores c sc (λ x. Took m x i) (take_by m (facts c) i sc)) (choices m (concat (opens c sc)) (inputs (facts c) (roots sc)))
restored still c sc s n = all_nil
restored passing c sc s n = everyone (λ i. firsts c sc i s) (with_rows 0 (inputs (facts c) (roots sc)))
restored (merging ks) c sc s n = go (ready (concat (opens c sc)) (inputs (facts c) (roots sc))) refl
  where
    ins : Streams
    ins = inputs (facts c) (roots sc)

    go : (b : Bool) → ready (concat (opens c sc)) (inputs (facts c) (roots sc)) ≡ b →
        All (λ i. Restores c sc (λ x. Took (merging ks) x i) (take_from [] (facts c) i sc))
        (cond b (of_picked (least ks (λ s. true) (heads 0 (inputs (facts c) (roots sc))))) [])
    go true e = merges ks c sc s (least ks (λ s. true) (heads 0 ins)) e (least_is ks (λ s. true) (heads 0 ins))
    go false e = all_nil
restored (sorting true ks) c sc s n = go (any_of (concat (opens c sc))) refl
  where
    go : (b : Bool) → any_of (concat (opens c sc)) ≡ b → All (λ i. Restores c sc (λ x. Extracted ks x i) (take_from ks (facts c) i sc))
        (cond b [] (with_rows 0 (inputs (facts c) (roots sc))))
    go true e = all_nil
    go false e = everyone (λ i. leasts ks c sc i s e) (with_rows 0 (inputs (facts c) (roots sc)))
restored (sorting false ks) c sc s n = go (any_of (concat (opens c sc))) refl
  where
    go : (b : Bool) → any_of (concat (opens c sc)) ≡ b → All (λ i. Restores c sc (λ x. Took (sorting false ks) x i) (take_by (sorting false ks) (facts c) i sc))
        (cond b [] (once (with_rows 0 (inputs (facts c) (roots sc)))))
    go true e = all_nil
    go false e = everyone (λ i. any_restores ks c sc s e n) (once (with_rows 0 (inputs (facts c) (roots sc))))
