-- In every state every row that waits is on a stream that its node has: `start_ranged`, `moves_ranged`.
use Rattle.std.specs.Prelude.{◌≡◌, refl, Bool, true, false, cond, List, [], ◌∷◌, ◌++◌, map, ℕ, zero, suc, ◌+◌, ◌-◌, ◌<◌, ◌≤◌, eqb, ltb, length, get_or}
use Rattle.std.proofs.Common.{sym, ap, ap₂, ◌∙◌, subst, arith, ltb-true, ltb-false, length-append}
use Rattle.std.proofs.Math.ListN.{get_or-eq_default}
use Rattle.row_order.specs.Iso.{Row, Key}
use Rattle.row_order.specs.Lists.{concat, All, all_nil, all_cons, tab}
use Rattle.row_order.specs.ListLaws.{all_append, all_over, all_map, length-tab}
use Rattle.plan.specs.Forest.{Forest, none, tree, roots}
use Rattle.plan.specs.Op.{Op, source, filter, projection, union, repartition, coalesce, sort_op, merge_op, global_limit, local_limit, sort_merge_join, hash_join, output_requirement, partial_sort, aggregate, Plan}
use Rattle.semantics.specs.Facts.{Facts, union_facts, at0, facts_op, facts}
use Rattle.semantics.specs.Properties.{cuts, any_of}
use Rattle.semantics.specs.Runs.{Streams, next_s, past}
use Rattle.stepping.specs.Outlets.{Placed, place, Outlet, on, tally, keeps, put, by_stream, spread, inputs}
use Rattle.stepping.specs.Moves.{Manner, still, passing, merging, sorting, manner, way, outputs, shown, Picked, nobody, picked, least, Taken, nothing_taken, taken, left, beside, take_from, take_any, take_by, opens, with_rows, heads, of_picked, ready, once, choices, sent, own_moves, moves}
use Rattle.stepping.specs.Stepping.{given, start}
use Rattle.stepping.proofs.Theorems.Picking.{Removed, rem_here, rem_there, IsLeast, least_is, removed_at}
use Rattle.stepping.proofs.Theorems.Formed.{Formed, Steppable, steppable-none, steppable-tree}
use Rattle.stepping.proofs.Theorems.Rules.{Goes, goes}
use Rattle.stepping.proofs.Theorems.Backwards.{inside_all}
use Rattle.stepping.proofs.Theorems.Lessening.{Has, with_rows_lem, head_rows}

abbrev Within : ℕ → List Placed → Type 0
Within n l = All (λ p. p.stream < n) l

pub data Ranged : Plan → Forest Outlet → Type 0 where
  ranged_none : Ranged none none
  ranged_tree : {o : Op} {c r : Plan} {d : Outlet} {sc sr : Forest Outlet} → All (λ p. p.stream < (facts_op o (facts c)).streams) d.waiting →
      Ranged c sc → Ranged r sr → Ranged (tree o c r) (tree d sc sr)

-- ---- the first state
on_one : (k n : ℕ) (l : List Row) → k < n → Within n (map (place k) l)
on_one k n [] h = all_nil
on_one k n (x ∷ l) h = all_cons h (on_one k n l h)

spread_within : (k n : ℕ) (ss : Streams) → k + length ss ≤ n → Within n (spread k ss)
spread_within k n [] h = all_nil
spread_within k n (l ∷ ss) h = all_append (on_one k n l (omega arith)) (spread_within (suc k) n ss (omega arith))

pub given_within : (rows : ℕ → ℕ → List Row) (i : ℕ) (o : Op) (fs : List Facts) → Within (facts_op o fs).streams (given rows i o)
given_within rows i (source s) fs = spread_within 0 s.streams (tab s.streams (rows i)) (omega (arith, length-tab s.streams (rows i)))
given_within rows i filter fs = all_nil
given_within rows i (projection cols) fs = all_nil
given_within rows i union fs = all_nil
given_within rows i (repartition p n h ks) fs = all_nil
given_within rows i (coalesce f) fs = all_nil
given_within rows i (sort_op p ks f) fs = all_nil
given_within rows i (merge_op ks f) fs = all_nil
given_within rows i (global_limit s f note) fs = all_nil
given_within rows i (local_limit f note) fs = all_nil
given_within rows i (sort_merge_join t keys) fs = all_nil
given_within rows i (hash_join t keys) fs = all_nil
given_within rows i (output_requirement ks d f) fs = all_nil
given_within rows i (partial_sort p ks n f) fs = all_nil
given_within rows i (aggregate ks n) fs = all_nil

pub start_ranged : (rows : ℕ → ℕ → List Row) (i : ℕ) (f : Plan) → Ranged f (start rows i f)
start_ranged rows i none = ranged_none
start_ranged rows i (tree o c r) =
    ranged_tree (given_within rows i o (facts c)) (start_ranged rows (next_s o i) c) (start_ranged rows (past next_s c (next_s o i)) r)

-- ---- a row taken
removed_within : {ks : List Key} {p : ℕ → Bool} {x : Placed} {P : Placed → Type 0} {l m : List Placed} → Removed ks p x l m → All P l → All P m
removed_within rem_here (all_cons h hs) = hs
removed_within (rem_there q r) (all_cons h hs) = all_cons h (removed_within r hs)

abbrev Still : Plan → Taken → Type 0
Still c nothing_taken = Unit {0}
Still c (taken x sc) = Ranged c sc

left_ranged : {o : Op} {c r : Plan} {d : Outlet} {sc sr : Forest Outlet} (ks : List Key) (p : ℕ → Bool) → Ranged (tree o c r) (tree d sc sr) → (q : Picked) →
    IsLeast ks p d.waiting q → Still (tree o c r) (left d sc sr q)
left_ranged ks p (ranged_tree h a b) nobody l = tt
left_ranged ks p (ranged_tree h a b) (picked x m) l = ranged_tree (removed_within l.removed h) a b

beside_ranged : {o : Op} {c r : Plan} {d : Outlet} {sc sr : Forest Outlet} → Ranged (tree o c r) (tree d sc sr) → (t : Taken) → Still r t →
    Still (tree o c r) (beside d sc t)
beside_ranged (ranged_tree h a b) nothing_taken k = tt
beside_ranged (ranged_tree h a b) (taken x sr') k = ranged_tree h a k

from_ranged : (ks : List Key) (c : Plan) (sc : Forest Outlet) (i : ℕ) → Ranged c sc → Still c (take_from ks (facts c) i sc)
from_ranged ks none none i h = tt
from_ranged ks none (tree d sc sr) i h = tt
from_ranged ks (tree o c r) none i h = tt
from_ranged ks (tree o c r) (tree d sc sr) i h = go (ltb i (facts_op o (facts c)).streams) h (from_ranged ks r sr (i - (facts_op o (facts c)).streams) (right h))
  where
    right : {o : Op} {c r : Plan} {d : Outlet} {sc sr : Forest Outlet} → Ranged (tree o c r) (tree d sc sr) → Ranged r sr
    right (ranged_tree h a b) = b

    go : (q : Bool) → Ranged (tree o c r) (tree d sc sr) → Still r (take_from ks (facts r) (i - (facts_op o (facts c)).streams) sr) → Still (tree o c r)
        (cond q (left d sc sr (least ks (λ s. eqb s i) d.waiting)) (beside d sc (take_from ks (facts r) (i - (facts_op o (facts c)).streams) sr)))
    go true h k = left_ranged ks (λ s. eqb s i) h (least ks (λ s. eqb s i) d.waiting) (least_is ks (λ s. eqb s i) d.waiting)
    go false h k = beside_ranged h (take_from ks (facts r) (i - (facts_op o (facts c)).streams) sr) k

any_ranged : (ks : List Key) (c : Plan) (sc : Forest Outlet) → Ranged c sc → Still c (take_any ks (facts c) sc)
any_ranged ks none none h = tt
any_ranged ks none (tree d sc sr) h = tt
any_ranged ks (tree o c r) none h = tt
any_ranged ks (tree o c r) (tree d sc sr) h = left_ranged ks (λ s. ltb s (facts_op o (facts c)).streams) h
    (least ks (λ s. ltb s (facts_op o (facts c)).streams) d.waiting) (least_is ks (λ s. ltb s (facts_op o (facts c)).streams) d.waiting)

by_ranged : (m : Manner) (c : Plan) (sc : Forest Outlet) (i : ℕ) → Ranged c sc → Still c (take_by m (facts c) i sc)
by_ranged still c sc i h = tt
by_ranged passing c sc i h = from_ranged [] c sc i h
by_ranged (merging ks) c sc i h = from_ranged [] c sc i h
by_ranged (sorting true ks) c sc i h = from_ranged ks c sc i h
by_ranged (sorting false ks) c sc i h = any_ranged ks c sc h

-- ---- a choice is an input stream
has_below : (ss : Streams) (j : ℕ) → Has ss j → j < length ss
has_below ss j h = go (ltb j (length ss)) refl
  where
    go : (b : Bool) → ltb j (length ss) ≡ b → j < length ss
    go true e = ltb-true j (length ss) e
    go false e = absurd (h (get_or-eq_default ss [] {n = j} (ltb-false j (length ss) e)))

-- a whole sort's choice says nothing
abbrev Chosen : Manner → Streams → ℕ → Type 0
Chosen still ins i = ⊥
Chosen passing ins i = i < length ins
Chosen (merging ks) ins i = i < length ins
Chosen (sorting true ks) ins i = i < length ins
Chosen (sorting false ks) ins i = Unit {0}

below_all : (ins : Streams) → All (λ i. i < length ins) (with_rows 0 ins)
below_all ins = all_map (λ i h. let l = has_below ins h.0 h.2 in omega (arith, h.1)) (with_rows_lem 0 ins)

chosen_below : (m : Manner) (bs : List Bool) (ins : Streams) → All (Chosen m ins) (choices m bs ins)
chosen_below still bs ins = all_nil
chosen_below passing bs ins = below_all ins
chosen_below (merging ks) bs ins = go (ready bs ins) (pick (least ks (λ s. true) (heads 0 ins)) (least_is ks (λ s. true) (heads 0 ins)))
  where
    pick : (q : Picked) → IsLeast ks (λ s. true) (heads 0 ins) q → All (λ i. i < length ins) (of_picked q)
    pick nobody l = all_nil
    pick (picked y m) l = let h = removed_at l.removed (head_rows 0 ins) in
        let k = has_below ins h.0 h.2 in all_cons {x = y.stream} (omega (arith, h.1)) all_nil

    go : (b : Bool) → All (λ i. i < length ins) (of_picked (least ks (λ s. true) (heads 0 ins))) →
        All (λ i. i < length ins) (cond b (of_picked (least ks (λ s. true) (heads 0 ins))) [])
    go true h = h
    go false h = all_nil
chosen_below (sorting true ks) bs ins = go (any_of bs)
  where
    go : (b : Bool) → All (λ i. i < length ins) (cond b [] (with_rows 0 ins))
    go true = all_nil
    go false = below_all ins
chosen_below (sorting false ks) bs ins = go (any_of bs)
  where
    any : (l : List ℕ) → All (λ (i : ℕ). Unit {0}) (once l)
    any [] = all_nil
    any (i ∷ l) = all_cons tt all_nil

    go : (b : Bool) → All (λ (i : ℕ). Unit {0}) (cond b [] (once (with_rows 0 ins)))
    go true = all_nil
    go false = any (with_rows 0 ins)

-- ---- and goes to an output stream
total : List Facts → ℕ
total [] = 0
total (F ∷ fs) = F.streams + total fs

inputs-length : {c : Plan} {sc : Forest Outlet} → Ranged c sc → length (inputs (facts c) (roots sc)) ≡ total (facts c)
unfolding total
inputs-length ranged_none = refl
inputs-length (ranged_tree {o = o} {c = c} {r = r} {d = d} {sr = sr} h a b) =
    length-append (by_stream (facts_op o (facts c)).streams d.waiting) (inputs (facts r) (roots sr))
    ∙ ap₂ ◌+◌ (length-tab (facts_op o (facts c)).streams (λ k. on k d.waiting)) (inputs-length b)

one_total : (fs : List Facts) → length fs ≡ 1 → total fs ≡ (at0 fs).streams
unfolding total
one_total [] e = absurd (omega arith)
one_total (F ∷ []) e = omega arith
one_total (F ∷ G ∷ fs) e = absurd (omega arith)

union-total : (fs : List Facts) → total fs ≡ (union_facts fs).streams
unfolding total
union-total [] = refl
union-total (F ∷ []) = omega arith
union-total (F ∷ G ∷ fs) = ap (λ (n : ℕ). F.streams + n) (union-total (G ∷ fs))

out_range : (o : Op) (fs : List Facts) (ins : Streams) (i k : ℕ) → Formed o (length fs) → length ins ≡ total fs → Chosen (manner o fs) ins i → Goes (way o) i k →
    k < (facts_op o fs).streams
out_range (source s) fs ins i k n e h g = absurd h
out_range filter fs ins i k n e h g = omega (arith, one_total fs n)
out_range (projection cols) fs ins i k n e h g = omega (arith, one_total fs n)
out_range union fs ins i k n e h g = omega (arith, union-total fs)
out_range (repartition p m b ks) fs ins i k n e h g = g
out_range (coalesce f) fs ins i k n e h g = omega arith
out_range (sort_op true ks f) fs ins i k n e h g = omega (arith, one_total fs n)
out_range (sort_op false ks f) fs ins i k n e h g = omega arith
out_range (merge_op ks f) fs ins i k n e h g = omega arith
out_range (global_limit s f note) fs ins i k n e h g = omega arith
out_range (local_limit f note) fs ins i k n e h g = omega (arith, one_total fs n)
out_range (sort_merge_join t keys) fs ins i k n e h g = absurd h
out_range (hash_join t keys) fs ins i k n e h g = absurd h
out_range (output_requirement ks d f) fs ins i k n e h g = omega (arith, one_total fs n)
out_range (partial_sort true ks m f) fs ins i k n e h g = omega (arith, one_total fs n)
out_range (partial_sort false ks m f) fs ins i k n e h g = omega arith
out_range (aggregate ks m) fs ins i k n e h g = absurd h

put_within : (n k : ℕ) (y : Row) (l : List Placed) (b : Bool) → k < n → Within n l → Within n (cond b (l ++ (place k y ∷ [])) l)
put_within n k y l true h w = all_append w (all_cons {x = place k y} h all_nil)
put_within n k y l false h w = w

facts-length : (f : Plan) → length (facts f) ≡ length (roots f)
facts-length none = refl
facts-length (tree o c r) = ap suc (facts-length r)

-- ---- all moves
module _ (o : Op) (c r : Plan) (d : Outlet) (sc sr : Forest Outlet) (n : Formed o (length (roots c)))
    (h : All (λ p. p.stream < (facts_op o (facts c)).streams) d.waiting) (a : Ranged c sc) (b : Ranged r sr) where
  sent_ranged : (i : ℕ) (t : Taken) → Chosen (manner o (facts c)) (inputs (facts c) (roots sc)) i → Still c t → All (Ranged (tree o c r)) (sent o d sr i t)
  sent_ranged i nothing_taken k s = all_nil
  sent_ranged i (taken x sc') k s =
      all_over (λ q. tree (put (cuts o) q (shown o x) d) sc' sr)
      (λ q g. ranged_tree (put_within (facts_op o (facts c)).streams q (shown o x) d.waiting (keeps (cuts o) (tally q d.came))
      (out_range o (facts c) (inputs (facts c) (roots sc)) i q (subst (Formed o) (sym (facts-length c)) n) (inputs-length a) k g) h) s b) (goes (way o) i)

  own_ranged : (can : List ℕ) → All (Chosen (manner o (facts c)) (inputs (facts c) (roots sc))) can →
      All (All (All (Ranged (tree o c r)))) (own_moves o (facts c) d sc sr can)
  own_ranged [] k = all_nil
  own_ranged (i ∷ can) k = all_cons (all_over (λ j. sent o d sr j (take_by (manner o (facts c)) (facts c) j sc))
      (λ j q. sent_ranged j (take_by (manner o (facts c)) (facts c) j sc) q (by_ranged (manner o (facts c)) c sc j a)) k) all_nil

pub moves_ranged : {f : Plan} {st : Forest Outlet} → Steppable f → Ranged f st → All (All (All (Ranged f))) (moves f st)
moves_ranged s ranged_none = all_nil
moves_ranged (steppable-tree n s t) (ranged_tree {o = o} {c = c} {r = r} {d = d} {sc = sc} {sr = sr} h a b) =
    all_append (own_ranged o c r d sc sr n h a b (choices (manner o (facts c)) (concat (opens c sc)) (inputs (facts c) (roots sc)))
    (chosen_below (manner o (facts c)) (concat (opens c sc)) (inputs (facts c) (roots sc))))
    (all_append (inside_all {P = Ranged c} {Q = Ranged (tree o c r)} (λ x. tree d x sr) (λ x k. ranged_tree h k b) (moves_ranged s a))
    (inside_all {P = Ranged r} {Q = Ranged (tree o c r)} (λ x. tree d sc x) (λ x k. ranged_tree h a k) (moves_ranged t b)))
