-- In a plan every node has a stream at least, and at most 64 for each node of its subtree (reading 17): `streams_some`, `streams_few`.
use Rattle.std.specs.Prelude.{◌≡◌, refl, Bool, true, false, cond, List, [], ◌∷◌, ℕ, zero, suc, ◌+◌, ◌*◌, ◌≤◌, ◌<◌, eqb, length, get_or}
use Rattle.std.proofs.Common.{sym, ap, ◌∙◌, arith, leb-true, eqb-true}
use Rattle.row_order.specs.Lists.{sum, All, all_nil, all_cons}
use Rattle.row_order.specs.ListLaws.{all_head}
use Rattle.plan.specs.Forest.{none, tree, size}
use Rattle.plan.specs.Op.{Op, source, filter, projection, union, repartition, coalesce, sort_op, merge_op, global_limit, local_limit, sort_merge_join, hash_join, output_requirement, partial_sort, aggregate, Plan}
use Rattle.plan.specs.WellFormed.{fields_ok, children_ok, widths, nodes_ok}
use Rattle.semantics.specs.Facts.{Facts, nothing, union_facts, sort_streams, by_right, at0, at1, facts_op, facts}
use Rattle.semantics.proofs.Theorems.Common.Bools.{and_left, and_right}

abbrev pub total : List Facts → ℕ
total fs = sum (λ F. F.streams) fs

-- ---- at least one
abbrev Some : Facts → Type 0
Some F = 1 ≤ F.streams

nth_some : (fs : List Facts) → All Some fs → (n : ℕ) → n < length fs → 1 ≤ (get_or fs n nothing).streams
nth_some [] all_nil n l = absurd (omega arith)
nth_some (F ∷ fs) (all_cons h hs) zero l = h
nth_some (F ∷ fs) (all_cons h hs) (suc n) l = nth_some fs hs n (omega arith)

union_some : (fs : List Facts) → All Some fs → 1 ≤ length fs → 1 ≤ (union_facts fs).streams
union_some [] hs l = absurd (omega arith)
union_some (F ∷ []) hs l = all_head hs
union_some (F ∷ G ∷ fs) hs l = let h : 1 ≤ F.streams = all_head hs in omega arith

sort_some : (p : Bool) (F : Facts) → 1 ≤ F.streams → 1 ≤ sort_streams p F
sort_some true F h = h
sort_some false F h = omega arith

side_some : (b : Bool) (m n : ℕ) → 1 ≤ m → 1 ≤ n → 1 ≤ cond b n m
side_some true m n h k = k
side_some false m n h k = h

module _ (fs : List Facts) (hs : All Some fs) where
  only : eqb (length fs) 1 ≡ true → 1 ≤ (at0 fs).streams
  only e = nth_some fs hs 0 (omega (arith, eqb-true (length fs) 1 e))

  op_some : (o : Op) → fields_ok o ≡ true → children_ok o (length fs) ≡ true → 1 ≤ (facts_op o fs).streams
  op_some (source s) e k = leb-true 1 s.streams (search (and_left, and_right))
  op_some filter e k = only k
  op_some (projection cols) e k = only k
  op_some union e k = union_some fs hs (let l = leb-true 2 (length fs) (search and_left) in omega arith)
  op_some (repartition p n h ks) e k = leb-true 1 n (search (and_left, and_right))
  op_some (coalesce f) e k = omega arith
  op_some (sort_op p ks f) e k = sort_some p (at0 fs) (only k)
  op_some (merge_op ks f) e k = omega arith
  op_some (global_limit s f note) e k = omega arith
  op_some (local_limit f note) e k = only k
  op_some (sort_merge_join t on) e k =
      let l = eqb-true (length fs) 2 k in side_some (by_right t) (at0 fs).streams (at1 fs).streams (nth_some fs hs 0 (omega arith))
      (nth_some fs hs 1 (omega arith))
  op_some (hash_join t on) e k = let l = eqb-true (length fs) 2 k in nth_some fs hs 1 (omega arith)
  op_some (output_requirement ks d f) e k = only k
  op_some (partial_sort p ks n f) e k = sort_some p (at0 fs) (only k)
  op_some (aggregate ks n) e k = only k

-- the children that the rule on child counts counts
kids : (c : Plan) → length (widths c) ≡ length (facts c)
kids none = refl
kids (tree o c r) = ap suc (kids r)

pub streams_some : (f : Plan) → nodes_ok f ≡ true → All (λ F. 1 ≤ F.streams) (facts f)
streams_some none e = all_nil
streams_some (tree o c r) e =
    let ok : fields_ok o ≡ true = search (and_left, and_right) in
    let ks : children_ok o (length (widths c)) ≡ true = search (and_left, and_right) in
    all_cons (op_some (facts c) (streams_some c (search (and_left, and_right))) o ok (ap (children_ok o) (sym (kids c)) ∙ ks))
    (streams_some r (search (and_left, and_right)))

-- ---- at most 64 for each node
nth_few : (fs : List Facts) (n : ℕ) → (get_or fs n nothing).streams ≤ total fs
nth_few [] n = omega arith
nth_few (F ∷ fs) zero = omega arith
nth_few (F ∷ fs) (suc n) = omega (arith, nth_few fs n)

union_few : (fs : List Facts) → (union_facts fs).streams ≤ total fs
union_few [] = omega arith
union_few (F ∷ []) = omega arith
union_few (F ∷ G ∷ fs) = omega (arith, union_few (G ∷ fs))

sort_few : (p : Bool) (F : Facts) (n : ℕ) → F.streams ≤ n → sort_streams p F ≤ 64 + n
sort_few true F n h = omega arith
sort_few false F n h = omega arith

side_few : (b : Bool) (m n l : ℕ) → m ≤ l → n ≤ l → cond b n m ≤ 64 + l
side_few true m n l h k = omega arith
side_few false m n l h k = omega arith

op_few : (o : Op) (fs : List Facts) → fields_ok o ≡ true → (facts_op o fs).streams ≤ 64 + total fs
op_few (source s) fs e = let h = leb-true s.streams 64 (search (and_left, and_right)) in omega arith
op_few filter fs e = omega (arith, nth_few fs 0)
op_few (projection cols) fs e = omega (arith, nth_few fs 0)
op_few union fs e = omega (arith, union_few fs)
op_few (repartition p n h ks) fs e = let h = leb-true n 64 (search (and_left, and_right)) in omega arith
op_few (coalesce f) fs e = omega arith
op_few (sort_op p ks f) fs e = sort_few p (at0 fs) (total fs) (nth_few fs 0)
op_few (merge_op ks f) fs e = omega arith
op_few (global_limit s f note) fs e = omega arith
op_few (local_limit f note) fs e = omega (arith, nth_few fs 0)
op_few (sort_merge_join t on) fs e = side_few (by_right t) (at0 fs).streams (at1 fs).streams (total fs) (nth_few fs 0) (nth_few fs 1)
op_few (hash_join t on) fs e = omega (arith, nth_few fs 1)
op_few (output_requirement ks d f) fs e = omega (arith, nth_few fs 0)
op_few (partial_sort p ks n f) fs e = sort_few p (at0 fs) (total fs) (nth_few fs 0)
op_few (aggregate ks n) fs e = omega (arith, nth_few fs 0)

pub streams_few : (f : Plan) → nodes_ok f ≡ true → total (facts f) ≤ 64 * size f
streams_few none e = omega arith
streams_few (tree o c r) e =
    let ok : fields_ok o ≡ true = search (and_left, and_right) in
    omega (arith, op_few o (facts c) ok, streams_few c (search (and_left, and_right)), streams_few r (search (and_left, and_right)))
