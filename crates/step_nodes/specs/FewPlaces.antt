-- A plan of at most 126 nodes has at most 258,048 places (`few_places`): each node has at most 64 streams for each leaf of its subtree.
use Rattle.std.specs.Prelude.{◌≡◌, refl, Bool, true, false, cond, ◌&&◌, List, [], ◌∷◌, ℕ, zero, suc, ◌+◌, ◌*◌, ◌-◌, ◌≤◌, ◌<◌, leb, get_or}
use Rattle.std.proofs.Common.{ap, ◌∙◌, arith, mul-add, mul_assoc, mul-suc, mul-le-mul_left, leb-true}
use Rattle.std.proofs.Math.Decide.{ℕ_discrete}
use Rattle.scan.specs.Below.{and_left, and_right}
use Rattle.plan.specs.Forest.{none, tree, size}
use Rattle.plan.specs.Op.{Op, source, filter, projection, union, repartition, coalesce, sort_op, merge_op, global_limit, local_limit, sort_merge_join, hash_join, output_requirement, partial_sort, aggregate, Plan}
use Rattle.plan.specs.WellFormed.{fields_ok, nodes_ok}
use Rattle.semantics.specs.Facts.{Facts, nothing, union_facts, sort_streams, by_right, at0, at1, facts_op, facts}
use Rattle.step_tables.specs.Places.{total, inner}

-- ---- one node's streams

-- of one of them
nth_few : (fs : List Facts) (n : ℕ) → (get_or fs n nothing).streams ≤ total fs
nth_few [] n = omega arith
nth_few (F ∷ fs) zero = omega arith
nth_few (F ∷ fs) (suc n) = omega (arith, nth_few fs n)

union_few : (fs : List Facts) → (union_facts fs).streams ≤ total fs
union_few [] = omega arith
union_few (F ∷ []) = omega arith
union_few (F ∷ G ∷ fs) = omega (arith, union_few (G ∷ fs))

sort_few : (p : Bool) (F : Facts) (n : ℕ) → F.streams ≤ n → 64 ≤ n → sort_streams p F ≤ n
sort_few true F n h k = h
sort_few false F n h k = omega arith

side_few : (b : Bool) (k l n : ℕ) → k ≤ n → l ≤ n → cond b l k ≤ n
side_few true k l n h g = g
side_few false k l n h g = h

-- a bound of 64 and of the inputs
op_few : (o : Op) (fs : List Facts) (n : ℕ) → fields_ok o ≡ true → 64 ≤ n → total fs ≤ n → (facts_op o fs).streams ≤ n
op_few (source s) fs n e k l = let h = leb-true s.streams 64 (search (and_left, and_right)) in omega arith
op_few filter fs n e k l = omega (arith, nth_few fs 0)
op_few (projection cols) fs n e k l = omega (arith, nth_few fs 0)
op_few union fs n e k l = omega (arith, union_few fs)
op_few (repartition p q h ks) fs n e k l = let h = leb-true q 64 (search (and_left, and_right)) in omega arith
op_few (coalesce f) fs n e k l = omega arith
op_few (sort_op p ks f) fs n e k l = let z = nth_few fs 0 in sort_few p (at0 fs) n (omega arith) k
op_few (merge_op ks f) fs n e k l = omega arith
op_few (global_limit s f note) fs n e k l = omega arith
op_few (local_limit f note) fs n e k l = omega (arith, nth_few fs 0)
op_few (sort_merge_join t on) fs n e k l =
    let y = nth_few fs 0 in let z = nth_few fs 1 in side_few (by_right t) (at0 fs).streams (at1 fs).streams n (omega arith) (omega arith)
op_few (hash_join t on) fs n e k l = omega (arith, nth_few fs 1)
op_few (output_requirement ks d f) fs n e k l = omega (arith, nth_few fs 0)
op_few (partial_sort p ks q f) fs n e k l = let z = nth_few fs 0 in sort_few p (at0 fs) n (omega arith) k
op_few (aggregate ks q) fs n e k l = omega (arith, nth_few fs 0)

-- ---- leaves, and the other nodes

abbrev pub leaves : Plan → ℕ
leaves none = 0
leaves (tree o none r) = suc (leaves r)
leaves (tree o (tree p c s) r) = leaves (tree p c s) + leaves r

abbrev pub branches : Plan → ℕ
branches none = 0
branches (tree o none r) = branches r
branches (tree o (tree p c s) r) = suc (branches (tree p c s) + branches r)

each : (f : Plan) → leaves f + branches f ≡ size f
each none = refl
each (tree o none r) = omega (arith, each r)
each (tree o (tree p c s) r) = omega (arith, each (tree p c s), each r)

some_leaf : (o : Op) (c r : Plan) → 1 ≤ leaves (tree o c r)
some_leaf o none r = omega arith
some_leaf o (tree p c s) r = omega (arith, some_leaf p c s)

fields_of_lem : (o : Op) (c r : Plan) → nodes_ok (tree o c r) ≡ true → fields_ok o ≡ true
fields_of_lem o c r e = search (and_left, and_right)

-- the roots' streams
pub root_places : (f : Plan) → nodes_ok f ≡ true → total (facts f) ≤ 64 * leaves f
root_places none e = omega arith
root_places (tree o none r) e =
    omega (arith, op_few o [] 64 (fields_of_lem o none r e) (omega arith) (omega arith), root_places r (search (and_left, and_right)))
root_places (tree o (tree p c s) r) e =
    let g = root_places (tree p c s) (search (and_left, and_right)) in
    let k = some_leaf p c s in
    omega (
      arith,
      op_few o (facts (tree p c s)) (64 * leaves (tree p c s)) (fields_of_lem o (tree p c s) r e) (omega arith) g,
      root_places r (search (and_left, and_right)),
    )

-- the places below the roots: for each inner node at most k
inner_few : (k : ℕ) (f : Plan) → nodes_ok f ≡ true → 64 * leaves f ≤ k → inner f ≤ k * branches f
inner_few k none e h = omega arith
inner_few k (tree o none r) e h = omega (arith, inner_few k r (search (and_left, and_right)) (omega arith))
inner_few k (tree o (tree p c s) r) e h =
    let n : nodes_ok (tree p c s) ≡ true = search (and_left, and_right) in
    omega (
      arith,
      root_places (tree p c s) n,
      inner_few k (tree p c s) n (omega arith),
      inner_few k r (search (and_left, and_right)) (omega arith),
      mul-suc k (branches (tree p c s) + branches r),
      mul-add k (branches (tree p c s)) (branches r),
    )

-- ---- the product of two numbers whose sum is at most 127

abbrev holds_below : (ℕ → Bool) → ℕ → Bool
holds_below p zero = true
holds_below p (suc n) = p n && holds_below p n

below_holds : (p : ℕ → Bool) (n : ℕ) → holds_below p n ≡ true → (x : ℕ) → x < n → p x ≡ true
below_holds p zero e x h = absurd (omega arith)
below_holds p (suc n) e x h = go (ℕ_discrete x n) (below_holds p n (and_right (p n) (holds_below p n) e) x)
  where
    go : Dec (x ≡ n) → (x < n → p x ≡ true) → p x ≡ true
    go (yes q) k = ap p q ∙ and_left (p n) (holds_below p n) e
    go (no q) k = k (omega arith)

product_few : (x y : ℕ) → x + y ≤ 127 → x * y ≤ 4032
product_few x y h =
    let a = leb-true (x * (127 - x)) 4032 (below_holds (λ z. leb (z * (127 - z)) 4032) 128 refl x (omega arith)) in
    let b : x * y ≤ x * (127 - x) = mul-le-mul_left x (omega arith) in
    omega arith

pub few_places : (f : Plan) → nodes_ok f ≡ true → size f ≤ 126 → total (facts f) + inner f ≤ 258048
few_places f e h =
    let n = each f in
    let a = product_few (leaves f) (suc (branches f)) (omega arith) in
    omega (arith, root_places f e, inner_few (64 * leaves f) f e (omega arith), mul-suc (leaves f) (branches f), mul_assoc 64 (leaves f) (branches f))
