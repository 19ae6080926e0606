-- What stands at a number of a tree, what is answered of it, and among which child's nodes the number is.
use Rattle.std.specs.Prelude.{◌≡◌, refl, cond, length, get_or, take, set, Option, Some, None}
use Rattle.std.proofs.Math.Path.{sym, ap}
use Rattle.std.proofs.Common.{ap₂, ◌∙◌, subst, add-one, lt-ltb, le-ltb}
use mathlib.Core.List.{List, [], ◌∷◌}
use Prim.Native.Nat.{ℕ, zero, suc, ◌+◌, ◌*◌, ◌-◌, ◌≤◌, ◌<◌}
use native.Mathlib.Omega.{arith}
use Rattle.plan.specs.Forest.{none, tree, size}
use Rattle.plan.specs.Op.{Op, Plan}
use Rattle.plan.specs.declared.Refusal.TheVariants as refusals
use Rattle.arena.specs.Arena.{index, slot}
use Rattle.arena.specs.declared.At.{At}
use Rattle.walks.specs.Marks.{strip, op_t, size_t}
use Rattle.walks.specs.PartialSort.{replace_with_partial_sort, from_node, set_node}
use Rattle.walks.specs.Counted.{Answer, answered, refused, partial_at, partially_sorted}
use Rattle.plan_context.specs.View.{tree_of, forest, Arena, Same}
use Rattle.plan_context.specs.Records.{plan_t}
use Rattle.partial_sort_by_number.specs.declared.Place.{Place}
use Rattle.walks.proofs.Theorems.Common.Trees.{strip-size}

-- ---- what is found at a number

pub data Outcome : Type 0 where
  missing : Outcome
  found : Op → Outcome

abbrev pub outcome : Plan → Outcome
outcome none = missing
outcome (tree o c r) = found (replace_with_partial_sort o c)

abbrev answer_by : ℕ → Plan → Outcome → Answer
answer_by n f missing = refused refusals.NoSuchNode
answer_by n f (found o) = answered (set_node n o f)

answer_is : (n : ℕ) (f g : Plan) → partial_at n f g ≡ answer_by n f (outcome g)
answer_is n f none = refl
answer_is n f (tree o c r) = refl

-- the call's answer, by what is found
by_outcome : (n : ℕ) (f : Plan) (x : Outcome) → outcome (from_node n f) ≡ x → partially_sorted n f ≡ answer_by n f x
by_outcome n f x e = answer_is n f (from_node n f) ∙ ap (answer_by n f) e

-- ---- the code's answer

pub record Became (m : List ℕ) (u : ℕ) (m' : List ℕ) (h n : ℕ) (a : At) : Type 0 where
  pub op : Op
  pub here : outcome (from_node n (plan_t (tree_of m h))) ≡ found op
  pub plan : plan_t (tree_of m' a.root) ≡ set_node n op (plan_t (tree_of m h))
  pub is : partially_sorted n (plan_t (tree_of m h)) ≡ answered (plan_t (tree_of m' a.root))
  pub arena : Arena m' a.used
  pub old : Same u m m'
  pub more : u ≤ a.used
  pub low : a.root < 2 * a.used
  pub room : a.used ≤ u + size_t (tree_of m h)

-- It is that of node number n of the tree at h
abbrev pub AnswersPartial : List ℕ → ℕ → List ℕ → ℕ → ℕ → Option At → Type 0
AnswersPartial m u m' h n None = (partially_sorted n (plan_t (tree_of m h)) ≡ refused refusals.NoSuchNode)
    × (outcome (from_node n (plan_t (tree_of m h))) ≡ missing)
AnswersPartial m u m' h n (Some a) = Became m u m' h n a

pub answers_none : (m : List ℕ) (u : ℕ) (m' : List ℕ) (h n : ℕ) → outcome (from_node n (plan_t (tree_of m h))) ≡ missing → AnswersPartial m u m' h n None
answers_none m u m' h n e = (by_outcome n (plan_t (tree_of m h)) missing e, e)

pub answered-is : (n : ℕ) (f g : Plan) (p : Op) → outcome (from_node n f) ≡ found p → g ≡ set_node n p f → partially_sorted n f ≡ answered g
answered-is n f g p e q = by_outcome n f (found p) e ∙ ap answered (sym q)

-- ---- a number among children

pub record Located (m : List ℕ) (h n : ℕ) (p : Place) : Type 0 where
  pub low : p.child ≤ length (slot m (index h)).kids
  pub is : n ≡ size (forest m (take p.child (slot m (index h)).kids)) + p.left
  pub inside : p.child < length (slot m (index h)).kids → p.left < size_t (tree_of m (get_or (slot m (index h)).kids p.child 0))

-- the first tree with another right neighbour
abbrev onto_r : Plan → Plan → Plan
onto_r none R = R
onto_r (tree o c r) R = tree o c R

-- a node's tree in front of others: numbers within it
set_first : (l : ℕ) (p o : Op) (c R : Plan) → l < suc (size c) → set_node l p (tree o c R) ≡ onto_r (set_node l p (tree o c none)) R
set_first zero p o c R h = refl
set_first (suc l) p o c R h =
    ap (λ b. cond b (tree o (set_node l p c) R) (tree o c (set_node (l - size c) p R))) (lt-ltb l (size c) (omega arith))
    ∙ sym (ap (λ b. onto_r (cond b (tree o (set_node l p c) none) (tree o c (set_node (l - size c) p none))) R) (lt-ltb l (size c) (omega arith)))

out_first : (l : ℕ) (o : Op) (c R : Plan) → l < suc (size c) → outcome (from_node l (tree o c R)) ≡ outcome (from_node l (tree o c none))
out_first zero o c R h = refl
out_first (suc l) o c R h =
    ap (λ b. outcome (cond b (from_node l c) (from_node (l - size c) R))) (lt-ltb l (size c) (omega arith))
    ∙ sym (ap (λ b. outcome (cond b (from_node l c) (from_node (l - size c) none))) (lt-ltb l (size c) (omega arith)))

-- and behind it
set_skip : (d : ℕ) (p o : Op) (c R : Plan) → set_node (suc (size c + d)) p (tree o c R) ≡ tree o c (set_node d p R)
set_skip d p o c R =
    let e : size c + d - size c ≡ d = omega arith in
    ap₂ (λ b i. cond b (tree o (set_node (size c + d) p c) R) (tree o c (set_node i p R))) (le-ltb (size c + d) (size c) (omega arith)) e

out_skip : (d : ℕ) (o : Op) (c R : Plan) → outcome (from_node (suc (size c + d)) (tree o c R)) ≡ outcome (from_node d R)
out_skip d o c R =
    let e : size c + d - size c ≡ d = omega arith in
    ap₂ (λ b i. outcome (cond b (from_node (size c + d) c) (from_node i R))) (le-ltb (size c + d) (size c) (omega arith)) e

module _ (m : List ℕ) where
  behind : (k : ℕ) (ks : List ℕ) (l : ℕ) → size (forest m (k ∷ ks)) + l ≡ suc (size (strip (tree_of m k).kids) + (size (forest m ks) + l))
  unfolding forest
  behind k ks l = let z = strip-size (tree_of m k).kids in omega arith

  -- the j-th of some trees, and l in it
  pub out_at : (ks : List ℕ) (j l : ℕ) → j < length ks → l < size_t (tree_of m (get_or ks j 0))
      → outcome (from_node (size (forest m (take j ks)) + l) (strip (forest m ks))) ≡ outcome (from_node l (plan_t (tree_of m (get_or ks j 0))))
  unfolding forest
  out_at [] j l h i = absurd (omega arith)
  out_at (k ∷ ks) zero l h i =
      let z = strip-size (tree_of m k).kids in let e : 0 + l ≡ l = omega arith in
      ap (λ n. outcome (from_node n (tree (op_t (tree_of m k)) (strip (tree_of m k).kids) (strip (forest m ks))))) e
      ∙ out_first l (op_t (tree_of m k)) (strip (tree_of m k).kids) (strip (forest m ks)) (omega arith)
  out_at (k ∷ ks) (suc j) l h i =
      ap (λ n. outcome (from_node n (tree (op_t (tree_of m k)) (strip (tree_of m k).kids) (strip (forest m ks))))) (behind k (take j ks) l)
      ∙ out_skip (size (forest m (take j ks)) + l) (op_t (tree_of m k)) (strip (tree_of m k).kids) (strip (forest m ks)) ∙ out_at ks j l (omega arith) i

  pub set_at : (p : Op) (ks : List ℕ) (j l x : ℕ) → j < length ks → l < size_t (tree_of m (get_or ks j 0)) → plan_t (tree_of m x) ≡ set_node l p
      (plan_t (tree_of m (get_or ks j 0))) → strip (forest m (set ks j x)) ≡ set_node (size (forest m (take j ks)) + l) p (strip (forest m ks))
  unfolding forest
  set_at p [] j l x h i e = absurd (omega arith)
  set_at p (k ∷ ks) zero l x h i e =
      let z = strip-size (tree_of m k).kids in
      let q : 0 + l ≡ l = omega arith in
      ap (λ g. onto_r g (strip (forest m ks))) e ∙ sym (ap (λ n. set_node n p (tree (op_t (tree_of m k)) (strip (tree_of m k).kids) (strip (forest m ks)))) q
      ∙ set_first l p (op_t (tree_of m k)) (strip (tree_of m k).kids) (strip (forest m ks)) (omega arith))
  set_at p (k ∷ ks) (suc j) l x h i e =
      ap (tree (op_t (tree_of m k)) (strip (tree_of m k).kids)) (set_at p ks j l x (omega arith) i e)
      ∙ sym (ap (λ n. set_node n p (tree (op_t (tree_of m k)) (strip (tree_of m k).kids) (strip (forest m ks)))) (behind k (take j ks) l)
      ∙ set_skip (size (forest m (take j ks)) + l) p (op_t (tree_of m k)) (strip (tree_of m k).kids) (strip (forest m ks)))

-- under a root
pub out_root : (n : ℕ) (o : Op) (c : Plan) → n < size c → outcome (from_node (suc n) (tree o c none)) ≡ outcome (from_node n c)
out_root n o c h = ap (λ b. outcome (cond b (from_node n c) (from_node (n - size c) none))) (lt-ltb n (size c) h)

pub out_past : (n : ℕ) (o : Op) (c : Plan) → size c ≤ n → outcome (from_node (suc n) (tree o c none)) ≡ missing
out_past n o c h = ap (λ b. outcome (cond b (from_node n c) (from_node (n - size c) none))) (le-ltb n (size c) h)

pub set_root : (n : ℕ) (p o : Op) (c : Plan) → n < size c → set_node (suc n) p (tree o c none) ≡ tree o (set_node n p c) none
set_root n p o c h = ap (λ b. cond b (tree o (set_node n p c) none) (tree o c (set_node (n - size c) p none))) (lt-ltb n (size c) h)

-- ---- the search among the children

pub at_size : (m ks : List ℕ) (j : ℕ) → j < length ks → size (forest m (take (suc j) ks)) ≡ size (forest m (take j ks)) + size_t (tree_of m (get_or ks j 0))
unfolding forest
at_size m [] j h = absurd (omega arith)
at_size m (k ∷ ks) zero h = omega arith
at_size m (k ∷ ks) (suc j) h = let x = at_size m ks j (omega arith) in omega arith

pub take-size : (m ks : List ℕ) (j : ℕ) → size (forest m (take j ks)) ≤ size (forest m ks)
unfolding forest
take-size m ks zero = omega arith
take-size m [] (suc j) = omega arith
take-size m (k ∷ ks) (suc j) = let x = take-size m ks j in omega arith

-- The numbers before child j are passed
pub record Passing (m : List ℕ) (h n j left : ℕ) : Type 0 where
  pub low : j ≤ length (slot m (index h)).kids
  pub is : n ≡ size (forest m (take j (slot m (index h)).kids)) + left

pub passing_none : (m : List ℕ) (h n : ℕ) → Passing m h n 0 n
unfolding forest
passing_none m h n = record { low = omega arith; is = omega arith }

module _ (m : List ℕ) (h n j left : ℕ) (p : Passing m h n j left) (l : j < length (slot m (index h)).kids) (s : ℕ)
    (hs : s ≡ size_t (tree_of m (get_or (slot m (index h)).kids j 0))) where
  pub passing_more : s ≤ left → Passing m h n (j + 1) (left - s)
  passing_more z = let e = p.is in let x = at_size m (slot m (index h)).kids j l in rw (add-one j) (record { low = omega arith; is = omega arith })

  pub passing_found : left < s → Located m h n (record { child = j; left = left })
  passing_found z = record { low = p.low; is = p.is; inside = λ i. omega arith }

pub passing_end : (m : List ℕ) (h n j left c : ℕ) → Passing m h n j left → c ≡ length (slot m (index h)).kids → c ≤ j
    → Located m h n (record { child = c; left = left })
passing_end m h n j left c p e l =
    let x = p.low in let q : j ≡ c = omega arith in
    record {
      low = omega arith;
      is = subst (λ i. n ≡ size (forest m (take i (slot m (index h)).kids)) + left) q p.is;
      inside = λ i. absurd (omega arith);
    }
