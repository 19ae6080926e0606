-- All earlier answers of partial sorting remain (02, P2): where 01 did not refuse with 22 the call answers what it answered before, and where it did,
-- exactly at a sort over an unbounded child that already meets all its keys, the plan itself. The earlier clause stands in this file alone.
use Rattle.std.specs.Prelude.{◌≡◌, refl, Bool, true, false, cond, ◌||◌, List, [], ◌↔◌, ℕ, zero, suc, ◌-◌, eqb, ltb, length, Option}
use Rattle.std.proofs.Common.{sym, ap, ap₂, ◌∙◌, arith, eqb-true, eq-eqb, ne_eqb}
use Rattle.row_order.specs.Iso.{Key}
use Rattle.row_order.proofs.Order.{no_bool}
use Rattle.plan.specs.Forest.{none, size, tree}
use Rattle.plan.specs.Op.{Op, partial_sort, Plan, sort_op}
use Rattle.semantics.specs.Facts.{at0, facts, met}
use Rattle.semantics.specs.Properties.{any_of, endless}
use Rattle.walks.specs.Marks.{Shape, shape}
use Rattle.walks.specs.PartialSort.{common_prefix_length, from_node, partial_by, partial_of, replace_with_partial_sort, set_node}
use Rattle.walks.specs.Counted.{answered, partial_at, partially_sorted}
use Rattle.walks.specs.Terms.{SortedAlready}
use Rattle.walks.proofs.Theorems.Common.Keeps.{shape_ind}
use Rattle.walks.proofs.Theorems.PartialSort.Refusals.{all_met, met_all}
use Rattle.walks.specs.Earlier.{EarlierNode, earlier_prefix, earlier_of, earlier_by, earlier_set, earlier_at, earlier_answer, now_of, now_answers, is_past, past_the_end, became, twenty_two}

-- ---- the earlier definition, of document 01

-- ---- the node alone

now_met : (p : Bool) (ks : List Key) (f : Option ℕ) (n : ℕ) → partial_of p ks f n ≡ now_of (sort_op p ks f) (earlier_of p ks f n)
now_met p ks f zero = go (eqb 0 (length ks))
  where
    go : (b : Bool) → sort_op p ks f ≡ now_of (sort_op p ks f) (cond b past_the_end (became (sort_op p ks f)))
    go true = refl
    go false = refl
now_met p ks f (suc n) = ap (λ (a : Bool). cond (a || eqb (suc n) (length ks)) (sort_op p ks f) (partial_sort p ks (suc n) f))
    (ne_eqb (suc n) 0 (λ z. omega arith)) ∙ go (eqb (suc n) (length ks))
  where
    go : (b : Bool) → cond b (sort_op p ks f) (partial_sort p ks (suc n) f) ≡ now_of (sort_op p ks f) (cond b past_the_end (became (partial_sort p ks (suc n) f)))
    go true = refl
    go false = refl

now_sort : (c : Plan) (p : Bool) (ks : List Key) (f : Option ℕ) (a : Bool) → let n = common_prefix_length (at0 (facts c)) [] ks in
    cond a (partial_of p ks f n) (sort_op p ks f) ≡ now_of (sort_op p ks f) (cond a (earlier_of p ks f n) (became (sort_op p ks f)))
now_sort c p ks f true = now_met p ks f (common_prefix_length (at0 (facts c)) [] ks)
now_sort c p ks f false = refl

now_is : (c : Plan) (o : Op) → replace_with_partial_sort o c ≡ now_of o (earlier_by (shape o) o c)
now_is c =
    shape_ind (λ o. replace_with_partial_sort o c ≡ now_of o (earlier_by (shape o) o c))
    (λ p ks f. now_sort c p ks f (any_of (endless c)))
    (λ ks f. refl)
    (λ p n h ks. refl)
    (λ f. refl)
    (λ o s. ap (λ (z : Shape). partial_by z o c) s ∙ sym (ap (λ (z : Shape). now_of o (earlier_by z o c)) s))

-- ---- a node put in its own place

set_same : (n : ℕ) (f : Plan) (o : Op) (c r : Plan) → from_node n f ≡ tree o c r → set_node n o f ≡ f
set_same n none o c r e = refl
set_same zero (tree p d s) o c r e = let q : p ≡ o = cc in ap (λ (z : Op). tree z d s) (sym q)
set_same (suc n) (tree p d s) o c r e = go (ltb n (size d)) (λ q. set_same n d o c r q) (λ q. set_same (n - size d) s o c r q) e
  where
    go : (b : Bool) → (from_node n d ≡ tree o c r → set_node n o d ≡ d) → (from_node (n - size d) s ≡ tree o c r → set_node (n - size d) o s ≡ s) →
        cond b (from_node n d) (from_node (n - size d) s) ≡ tree o c r → cond b (tree p (set_node n o d) s) (tree p d (set_node (n - size d) o s)) ≡ tree p d s
    go true k l q = ap (λ (z : Plan). tree p z s) (k q)
    go false k l q = ap (λ (z : Plan). tree p d z) (l q)

-- ---- the call

-- "All earlier answers remain", and in 22's place the tree comes back unchanged: for every number and every plan
pub answers_remain : (n : ℕ) (f : Plan) → partially_sorted n f ≡ now_answers f (earlier_answer n f)
answers_remain n f = go (from_node n f) refl
  where
    found : (o : Op) (c r : Plan) → from_node n f ≡ tree o c r → (x : EarlierNode) → answered (set_node n (now_of o x) f) ≡ now_answers f (earlier_set n f x)
    found o c r i past_the_end = ap answered (set_same n f o c r i)
    found o c r i (became p) = refl

    go : (h : Plan) → from_node n f ≡ h → partial_at n f h ≡ now_answers f (earlier_at n f h)
    go none i = refl
    go (tree o c r) i = ap (λ (p : Op). answered (set_node n p f)) (now_is c o) ∙ found o c r i (earlier_by (shape o) o c)

-- ---- when 22 was given

module _ (n : ℕ) (f : Plan) where
  abbrev Past : Plan → Plan → Op → Type 0
  Past c r o = from_node n f ≡ tree o c r → earlier_by (shape o) o c ≡ past_the_end → SortedAlready n f

  sort_past : (c r : Plan) (p : Bool) (ks : List Key) (l : Option ℕ) → Past c r (sort_op p ks l)
  sort_past c r p ks l i = go (any_of (endless c)) refl (eqb m (length ks)) refl
    where
      m : ℕ
      m = common_prefix_length (at0 (facts c)) [] ks

      go : (a : Bool) → any_of (endless c) ≡ a → (b : Bool) → eqb m (length ks) ≡ b →
          cond a (cond b past_the_end (became (earlier_prefix p ks l m))) (became (sort_op p ks l)) ≡ past_the_end → SortedAlready n f
      go true u true q e =
          let all : met (at0 (facts c)) ks ≡ true = all_met (at0 (facts c)) [] ks refl (eqb-true m (length ks) q) in
          record { preserve = p; keys = ks; fetch = l; child = c; right = r; here = i; unbounded = u; meets = all }
      go true u false q e = no_bool (ap is_past e)
      go false u b q e = no_bool (ap is_past e)

  -- What is no sort became itself
  past : (c r : Plan) (o : Op) → Past c r o
  past c r =
      shape_ind (Past c r)
      (λ p ks l i e. sort_past c r p ks l i e)
      (λ ks l i e. no_bool (ap is_past e))
      (λ p m h ks i e. no_bool (ap is_past e))
      (λ l i e. no_bool (ap is_past e))
      (λ o s i e. no_bool (ap is_past (sym (ap (λ (z : Shape). earlier_by z o c) s) ∙ e)))

  refused_if : (h : Plan) → from_node n f ≡ h → earlier_at n f h ≡ twenty_two → SortedAlready n f
  refused_if none i e = let bad : ◌≡◌ {A = ℕ} 0 1 = cc in absurd (omega arith)
  refused_if (tree o c r) i e = past c r o i (go (earlier_by (shape o) o c) e)
    where
      go : (x : EarlierNode) → earlier_set n f x ≡ twenty_two → x ≡ past_the_end
      go past_the_end q = refl
      go (became p) q = let bad : ◌≡◌ {A = ℕ} 0 1 = cc in absurd (omega arith)

  refused_then : SortedAlready n f → earlier_answer n f ≡ twenty_two
  refused_then s =
      ap (earlier_at n f) s.here
      ∙ ap₂ (λ (a b : Bool). earlier_set n f (cond a (cond b past_the_end (became part)) (became (sort_op s.preserve s.keys s.fetch))))
      s.unbounded (eq-eqb m (length s.keys) (met_all (at0 (facts s.child)) [] s.keys s.meets))
    where
      m : ℕ
      m = common_prefix_length (at0 (facts s.child)) [] s.keys

      part : Op
      part = earlier_prefix s.preserve s.keys s.fetch m

-- 01's 22: "partial sorting of a sort over an unbounded child that already meets all its keys"
pub earlier_22 : (n : ℕ) (f : Plan) → (earlier_answer n f ≡ twenty_two) ↔ SortedAlready n f
earlier_22 n f = (λ e. refused_if n f (from_node n f) refl e, λ s. refused_then n f s)

-- 02, P2: "From now on partial sorting of such a sort answers the tree unchanged"
pub already_unchanged : (n : ℕ) (f : Plan) → SortedAlready n f → partially_sorted n f ≡ answered f
already_unchanged n f s = answers_remain n f ∙ ap (now_answers f) (refused_then n f s)
