-- When partial sorting refuses: 20 exactly if the number isn't in the tree, and no other refusal is given. Also, for when 22 was given: all keys are
-- met one after the other exactly if they are met.
use Rattle.std.specs.Prelude.{◌≡◌, refl, Bool, true, false, cond, ◌&&◌, ◌||◌, List, [], ◌∷◌, ◌++◌, ◌↔◌, ℕ, zero, suc, ◌-◌, ◌≤◌, ltb, length}
use Rattle.std.proofs.Common.{sym, ap, ap₂, ◌∙◌, append_assoc, append-nil, arith, ltb-false, ltb-true}
use Rattle.row_order.specs.Iso.{Key}
use Rattle.row_order.proofs.Order.{no_bool}
use Rattle.plan.specs.Forest.{none, size, tree}
use Rattle.plan.specs.Op.{Op, Plan}
use Rattle.plan.specs.WellFormed.{member}
use Rattle.plan.specs.declared.Refusal.{Refusal}
use Rattle.plan.specs.declared.Refusal.TheVariants.{NoSuchNode}
use Rattle.semantics.specs.Facts.{cl, eq_key, Facts, is_c, met, nf, prefixb, with_column}
use Rattle.semantics.proofs.Theorems.Common.Bools.{and_left, and_right}
use Rattle.walks.specs.PartialSort.{common_prefix_length, from_node}
use Rattle.walks.specs.Counted.{partial_at, partially_sorted, refused}

-- ---- 20
from-none : (n : ℕ) (f : Plan) → from_node n f ≡ none → size f ≤ n
from-none n none e = omega arith
from-none zero (tree o c r) e = let bad : ◌≡◌ {A = ℕ} 0 1 = cc in absurd (omega arith)
from-none (suc n) (tree o c r) e = go (ltb n (size c)) refl (λ q. from-none n c q) (λ q. from-none (n - size c) r q) e
  where
    go : (b : Bool) → ltb n (size c) ≡ b → (from_node n c ≡ none → size c ≤ n) → (from_node (n - size c) r ≡ none → size r ≤ n - size c) →
        cond b (from_node n c) (from_node (n - size c) r) ≡ none → size (tree o c r) ≤ suc n
    go true t k l q = absurd (omega (arith, ltb-true n (size c) t, k q))
    go false t k l q = omega (arith, ltb-false n (size c) t, l q)

none_from : (n : ℕ) (f : Plan) → size f ≤ n → from_node n f ≡ none
none_from n none h = refl
none_from zero (tree o c r) h = absurd (omega arith)
none_from (suc n) (tree o c r) h = go (ltb n (size c)) refl (λ q. none_from (n - size c) r q)
  where
    go : (b : Bool) → ltb n (size c) ≡ b → (size r ≤ n - size c → from_node (n - size c) r ≡ none) → cond b (from_node n c) (from_node (n - size c) r) ≡ none
    go true t l = absurd (omega (arith, ltb-true n (size c) t))
    go false t l = l (omega (arith, ltb-false n (size c) t))

-- 20: "a call on one node whose number isn't in the tree"
pub partial_20 : (n : ℕ) (f : Plan) → (partially_sorted n f ≡ refused NoSuchNode) ↔ (size f ≤ n)
partial_20 n f = (λ e. from-none n f (go (from_node n f) e), λ h. ap (partial_at n f) (none_from n f h))
  where
    go : (h : Plan) → partial_at n f h ≡ refused NoSuchNode → h ≡ none
    go none e = refl
    go (tree o c r) e = let bad : ◌≡◌ {A = ℕ} 0 1 = cc in absurd (omega arith)

-- 20 is the only one: "22 isn't given any more" (02, P2)
pub partial_no_other : (n : ℕ) (f : Plan) (e : Refusal) → partially_sorted n f ≡ refused e → e ≡ NoSuchNode
partial_no_other n f e = go (from_node n f)
  where
    go : (h : Plan) → partial_at n f h ≡ refused e → e ≡ NoSuchNode
    go none q = cc
    go (tree o c r) q = let bad : ◌≡◌ {A = ℕ} 0 1 = cc in absurd (omega arith)

-- ---- all keys are met one after the other exactly if they are met
prefix_met : (F : Facts) (seen : List ℕ) (l m q : List Key) → prefixb (nf F seen (l ++ m)) q ≡ true → prefixb (nf F seen l) q ≡ true
prefix_met F seen [] m q e = refl
prefix_met F seen (k ∷ l) m q e = go (is_c F c || member c seen) q (λ p h. prefix_met F seen l m p h) (λ p h. prefix_met F (c ∷ seen) l m p h) e
  where
    c : ℕ
    c = cl F k.col

    j : Key
    j = with_column c k

    go : (b : Bool) (q : List Key) → ((p : List Key) → prefixb (nf F seen (l ++ m)) p ≡ true → prefixb (nf F seen l) p ≡ true) →
        ((p : List Key) → prefixb (nf F (c ∷ seen) (l ++ m)) p ≡ true → prefixb (nf F (c ∷ seen) l) p ≡ true) →
        prefixb (cond b (nf F seen (l ++ m)) (j ∷ nf F (c ∷ seen) (l ++ m))) q ≡ true → prefixb (cond b (nf F seen l) (j ∷ nf F (c ∷ seen) l)) q ≡ true
    go true q h _ e = h q e
    go false [] _ h e = no_bool e
    go false (x ∷ q) _ h e =
        let first : eq_key j x ≡ true = and_left (eq_key j x) (prefixb (nf F (c ∷ seen) (l ++ m)) q) e in
        let rest : prefixb (nf F (c ∷ seen) l) q ≡ true = h q (and_right (eq_key j x) (prefixb (nf F (c ∷ seen) (l ++ m)) q) e) in
        ap (λ (b : Bool). b && prefixb (nf F (c ∷ seen) l) q) first ∙ rest

pub met_all : (F : Facts) (done ks : List Key) → met F (done ++ ks) ≡ true → common_prefix_length F done ks ≡ length ks
met_all F done [] e = refl
met_all F done (k ∷ ks) e =
    let more : List Key = done ++ (k ∷ []) in
    let whole : met F (more ++ ks) ≡ true = ap (met F) (append_assoc done (k ∷ []) ks) ∙ e in
    ap (λ (b : Bool). cond b (suc (common_prefix_length F more ks)) 0) (prefix_met F [] more ks F.order whole) ∙ ap suc (met_all F more ks whole)

pub all_met : (F : Facts) (done ks : List Key) → met F done ≡ true → common_prefix_length F done ks ≡ length ks → met F (done ++ ks) ≡ true
all_met F done [] h e = ap (met F) (append-nil done) ∙ h
all_met F done (k ∷ ks) h e = go (met F (done ++ (k ∷ []))) refl (λ t q. all_met F (done ++ (k ∷ [])) ks t q) e
  where
    more : List Key
    more = done ++ (k ∷ [])

    go : (b : Bool) → met F more ≡ b → (met F more ≡ true → common_prefix_length F more ks ≡ length ks → met F (more ++ ks) ≡ true) →
        cond b (suc (common_prefix_length F more ks)) 0 ≡ suc (length ks) → met F (done ++ (k ∷ ks)) ≡ true
    go true t ih q = ap (met F) (sym (append_assoc done (k ∷ []) ks)) ∙ ih t (omega arith)
    go false t ih q = absurd (omega arith)
