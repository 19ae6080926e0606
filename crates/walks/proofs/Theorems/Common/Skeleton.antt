-- The skeleton of a plan: what every walk keeps. Sorts, merges, coalesces and repartitions are taken out; limits stay, and where a walk
-- may add limits, taking those out again gives the old skeleton.
use Rattle.std.specs.Prelude.{◌≡◌, refl, Bool, true, false, cond, ◌&&◌, ◌⊎◌, ℕ, eqb, leb}
use Rattle.std.proofs.Common.{sym, ap, ap₂, ◌∙◌, subst, inl, inr, arith, eqb-true, leb-true, le-leb}
use Rattle.row_order.proofs.Order.{no_bool}
use Rattle.plan.specs.Forest.{Forest, none, tree}
use Rattle.plan.specs.Op.{Op, Plan}
use Rattle.plan.specs.Numbers.{code}
use Rattle.semantics.specs.Properties.{is_limit}
use Rattle.semantics.proofs.Theorems.Common.Bools.{and_left, and_right, or_cases}
use Rattle.walks.specs.Terms.{◌⊕◌, add_limit, add_none, add_tree, Added, bone, easing, passing, prune, skel}

-- ---- forests one after the other
pub ⊕-none : {A : Type 0} (f : Forest A) → f ⊕ none ≡ f
⊕-none none = refl
⊕-none (tree a c r) = ap (λ (g : Forest _). tree a c g) (⊕-none r)

⊕-assoc : {A : Type 0} (f g h : Forest A) → (f ⊕ g) ⊕ h ≡ f ⊕ (g ⊕ h)
⊕-assoc none g h = refl
⊕-assoc (tree a c r) g h = ap (λ (x : Forest _). tree a c x) (⊕-assoc r g h)

-- ---- limits added
pub added_refl : {a : Bool} (f : Plan) → Added a f f
added_refl none = add_none
added_refl (tree o c r) = add_tree (added_refl c) (added_refl r)

pub added_same : {a : Bool} {f g : Plan} → g ≡ f → Added a f g
added_same {a} {f} e = subst (Added a f) (sym e) (added_refl f)

pub added_append : {a : Bool} {c d r s : Plan} → Added a c d → Added a r s → Added a (c ⊕ r) (d ⊕ s)
added_append add_none k = k
added_append (add_tree h i) k = add_tree h (added_append i k)
added_append {a} {c} {r = r} {s = s} (add_limit {o = o} {d = d} {s = t} e l h) k =
    add_limit e l (subst (Added a (c ⊕ r)) (⊕-assoc d t s) (added_append h k))

pub added_bone : {a : Bool} {c d : Plan} (o : Op) → Added a c d → Added a (bone passing o c) (bone passing o d)
added_bone {a} {c} {d} o h = go (passing o)
  where
    go : (b : Bool) → Added a (cond b c (tree o c none)) (cond b d (tree o d none))
    go true = h
    go false = add_tree h add_none

pub added_trans : {a : Bool} {f g h : Plan} → Added a f g → Added a g h → Added a f h
added_trans add_none k = k
added_trans {a} (add_tree {o = o} {c = c} {d = d} {r = r} {s = s} i j) k = go (λ x l. added_trans i l) (λ x l. added_trans j l) k
  where
    go : {h : Plan} → ((x : Plan) → Added a d x → Added a c x) → ((x : Plan) → Added a s x → Added a r x) → Added a (tree o d s) h → Added a (tree o c r) h
    go p q (add_tree u v) = add_tree (p _ u) (q _ v)
    go p q (add_limit e l u) = add_limit e l (go p q u)
added_trans {a} {f} (add_limit {o = o} {d = d} {s = s} e l i) k = go (λ x m. added_trans i m) k
  where
    go : {h : Plan} → ((x : Plan) → Added a (d ⊕ s) x → Added a f x) → Added a (tree o d s) h → Added a f h
    go p (add_tree u v) = add_limit e l (p _ (added_append u v))
    go p (add_limit e' l' u) = add_limit e' l' (go p u)

-- A limit over one tree
pub added_over : {a : Bool} {f g : Plan} (o : Op) → a ≡ true → is_limit o ≡ true → Added a f g → Added a f (tree o g none)
added_over {a} {f} {g} o e l h = add_limit e l (subst (Added a f) (sym (⊕-none g)) h)

-- Nothing may be added
pub added_none : {f g : Plan} → Added false f g → g ≡ f
added_none add_none = refl
added_none (add_tree {o = o} h k) = ap₂ (λ (x y : Plan). tree o x y) (added_none h) (added_none k)
added_none (add_limit e l h) = no_bool e

-- ---- without limits, both are one
prune_append : (p : Op → Bool) (f g : Plan) → prune p (f ⊕ g) ≡ prune p f ⊕ prune p g
prune_append p none g = refl
prune_append p (tree o c r) g = ap (λ (x : Plan). bone p o (prune p c) ⊕ x) (prune_append p r g)
    ∙ sym (⊕-assoc (bone p o (prune p c)) (prune p r) (prune p g))

pub easing_limit : (o : Op) → is_limit o ≡ true → easing o ≡ true
easing_limit o e = go (or_cases (eqb (code o) 9) (eqb (code o) 10) e)
  where
    go : (eqb (code o) 9 ≡ true) ⊎ (eqb (code o) 10 ≡ true) → easing o ≡ true
    go (inl h) = ap (λ (n : ℕ). leb 5 n && leb n 10) (eqb-true (code o) 9 h)
    go (inr h) = ap (λ (n : ℕ). leb 5 n && leb n 10) (eqb-true (code o) 10 h)

added_eased : {a : Bool} {f g : Plan} → Added a f g → prune easing g ≡ prune easing f
added_eased add_none = refl
added_eased (add_tree {o = o} h k) = ap₂ (λ (x y : Plan). bone easing o x ⊕ y) (added_eased h) (added_eased k)
added_eased {f = f} (add_limit {o = o} {d = d} {s = s} e l h) =
    ap (λ (b : Bool). cond b (prune easing d) (tree o (prune easing d) none) ⊕ prune easing s) (easing_limit o l) ∙ sym (prune_append easing d s)
    ∙ added_eased h

pub pass_ease : (o : Op) → passing o ≡ true → easing o ≡ true
pass_ease o e = ap₂ ◌&&◌ (and_left (leb 5 (code o)) (leb (code o) 8) e)
    (le-leb (code o) 10 (omega (arith, leb-true (code o) 8 (and_right (leb 5 (code o)) (leb (code o) 8) e))))

skel-eased : (f : Plan) → prune easing (skel f) ≡ prune easing f
skel-eased none = refl
skel-eased (tree o c r) = prune_append easing (bone passing o (skel c)) (skel r) ∙ ap₂ (λ (x y : Plan). x ⊕ y) (go (passing o) refl (skel-eased c))
    (skel-eased r)
  where
    go : (b : Bool) → passing o ≡ b → prune easing (skel c) ≡ prune easing c → prune easing (cond b (skel c) (tree o (skel c) none)) ≡ bone easing o
        (prune easing c)
    go true e ih = ih ∙ sym (ap (λ (x : Bool). cond x (prune easing c) (tree o (prune easing c) none)) (pass_ease o e))
    go false e ih = ⊕-none (bone easing o (prune easing (skel c))) ∙ ap (bone easing o) ih

-- Skeletons that differ in limits at most: without the limits they are one
pub eased : {a : Bool} (f g : Plan) → Added a (skel f) (skel g) → prune easing g ≡ prune easing f
eased f g h = sym (skel-eased g) ∙ added_eased h ∙ skel-eased f
