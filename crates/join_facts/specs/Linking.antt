-- Key pairs linked, one and all. Assumes nothing.
use Rattle.std.specs.Prelude.{◌≡◌, refl, Bool, true, false, cond, ◌&&◌, ◌||◌, List, [], ◌∷◌, map, ℕ, zero, suc, ◌+◌, min, ◌≤◌, ◌<◌, eqb, ltb, length, drop, get_or}
use Rattle.std.proofs.Common.{ap, ap₂, sym, ◌∙◌, subst, arith, add-one, drop_of_length-le, eqb-true, ltb-true, ltb-false}
use Rattle.row_order.specs.Packed.{bit, key_of}
use Rattle.row_order.specs.Lists.{All, all_nil, all_cons}
use Rattle.row_order.specs.ListLaws.{all_head, all_tail}
use Rattle.plan.specs.Op.{On}
use Rattle.plan.specs.declared.JoinType.{JoinType}
use Rattle.plan.specs.WellFormed.{on_fit, below as columnsBelow, distinct}
use Rattle.semantics.specs.Facts.{cl, is_c, in_class, linked, link_all}
use Rattle.semantics.proofs.Theorems.Facts.Fits.{link_all-fits}
use Rattle.semantics.proofs.Theorems.Common.Bools.{and_left, and_right}
use Rattle.column_sets.specs.Sets.{Holding, below}
use Rattle.class_tables.specs.Tables.{at, Filled, in_classes, linked_low}
use Rattle.facts.specs.declared.Facts.{Facts as Coded}
use Rattle.facts.specs.Known.{known, Coherent, Says}
use Rattle.facts.specs.Reading.{classes, cl_is, is_c_is, own_order}
use Rattle.facts.specs.Saying.{says}
use Rattle.join_orders.specs.KeptSides.{Placeable}
use Rattle.join_orders.specs.Orders.{placeable}
use Rattle.join_facts.specs.Joining.{on_of, Linkable, Sides}

-- ---- one pair
module _ (f : Coded) (h : Coherent f) (a b : ℕ) where
  pub says-linked : (t : List ℕ) (s : ℕ) → Filled f.width (linked_low f.low (at f.low a) (at f.low b)) t
      → Holding (λ c. bit f.consts c || (below f.width (in_classes f.low (at f.low a) (at f.low b)) c
      && (bit f.consts a || bit f.consts b))) s
      → Says (linked (known f) a b) (record { width = f.width; streams = f.streams; consts = s; low = t; order = f.order })
  says-linked t s g d =
      let low : (ℕ → ℕ) → ℕ → ℕ = λ x c. cond (eqb (x c) (x a) || eqb (x c) (x b)) (min (x a) (x b)) (x c) in
      let e : linked_low f.low (at f.low a) (at f.low b) ≡ low (cl (known f)) = ap low (cl_is f h) in
      says f.width f.streams s t f.order _ (λ c. is_c (known f) c || (in_class (known f) a b c && (is_c (known f) a || is_c (known f) b))) _ h.wide
      (subst (λ x. Filled f.width x t) e g) (λ c l. down c (eqb (cl (known f) c) (cl (known f) a)) refl (eqb (cl (known f) c) (cl (known f) b)) refl)
      (λ c. d c ∙ held c (ltb c f.width) refl) (own_order f h)
    where
      down : (c : ℕ) (p : Bool) → eqb (cl (known f) c) (cl (known f) a) ≡ p → (q : Bool) → eqb (cl (known f) c) (cl (known f) b) ≡ q
          → cond (p || q) (min (cl (known f) a) (cl (known f) b)) (cl (known f) c) ≤ c
      down c true x q y = let z = eqb-true (cl (known f) c) (cl (known f) a) x in let k = h.down c in let m = classes f h c in omega arith
      down c false x true y = let z = eqb-true (cl (known f) c) (cl (known f) b) y in let k = h.down c in let m = classes f h c in omega arith
      down c false x false y = let k = h.down c in let m = classes f h c in omega arith

      held : (c : ℕ) (p : Bool) → ltb c f.width ≡ p
          → bit f.consts c || ((p && in_classes f.low (at f.low a) (at f.low b) c) && (bit f.consts a || bit f.consts b))
          ≡ p && (is_c (known f) c || (in_class (known f) a b c && (is_c (known f) a || is_c (known f) b)))
      held c true x = ap₂ (λ (low : ℕ → ℕ) (k : ℕ → Bool). k c || ((eqb (low c) (low a) || eqb (low c) (low b)) && (k a || k b))) (cl_is f h) (is_c_is f h)
      held c false x = rw (h.none c (ltb-false c f.width x))

-- ---- all pairs
abbrev pub pair_at : List ℕ → List ℕ → ℕ → On
pair_at ks cs i = record { key = key_of (get_or ks i 0); other = get_or cs i 0 }

pub on_next : (ks cs : List ℕ) (i : ℕ) → i < length ks → length ks ≡ length cs → drop i (on_of ks cs) ≡ pair_at ks cs i ∷ drop (i + 1) (on_of ks cs)
on_next ks cs i h e = rw (add-one i) (go ks cs i h e)
  where
    go : (ks cs : List ℕ) (i : ℕ) → i < length ks → length ks ≡ length cs → drop i (on_of ks cs) ≡ pair_at ks cs i ∷ drop (suc i) (on_of ks cs)
    go [] cs i h e = absurd (omega arith)
    go (k ∷ ks) [] i h e = absurd (omega arith)
    go (k ∷ ks) (c ∷ cs) zero h e = refl
    go (k ∷ ks) (c ∷ cs) (suc i) h e = go ks cs i (omega arith) (omega arith)

pub on_at : (P : On → Type 0) (ks cs : List ℕ) (i : ℕ) → i < length ks → length ks ≡ length cs → All P (on_of ks cs) → P (pair_at ks cs i)
on_at P [] cs i h e ps = absurd (omega arith)
on_at P (k ∷ ks) [] i h e ps = absurd (omega arith)
on_at P (k ∷ ks) (c ∷ cs) zero h e ps = all_head ps
on_at P (k ∷ ks) (c ∷ cs) (suc i) h e ps = on_at P ks cs i (omega arith) (omega arith) (all_tail ps)

on_end : (ks cs : List ℕ) (i : ℕ) → length ks ≤ i → drop i (on_of ks cs) ≡ []
on_end ks cs i h = drop_of_length-le (on_of ks cs) {i = i} (omega (arith, short ks cs))
  where
    short : (ks cs : List ℕ) → length (on_of ks cs) ≤ length ks
    short [] cs = omega arith
    short (k ∷ ks) [] = omega arith
    short (k ∷ ks) (c ∷ cs) = let h = short ks cs in omega arith

-- the loop at place i: the pairs that are left lead where all pairs lead from the start
pub record Linking (w : ℕ) (f : Coded) (ks cs : List ℕ) (g : Coded) (i : ℕ) : Type 0 where
  pub far : i ≤ length ks
  pub fine : Coherent g
  pub leads : link_all w (drop i (on_of ks cs)) (known g) ≡ link_all w (on_of ks cs) (known f)

module _ (w : ℕ) (f : Coded) (ks cs : List ℕ) (g : Coded) (i : ℕ) (n : Linking w f ks cs g i) where
  pub link_more : i < length ks → length ks ≡ length cs → All (Linkable w) (on_of ks cs) → (r : Coded)
      → Says (linked (known g) (key_of (get_or ks i 0)).col (w + get_or cs i 0)) r → Linking w f ks cs r (i + 1)
  link_more h e ps r s =
      let l = (on_at (Linkable w) ks cs i h e ps).left in
      record {
        far = omega arith;
        fine = s.fine;
        leads = ap (link_all w (drop (i + 1) (on_of ks cs))) s.is ∙ sym (link_all-fits w (pair_at ks cs i) (drop (i + 1) (on_of ks cs)) (known g) l)
            ∙ ap (λ on. link_all w on (known g)) (sym (on_next ks cs i h e)) ∙ n.leads;
      }

  pub link_end : length ks ≤ i → Says (link_all w (on_of ks cs) (known f)) g
  link_end h = record { is = ap (λ on. link_all w on (known g)) (sym (on_end ks cs i h)) ∙ n.leads; fine = n.fine }

-- a well-formed join's key pairs
pub linkable : (w v : ℕ) (on : List On) → on_fit w v on ≡ true → w + v ≤ 32 → All (Linkable w) on
linkable w v on e l =
    let p = and_left (columnsBelow w (map (λ k. k.key.col) on) && distinct (map (λ k. k.key.col) on)) _ e in
    let q = and_right (columnsBelow w (map (λ k. k.key.col) on) && distinct (map (λ k. k.key.col) on))
    (columnsBelow v (map (λ k. k.other) on) && distinct (map (λ k. k.other) on)) e in
    go on (and_left (columnsBelow w (map (λ k. k.key.col) on)) _ p) (and_left (columnsBelow v (map (λ k. k.other) on)) _ q)
  where
    go : (on : List On) → columnsBelow w (map (λ k. k.key.col) on) ≡ true → columnsBelow v (map (λ k. k.other) on) ≡ true → All (Linkable w) on
    go [] p q = all_nil
    go (k ∷ on) p q =
        all_cons {x = k}
        (record {
          left = ltb-true k.key.col w (and_left (ltb k.key.col w) _ p);
          right = let m = ltb-true k.other v (and_left (ltb k.other v) _ q) in omega arith;
        })
        (go on (and_right (ltb k.key.col w) _ p) (and_right (ltb k.other v) _ q))

-- orders of a plan's sides have a place
pub sides_placeable : (t : JoinType) (a b : Coded) → Sides t a b → Placeable t a.width a.order b.order
sides_placeable t a b s = placeable t a.width b.width a.order b.order s.left.wide s.right.wide s.wide s.left.few s.right.few
    s.left_fits s.right_fits
