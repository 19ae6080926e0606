-- The facts of a union and of a projection are canonical where the children's are. Assumes nothing.
use Rattle.std.specs.Prelude.{◌≡◌, refl, Bool, true, false, cond, ◌&&◌, ◌||◌, ◌⊎◌, List, [], ◌∷◌, ℕ, ◌≤◌, ◌<◌, eqb, ltb, length, get_or}
use Rattle.std.proofs.Common.{sym, ap, ap₂, ◌∙◌, inl, inr, arith, ltb-true, eqb-true, eq-eqb, ne_eqb}
use Rattle.std.proofs.Math.ListN.{get_or-eq_default}
use Rattle.row_order.specs.Iso.{Key}
use Rattle.row_order.proofs.Order.{which, no_bool}
use Rattle.row_order.specs.Lists.{All, all_nil, all_cons, tab}
use Rattle.row_order.specs.ListLaws.{all_head, all_map, length-tab, get_or-tab}
use Rattle.row_order.specs.Packed.{bit}
use Rattle.plan.specs.WellFormed.{width, member}
use Rattle.semantics.specs.Facts.{Facts, cl, is_c, with_column, nf, eq_key, common, ordered, reorder, unknown, nothing, source_facts, lowest, both, union_facts, carried, proj_order, proj_facts}
use Rattle.semantics.specs.Canonical.{Normal, n_nil, n_cons, Classes, Canon}
use Rattle.semantics.proofs.Theorems.Common.Bools.{and_left, and_right, or_right}
use Rattle.semantics.proofs.Theorems.Common.Lowest.{lowest_le, lowest_ok, lowest_ext, lowest_idem, lowest_none, tab_cases, tab_same, tab-false}
use Rattle.semantics.proofs.Theorems.Orders.Comparing.{member_all, carried_ok}
use Rattle.semantics.proofs.Theorems.Orders.NormalForms.{nf_normal}

-- ---- another order
pub ordered_canon : (F : Facts) (n : ℕ) (ks : List Key) → Classes F → Normal (is_c F) (cl F) [] ks → Canon (ordered F n ks)
ordered_canon F n ks h k = record {
  classes = record {
    consts_long = h.consts_long;
    cls_long = h.cls_long;
    low = h.low;
    idem = h.idem;
    const = h.const;
  };
  normal = k;
}

pub nf_canon : (F : Facts) (n : ℕ) (ks : List Key) → Classes F → Canon (ordered F n (nf F [] ks))
nf_canon F n ks h = ordered_canon F n (nf F [] ks) h (nf_normal (is_c F) (cl F) h.idem [] ks)

pub kept_canon : (F : Facts) (n : ℕ) (b : Bool) → Canon F → Canon (ordered F n (cond b F.order []))
kept_canon F n true h = ordered_canon F n F.order h.classes h.normal
kept_canon F n false h = ordered_canon F n [] h.classes n_nil

-- "no change if they are equal"
pub reorder_same : (F : Facts) (ks : List Key) → nf F [] ks ≡ F.order → reorder F ks ≡ F
reorder_same F ks e = λ i. record { width = F.width; streams = F.streams; consts = F.consts; cls = F.cls; order = e i }

-- two columns of one class are both constant, or neither is
pub class_constant : (F : Facts) → Classes F → (c d : ℕ) → cl F c ≡ cl F d → is_c F c ≡ is_c F d
class_constant F h c d e = sym (h.const c) ∙ ap (is_c F) e ∙ h.const d

-- a class's lowest is no higher than any of its columns
pub class_lowest : (F : Facts) → Classes F → (c d : ℕ) → cl F d ≡ cl F c → cl F c ≤ d
class_lowest F h c d e = omega (arith, h.low d)

-- ---- each column alone in its class
pub unknown_classes : (w : ℕ) → Classes (unknown w)
unknown_classes w =
    record {
      consts_long = length-tab w (λ c. false);
      cls_long = length-tab w (λ c. c);
      low = λ c. omega (arith, tab_same w c);
      idem = λ c. ap (cl (unknown w)) (tab_same w c);
      const = λ c. ap (is_c (unknown w)) (tab_same w c);
    }

pub nothing_canon : Canon nothing
nothing_canon = record { classes = unknown_classes 0; normal = n_nil }

pub source_classes : (w n s : ℕ) → Classes (source_facts w n s)
source_classes w n s =
    record {
      consts_long = length-tab w (bit s);
      cls_long = length-tab w (λ c. c);
      low = λ c. omega (arith, tab_same w c);
      idem = λ c. ap (cl (source_facts w n s)) (tab_same w c);
      const = λ c. ap (is_c (source_facts w n s)) (tab_same w c);
    }

-- ---- classes by the lowest column that a test of pairs takes for equal: w columns, p c i says that i is as c
module _ (w : ℕ) (p : ℕ → ℕ → Bool) (self : (c : ℕ) → p c c ≡ true) (ext : (c d : ℕ) → p c d ≡ true → (i : ℕ) → p d i ≡ p c i) where
  abbrev low_of : ℕ → ℕ
  low_of c = get_or (tab w (λ d. lowest (p d) d)) c c

  low_le : (c : ℕ) → low_of c ≤ c
  low_le c = tab_cases (λ d. d ≤ c) w (λ d. lowest (p d) d) c (λ _. lowest_le (p c) c) (λ _. omega arith)

  low_idem : (c : ℕ) → low_of (low_of c) ≡ low_of c
  low_idem c = tab_cases (λ d. low_of d ≡ d) w (λ d. lowest (p d) d) c inside
      (λ h. get_or-eq_default (tab w (λ d. lowest (p d) d)) c {n = c} (omega (arith, length-tab w (λ d. lowest (p d) d))))
    where
      m : ℕ
      m = lowest (p c) c

      inside : c < w → low_of m ≡ m
      inside h = get_or-tab w (λ d. lowest (p d) d) m m (omega (arith, lowest_le (p c) c))
          ∙ lowest_ext (p m) (p c) (ext c m (lowest_ok (p c) c (inr (self c)))) m ∙ lowest_idem (p c) c

-- ---- union
module _ (F G : Facts) (hF : Canon F) where
  abbrev alike : ℕ → ℕ → Bool
  alike c i = eqb (cl F i) (cl F c) && eqb (cl G i) (cl G c)

  alike_self : (c : ℕ) → alike c c ≡ true
  alike_self c = ap₂ ◌&&◌ (eq-eqb (cl F c) (cl F c) refl) (eq-eqb (cl G c) (cl G c) refl)

  alike_ext : (c d : ℕ) → alike c d ≡ true → (i : ℕ) → alike d i ≡ alike c i
  alike_ext c d e i =
      ap₂ (λ (a b : ℕ). eqb (cl F i) a && eqb (cl G i) b) (eqb-true (cl F d) (cl F c) (and_left (eqb (cl F d) (cl F c)) (eqb (cl G d) (cl G c)) e))
      (eqb-true (cl G d) (cl G c) (and_right (eqb (cl F d) (cl F c)) (eqb (cl G d) (cl G c)) e))

  -- what is its class's lowest on one side is so in the union
  both_low : (c : ℕ) → cl F c ≡ c → cl (both F G) c ≡ c
  both_low c e = tab_cases (λ d. d ≡ c) F.width (λ d. lowest (alike d) d) c (λ _. lowest_none (alike c) c differs) (λ _. refl)
    where
      differs : (i : ℕ) → i < c → alike c i ≡ false
      differs i l = ap (λ (b : Bool). b && eqb (cl G i) (cl G c)) (ne_eqb (cl F i) (cl F c) (λ q. omega (arith, hF.classes.low i)))

  common_normal : (seen : List ℕ) (p q : List Key) → Normal (is_c F) (cl F) seen p → Normal (is_c (both F G)) (cl (both F G)) seen (common p q)
  common_normal seen [] q h = n_nil
  common_normal seen (k ∷ p) [] h = n_nil
  common_normal seen (k ∷ p) (l ∷ q) (n_cons a b c h) = go (eq_key k l) (common_normal (k.col ∷ seen) p q h)
    where
      go : (t : Bool) → Normal (is_c (both F G)) (cl (both F G)) (k.col ∷ seen) (common p q) → Normal (is_c (both F G)) (cl (both F G)) seen
          (cond t (k ∷ common p q) [])
      go true ih = n_cons (both_low k.col a) (tab-false F.width k.col) c ih
      go false ih = n_nil

  pub both_canon : Canon (both F G)
  both_canon =
      record {
        classes =
            record {
              consts_long = length-tab F.width (λ c. false);
              cls_long = length-tab F.width (λ c. lowest (alike c) c);
              low = low_le F.width alike alike_self alike_ext;
              idem = low_idem F.width alike alike_self alike_ext;
              const = λ c. tab-false F.width (cl (both F G) c) ∙ sym (tab-false F.width c);
            };
        normal = common_normal [] F.order G.order hF.normal;
      }

pub union_canon : (fs : List Facts) → All Canon fs → Canon (union_facts fs)
union_canon [] hs = nothing_canon
union_canon (F ∷ []) hs = all_head hs
union_canon (F ∷ G ∷ fs) hs = both_canon F (union_facts (G ∷ fs)) (all_head hs)

-- ---- projection
module _ (F : Facts) (hF : Canon F) (cols : List ℕ) where
  abbrev alike_out : ℕ → ℕ → Bool
  alike_out j i = eqb (cl F (get_or cols i 0)) (cl F (get_or cols j 0))

  out_self : (j : ℕ) → alike_out j j ≡ true
  out_self j = eq-eqb (cl F (get_or cols j 0)) (cl F (get_or cols j 0)) refl

  out_ext : (j d : ℕ) → alike_out j d ≡ true → (i : ℕ) → alike_out d i ≡ alike_out j i
  out_ext j d e i = ap (λ (a : ℕ). eqb (cl F (get_or cols i 0)) a) (eqb-true (cl F (get_or cols d 0)) (cl F (get_or cols j 0)) e)

  -- an output column is constant where its child column's class is
  out_const : (j : ℕ) → j < length cols → is_c (proj_facts F cols) j ≡ is_c F (cl F (get_or cols j 0))
  out_const j h = get_or-tab (length cols) (λ i. is_c F (get_or cols i 0)) false j h ∙ sym (hF.classes.const (get_or cols j 0))

  proj_const : (j : ℕ) → is_c (proj_facts F cols) (cl (proj_facts F cols) j) ≡ is_c (proj_facts F cols) j
  proj_const j = tab_cases (λ d. is_c (proj_facts F cols) d ≡ is_c (proj_facts F cols) j) (length cols) (λ d. lowest (alike_out d) d) j inside (λ _. refl)
    where
      m : ℕ
      m = lowest (alike_out j) j

      inside : j < length cols → is_c (proj_facts F cols) m ≡ is_c (proj_facts F cols) j
      inside h =
          out_const m (omega (arith, lowest_le (alike_out j) j))
          ∙ ap (is_c F) (eqb-true (cl F (get_or cols m 0)) (cl F (get_or cols j 0)) (lowest_ok (alike_out j) j (inr (out_self j)))) ∙ sym (out_const j h)

  -- out: the output columns seen; each comes from a class seen
  order_normal : (seen out : List ℕ) (ks : List Key) → All (λ j. member (cl F (get_or cols j 0)) seen ≡ true) out → Normal (is_c F) (cl F) seen ks
      → Normal (is_c (proj_facts F cols)) (cl (proj_facts F cols)) out (proj_order F cols ks)
  order_normal seen out [] hs n = n_nil
  order_normal seen out (k ∷ ks) hs (n_cons a b c h) = go (ltb j (length cols)) refl (λ hs'. order_normal (k.col ∷ seen) (j ∷ out) ks hs' h)
    where
      j : ℕ
      j = carried F cols k.col

      go : (t : Bool) → ltb j (length cols) ≡ t →
          (All (λ i. member (cl F (get_or cols i 0)) (k.col ∷ seen) ≡ true) (j ∷ out) → Normal (is_c (proj_facts F cols)) (cl (proj_facts F cols)) (j ∷ out)
          (proj_order F cols ks)) →
          Normal (is_c (proj_facts F cols)) (cl (proj_facts F cols)) out (cond t (with_column j k ∷ proj_order F cols ks) [])
      go false e ih = n_nil
      go true e ih = n_cons lowest-j const_j fresh
          (ih (all_cons (ap (λ (b : Bool). b || member (cl F (get_or cols j 0)) seen) (eq-eqb (cl F (get_or cols j 0)) k.col is))
          (all_map (λ i m. or_right (eqb (cl F (get_or cols i 0)) k.col) (member (cl F (get_or cols i 0)) seen) m) hs)))
        where
          lt : j < length cols
          lt = ltb-true j (length cols) e

          to : cl F (get_or cols j 0) ≡ cl F k.col
          to = eqb-true (cl F (get_or cols j 0)) (cl F k.col) (carried_ok F cols k.col lt)

          is : cl F (get_or cols j 0) ≡ k.col
          is = to ∙ a

          t : ℕ → Bool
          t i = eqb (cl F (get_or cols i 0)) (cl F k.col)

          lowest-j : cl (proj_facts F cols) j ≡ j
          lowest-j = get_or-tab (length cols) (λ d. lowest (alike_out d) d) j j lt ∙ lowest_ext (alike_out j) t
              (λ i. ap (λ (x : ℕ). eqb (cl F (get_or cols i 0)) x) to) j ∙ lowest_idem t (length cols)

          const_j : is_c (proj_facts F cols) j ≡ false
          const_j = out_const j lt ∙ ap (is_c F) is ∙ b

          seen_no : member j out ≡ true → true ≡ false
          seen_no m = sym (member_all j out m hs) ∙ ap (λ (x : ℕ). member x seen) is ∙ c

          fresh : member j out ≡ false
          fresh = cases (which (member j out))
            where
              cases : (member j out ≡ true) ⊎ (member j out ≡ false) → member j out ≡ false
              cases (inl m) = no_bool (sym (seen_no m))
              cases (inr m) = m

  pub proj_canon : Canon (proj_facts F cols)
  proj_canon =
      record {
        classes =
            record {
              consts_long = length-tab (length cols) (λ j. is_c F (get_or cols j 0));
              cls_long = length-tab (length cols) (λ j. lowest (alike_out j) j);
              low = low_le (length cols) alike_out out_self out_ext;
              idem = low_idem (length cols) alike_out out_self out_ext;
              const = proj_const;
            };
        normal = order_normal [] [] F.order all_nil hF.normal;
      }

-- the keys of a projected order fit the projection's width
pub proj_fits : (F : Facts) (cols : List ℕ) (ks : List Key) → All (λ k. k.col < length cols) (proj_order F cols ks)
proj_fits F cols [] = all_nil
proj_fits F cols (k ∷ ks) = go (ltb j (length cols)) refl (proj_fits F cols ks)
  where
    j : ℕ
    j = carried F cols k.col

    go : (b : Bool) → ltb j (length cols) ≡ b → All (λ l. l.col < length cols) (proj_order F cols ks) → All (λ l. l.col < length cols)
        (cond b (with_column j k ∷ proj_order F cols ks) [])
    go true e ih = all_cons (ltb-true j (length cols) e) ih
    go false e ih = all_nil
