-- The facts of a join are canonical where both sides' are; and so are the facts of every node. Assumes nothing.
use Rattle.std.specs.Prelude.{◌≡◌, refl, Bool, true, false, cond, ◌&&◌, ◌||◌, ◌⊎◌, List, [], ◌∷◌, ℕ, zero, suc, ◌+◌, ◌-◌, min, ◌≤◌, ◌<◌, eqb, ltb, leb, length, get_or}
use Rattle.std.proofs.Common.{sym, ap, ap₂, ◌∙◌, subst, subst₂, inl, inr, ⊎_elim, arith, ltb-true, ltb-false, leb-true, eqb-true, lt-ltb, le-ltb, le-leb, eq-eqb}
use Rattle.row_order.specs.Iso.{Key}
use Rattle.row_order.proofs.Order.{which}
use Rattle.row_order.specs.Lists.{All, all_nil, all_cons, tab}
use Rattle.row_order.specs.ListLaws.{all_head, all_tail, all_map, length-tab, get_or-tab}
use Rattle.plan.specs.Forest.{none, tree}
use Rattle.plan.specs.Op.{On, Op, source, filter, projection, union, repartition, coalesce, sort_op, merge_op, global_limit, local_limit, sort_merge_join, hash_join, output_requirement, partial_sort, aggregate, Plan}
use Rattle.plan.specs.declared.JoinType.{JoinType}
use Rattle.plan.specs.declared.JoinType.TheVariants.{Inner, Left, Right, Full, LeftSemi, LeftAnti, RightSemi, RightAnti}
use Rattle.plan.specs.WellFormed.{columns_of}
use Rattle.semantics.specs.Facts.{Facts, cl, is_c, nf, nothing, source_facts, keeps_order, sort_streams, Kept, smj_kept, hash_kept, by_right, placed, shifted, beside, in_class, linked, link_all, join_base, join_order, join_facts, at0, at1, facts_op, facts, proj_facts}
use Rattle.semantics.specs.Canonical.{Normal, n_nil, n_cons, Classes, Canon}
use Rattle.semantics.proofs.Theorems.Common.Bools.{or_cases, or_right}
use Rattle.semantics.proofs.Theorems.Common.Lowest.{tab_cases, min_cases}
use Rattle.semantics.proofs.Theorems.Orders.NormalForms.{normal_nf}
use Rattle.semantics.proofs.Theorems.Canonical.UnionsProjections.{ordered_canon, nf_canon, kept_canon, unknown_classes, nothing_canon, source_classes, union_canon, proj_canon, proj_fits}

-- ---- classes and constants by tables of one size
module _ (F : Facts) (f : ℕ → ℕ) (g : ℕ → Bool) (lo : (c : ℕ) → c < F.width → f c ≤ c) (id : (c : ℕ) → c < F.width → f (f c) ≡ f c)
    (co : (c : ℕ) → c < F.width → g (f c) ≡ g c) where
  abbrev cls' : ℕ → ℕ
  cls' c = get_or (tab F.width f) c c

  abbrev con' : ℕ → Bool
  con' c = get_or (tab F.width g) c false

  tab_low : (c : ℕ) → cls' c ≤ c
  tab_low c = tab_cases (λ d. d ≤ c) F.width f c (lo c) (λ _. omega arith)

  tab_idem : (c : ℕ) → cls' (cls' c) ≡ cls' c
  tab_idem c = tab_cases (λ d. cls' d ≡ d) F.width f c (λ h. get_or-tab F.width f (f c) (f c) (omega (arith, lo c h)) ∙ id c h)
      (λ h. tab_cases (λ d. d ≡ c) F.width f c (λ l. absurd (omega arith)) (λ _. refl))

  tab_const : (c : ℕ) → con' (cls' c) ≡ con' c
  tab_const c = tab_cases (λ d. con' d ≡ con' c) F.width f c (λ h. get_or-tab F.width g false (f c) (omega (arith, lo c h)) ∙ co c h
      ∙ sym (get_or-tab F.width g false c h)) (λ _. refl)

  tab_classes : F.consts ≡ tab F.width g → F.cls ≡ tab F.width f → Classes F
  tab_classes p q =
      record {
        consts_long = ap length p ∙ length-tab F.width g;
        cls_long = ap length q ∙ length-tab F.width f;
        low = subst (λ (t : List ℕ). (c : ℕ) → get_or t c c ≤ c) (sym q) tab_low;
        idem = subst (λ (t : List ℕ). (c : ℕ) → get_or t (get_or t c c) (get_or t c c) ≡ get_or t c c) (sym q) tab_idem;
        const = subst₂ (λ (s : List Bool) (t : List ℕ). (c : ℕ) → get_or s (get_or t c c) false ≡ get_or s c false) (sym p) (sym q) tab_const;
      }

-- ---- the left side
module _ (F : Facts) (h : Classes F) where
  abbrev f_l : ℕ → ℕ
  f_l c = cond (ltb c F.width) (cl F c) c

  abbrev g_l : ℕ → Bool
  g_l c = ltb c F.width && is_c F c

  f_l-near : (c : ℕ) → c < F.width → f_l c ≡ cl F c
  f_l-near c l = ap (λ (b : Bool). cond b (cl F c) c) (lt-ltb c F.width l)

  g_l-near : (c : ℕ) → c < F.width → g_l c ≡ is_c F c
  g_l-near c l = ap (λ (b : Bool). b && is_c F c) (lt-ltb c F.width l)

  placed_classes : (n : ℕ) → Classes (placed F n)
  placed_classes n = tab_classes (placed F n) f_l g_l (λ c _. lo c) (λ c _. id c) (λ c _. co c) refl refl
    where
      lo : (c : ℕ) → f_l c ≤ c
      lo c = (elim (ltb c F.width) as (λ b. cond b (cl F c) c ≤ c) [ true ↦ h.low c | false ↦ omega arith ])

      near : (c : ℕ) → ltb c F.width ≡ true → cl F c < F.width
      near c e = omega (arith, ltb-true c F.width e, h.low c)

      id : (c : ℕ) → f_l (f_l c) ≡ f_l c
      id c = (elim (ltb c F.width) as (λ b. ltb c F.width ≡ b → f_l (cond b (cl F c) c) ≡ cond b (cl F c) c) [
        | true ↦ λ e. f_l-near (cl F c) (near c e)
            ∙ h.idem c
        | false ↦ λ e. ap (λ (b : Bool). cond b (cl F c) c) e
      ]) refl

      co : (c : ℕ) → g_l (f_l c) ≡ g_l c
      co c = (elim (ltb c F.width) as (λ b. ltb c F.width ≡ b → g_l (cond b (cl F c) c) ≡ g_l c) [
        | true ↦ λ e. g_l-near (cl F c) (near c e) ∙ h.const c
            ∙ sym (g_l-near c (ltb-true c F.width e))
        | false ↦ λ e. refl
      ]) refl

  -- an order whose columns are the left side's stays in normal form
  placed_normal : (n : ℕ) {seen : List ℕ} {ks : List Key} → Normal (is_c F) (cl F) seen ks → All (λ k. k.col < F.width) ks →
      Normal (is_c (placed F n)) (cl (placed F n)) seen ks
  placed_normal n n_nil fits = n_nil
  placed_normal n (n_cons {k = k} a b c m) fits =
      let l : k.col < F.width = all_head fits in
      n_cons (get_or-tab (F.width + n) f_l k.col k.col (omega arith) ∙ f_l-near k.col l ∙ a)
      (get_or-tab (F.width + n) g_l false k.col (omega arith) ∙ g_l-near k.col l ∙ b) c (placed_normal n m (all_tail fits))

placed-canon : (F : Facts) → Canon F → All (λ k. k.col < F.width) F.order → (n : ℕ) → Canon (placed F n)
placed-canon F h fits n = record { classes = placed_classes F h.classes n; normal = placed_normal F h.classes n h.normal fits }

-- ---- the right side
module _ (w : ℕ) (G : Facts) (h : Classes G) where
  abbrev f_r : ℕ → ℕ
  f_r c = w + cl G (c - w)

  back : (x : ℕ) → (w + x) - w ≡ x
  back x = omega arith

  f_r_low : (c : ℕ) → w ≤ c → f_r c ≤ c
  f_r_low c l = omega (arith, h.low (c - w))

  f_r_idem : (c : ℕ) → f_r (f_r c) ≡ f_r c
  f_r_idem c = ap (λ (d : ℕ). w + d) (ap (cl G) (back (cl G (c - w))) ∙ h.idem (c - w))

  f_r_const : (c : ℕ) → is_c G (f_r c - w) ≡ is_c G (c - w)
  f_r_const c = ap (is_c G) (back (cl G (c - w))) ∙ h.const (c - w)

  abbrev f_s : ℕ → ℕ
  f_s c = cond (leb w c) (f_r c) c

  abbrev g_s : ℕ → Bool
  g_s c = leb w c && is_c G (c - w)

  f_s-far : (c : ℕ) → w ≤ c → f_s c ≡ f_r c
  f_s-far c l = ap (λ (b : Bool). cond b (f_r c) c) (le-leb w c l)

  g_s-far : (c : ℕ) → w ≤ c → g_s c ≡ is_c G (c - w)
  g_s-far c l = ap (λ (b : Bool). b && is_c G (c - w)) (le-leb w c l)

  shifted_classes : Classes (shifted w G)
  shifted_classes = tab_classes (shifted w G) f_s g_s lo id co refl refl
    where
      n : ℕ
      n = w + G.width

      lo : (c : ℕ) → c < n → f_s c ≤ c
      lo c l = (elim (leb w c) as (λ b. leb w c ≡ b → cond b (f_r c) c ≤ c) [ true ↦ λ e. f_r_low c (leb-true w c e) | false ↦ λ e. omega arith ]) refl

      id : (c : ℕ) → c < n → f_s (f_s c) ≡ f_s c
      id c l = (elim (leb w c) as (λ b. leb w c ≡ b → f_s (cond b (f_r c) c) ≡ cond b (f_r c) c) [
        | true ↦ λ e. f_s-far (f_r c) (omega arith)
            ∙ f_r_idem c
        | false ↦ λ e. ap (λ (b : Bool). cond b (f_r c) c) e
      ]) refl

      co : (c : ℕ) → c < n → g_s (f_s c) ≡ g_s c
      co c l = (elim (leb w c) as (λ b. leb w c ≡ b → g_s (cond b (f_r c) c) ≡ g_s c) [
        | true ↦ λ e. g_s-far (f_r c) (omega arith) ∙ f_r_const c
            ∙ sym (g_s-far c (leb-true w c e))
        | false ↦ λ e. refl
      ]) refl

-- ---- both sides
module _ (F G : Facts) (h : Classes F) (k : Classes G) where
  abbrev wl : ℕ
  wl = F.width

  abbrev f_b : ℕ → ℕ
  f_b c = cond (ltb c wl) (cl F c) (wl + cl G (c - wl))

  abbrev g_b : ℕ → Bool
  g_b c = cond (ltb c wl) (is_c F c) (is_c G (c - wl))

  f_b-near : (c : ℕ) → c < wl → f_b c ≡ cl F c
  f_b-near c l = ap (λ (b : Bool). cond b (cl F c) (f_r wl G k c)) (lt-ltb c wl l)

  f_b-far : (c : ℕ) → wl ≤ c → f_b c ≡ f_r wl G k c
  f_b-far c l = ap (λ (b : Bool). cond b (cl F c) (f_r wl G k c)) (le-ltb c wl l)

  g_b-near : (c : ℕ) → c < wl → g_b c ≡ is_c F c
  g_b-near c l = ap (λ (b : Bool). cond b (is_c F c) (is_c G (c - wl))) (lt-ltb c wl l)

  g_b-far : (c : ℕ) → wl ≤ c → g_b c ≡ is_c G (c - wl)
  g_b-far c l = ap (λ (b : Bool). cond b (is_c F c) (is_c G (c - wl))) (le-ltb c wl l)

  record Three (c : ℕ) : Type 0 where
    lo : f_b c ≤ c
    id : f_b (f_b c) ≡ f_b c
    co : g_b (f_b c) ≡ g_b c

  three : (c : ℕ) → Three c
  three c = ⊎_elim near far (which (ltb c wl))
    where
      near : ltb c wl ≡ true → Three c
      near e =
          let l : c < wl = ltb-true c wl e in
          let m : cl F c < wl = omega (arith, h.low c) in
          record {
            lo = subst (λ (d : ℕ). d ≤ c) (sym (f_b-near c l)) (h.low c);
            id = ap f_b (f_b-near c l) ∙ f_b-near (cl F c) m ∙ h.idem c ∙ sym (f_b-near c l);
            co = ap g_b (f_b-near c l) ∙ g_b-near (cl F c) m ∙ h.const c ∙ sym (g_b-near c l);
          }

      far : ltb c wl ≡ false → Three c
      far e =
          let l : wl ≤ c = ltb-false c wl e in
          let m : wl ≤ f_r wl G k c = omega arith in
          record {
            lo = subst (λ (d : ℕ). d ≤ c) (sym (f_b-far c l)) (f_r_low wl G k c l);
            id = ap f_b (f_b-far c l) ∙ f_b-far (f_r wl G k c) m ∙ f_r_idem wl G k c ∙ sym (f_b-far c l);
            co = ap g_b (f_b-far c l) ∙ g_b-far (f_r wl G k c) m ∙ f_r_const wl G k c ∙ sym (g_b-far c l);
          }

  beside_classes : Classes (beside F G)
  beside_classes = tab_classes (beside F G) f_b g_b (λ c _. (three c).lo) (λ c _. (three c).id) (λ c _. (three c).co) refl refl

-- ---- linked classes
absorb : (x y z : Bool) → (x ≡ y) ⊎ (x ≡ z) → x || (y || z) ≡ (y || z)
absorb true true z e = refl
absorb true false true e = refl
absorb true false false e = ⊎_elim (λ p. p) (λ p. p) e
absorb false y z e = refl

module _ (F : Facts) (a b : ℕ) (h : Classes F) where
  abbrev m : ℕ
  m = min (cl F a) (cl F b)

  abbrev f_k : ℕ → ℕ
  f_k c = cond (in_class F a b c) m (cl F c)

  abbrev g_k : ℕ → Bool
  g_k c = is_c F c || (in_class F a b c && (is_c F a || is_c F b))

  -- a column in the linked class is in a's or in b's
  of_class : (c : ℕ) → in_class F a b c ≡ true → (cl F c ≡ cl F a) ⊎ (cl F c ≡ cl F b)
  of_class c e = ⊎_elim (λ p. inl (eqb-true (cl F c) (cl F a) p)) (λ p. inr (eqb-true (cl F c) (cl F b) p))
      (or_cases (eqb (cl F c) (cl F a)) (eqb (cl F c) (cl F b)) e)

  const_of : (c : ℕ) → (cl F c ≡ cl F a) ⊎ (cl F c ≡ cl F b) → (is_c F c ≡ is_c F a) ⊎ (is_c F c ≡ is_c F b)
  const_of c (inl e) = inl (sym (h.const c) ∙ ap (is_c F) e ∙ h.const a)
  const_of c (inr e) = inr (sym (h.const c) ∙ ap (is_c F) e ∙ h.const b)

  m_class : (cl F m ≡ cl F a) ⊎ (cl F m ≡ cl F b)
  m_class = ⊎_elim (λ e. inl (ap (cl F) e ∙ h.idem a)) (λ e. inr (ap (cl F) e ∙ h.idem b)) (min_cases (cl F a) (cl F b))

  in_true : (c : ℕ) → (cl F c ≡ cl F a) ⊎ (cl F c ≡ cl F b) → in_class F a b c ≡ true
  in_true c (inl e) = ap (λ (t : Bool). t || eqb (cl F c) (cl F b)) (eq-eqb (cl F c) (cl F a) e)
  in_true c (inr e) = or_right (eqb (cl F c) (cl F a)) (eqb (cl F c) (cl F b)) (eq-eqb (cl F c) (cl F b) e)

  in_rep : (c : ℕ) → in_class F a b (cl F c) ≡ in_class F a b c
  in_rep c = ap (λ (d : ℕ). eqb d (cl F a) || eqb d (cl F b)) (h.idem c)

  g_k_in : (c : ℕ) → in_class F a b c ≡ true → g_k c ≡ (is_c F a || is_c F b)
  g_k_in c e = ap (λ (t : Bool). is_c F c || (t && (is_c F a || is_c F b))) e ∙ absorb (is_c F c) (is_c F a) (is_c F b) (const_of c (of_class c e))

  lo : (c : ℕ) → f_k c ≤ c
  lo c = (elim (in_class F a b c) as (λ t. in_class F a b c ≡ t → cond t m (cl F c) ≤ c) [
    | true ↦ λ e. ⊎_elim (λ p. omega (arith, h.low c))
        (λ p. omega (arith, h.low c)) (of_class c e)
    | false ↦ λ e. h.low c
  ]) refl

  id : (c : ℕ) → f_k (f_k c) ≡ f_k c
  id c = (elim (in_class F a b c) as (λ t. in_class F a b c ≡ t → f_k (cond t m (cl F c)) ≡ cond t m (cl F c)) [
    | true ↦ λ e. ap (λ (t : Bool). cond t m (cl F m)) (in_true m m_class)
    | false ↦ λ e. ap (λ (t : Bool). cond t m (cl F (cl F c))) (in_rep c ∙ e)
        ∙ h.idem c
  ]) refl

  co : (c : ℕ) → g_k (f_k c) ≡ g_k c
  co c = (elim (in_class F a b c) as (λ t. in_class F a b c ≡ t → g_k (cond t m (cl F c)) ≡ g_k c) [
    | true ↦ λ e. g_k_in m (in_true m m_class)
        ∙ sym (g_k_in c e)
    | false ↦ λ e. ap₂ (λ (x t : Bool). x || (t && (is_c F a || is_c F b))) (h.const c) (in_rep c)
  ]) refl

  linked_classes : Classes (linked F a b)
  linked_classes = tab_classes (linked F a b) f_k g_k (λ c _. lo c) (λ c _. id c) (λ c _. co c) refl refl

link_all_classes : (w : ℕ) (on : List On) (F : Facts) → Classes F → Classes (link_all w on F)
link_all_classes w [] F h = h
link_all_classes w (k ∷ on) F h = link_all_classes w on (cond (ltb k.key.col w) (linked F k.key.col (w + k.other)) F) (go (ltb k.key.col w))
  where
    go : (b : Bool) → Classes (cond b (linked F k.key.col (w + k.other)) F)
    go true = linked_classes F k.key.col (w + k.other) h
    go false = h

pub join_classes : (t : JoinType) (on : List On) (F G : Facts) → Classes F → Classes G → Classes (join_base t on F G)
join_classes Inner on F G h k = link_all_classes F.width on (beside F G) (beside_classes F G h k)
join_classes Left on F G h k = placed_classes F h G.width
join_classes Right on F G h k = shifted_classes F.width G k
join_classes Full on F G h k = unknown_classes (F.width + G.width)
join_classes LeftSemi on F G h k = h
join_classes LeftAnti on F G h k = h
join_classes RightSemi on F G h k = k
join_classes RightAnti on F G h k = k

join_canon : (t : JoinType) (q : Kept) (on : List On) (F G : Facts) (n : ℕ) → Canon F → Canon G → Canon (join_facts t q on F G n)
join_canon t q on F G n h k = nf_canon (join_base t on F G) n (join_order t q F G) (join_classes t on F G h.classes k.classes)

-- ---- every node
pub nth_canon : (fs : List Facts) → All Canon fs → (n : ℕ) → Canon (get_or fs n nothing)
nth_canon [] all_nil n = nothing_canon
nth_canon (F ∷ fs) (all_cons h hs) zero = h
nth_canon (F ∷ fs) (all_cons h hs) (suc n) = nth_canon fs hs n

pub op_canon : (o : Op) (fs : List Facts) → All Canon fs → Canon (facts_op o fs)
op_canon (source s) fs hs = nf_canon (source_facts s.width s.streams s.constants) s.streams s.keys
    (source_classes s.width s.streams s.constants)
op_canon filter fs hs = nth_canon fs hs 0
op_canon (projection cols) fs hs = proj_canon (at0 fs) (nth_canon fs hs 0) cols
op_canon union fs hs = union_canon fs hs
op_canon (repartition p n h ks) fs hs = kept_canon (at0 fs) n (keeps_order p (at0 fs)) (nth_canon fs hs 0)
op_canon (coalesce f) fs hs = ordered_canon (at0 fs) 1 [] (nth_canon fs hs 0).classes n_nil
op_canon (sort_op p ks f) fs hs = nf_canon (at0 fs) (sort_streams p (at0 fs)) ks (nth_canon fs hs 0).classes
op_canon (merge_op ks f) fs hs = nf_canon (at0 fs) 1 ks (nth_canon fs hs 0).classes
op_canon (global_limit s f note) fs hs = kept_canon (at0 fs) 1 (eqb (at0 fs).streams 1) (nth_canon fs hs 0)
op_canon (local_limit f note) fs hs = nth_canon fs hs 0
op_canon (sort_merge_join t on) fs hs = join_canon t (smj_kept t) on (at0 fs) (at1 fs) (cond (by_right t) (at1 fs).streams (at0 fs).streams)
    (nth_canon fs hs 0) (nth_canon fs hs 1)
op_canon (hash_join t on) fs hs = join_canon t (hash_kept t) on (at0 fs) (at1 fs) (at1 fs).streams (nth_canon fs hs 0) (nth_canon fs hs 1)
op_canon (output_requirement ks d f) fs hs = nth_canon fs hs 0
op_canon (partial_sort p ks n f) fs hs = nf_canon (at0 fs) (sort_streams p (at0 fs)) ks (nth_canon fs hs 0).classes
op_canon (aggregate ks n) fs hs = placed-canon (proj_facts (at0 fs) (columns_of ks)) (proj_canon (at0 fs) (nth_canon fs hs 0) (columns_of ks))
    (proj_fits (at0 fs) (columns_of ks) (at0 fs).order) n

pub canon : (f : Plan) → All Canon (facts f)
canon none = all_nil
canon (tree o c r) = all_cons (op_canon o (facts c) (canon c)) (canon r)

-- a known order is its own normal form: "its normal form is a prefix of the known order's"
pub known_normal : (f : Plan) → All (λ F. nf F [] F.order ≡ F.order) (facts f)
known_normal f = all_map (λ F h. normal_nf (is_c F) (cl F) h.normal) (canon f)
