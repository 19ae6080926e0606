-- Partial sorting changes one record: every node's facts and all sources stay, the order check still passes, and the answer is well formed again.
use Rattle.std.specs.Prelude.{◌≡◌, refl, Bool, true, false, cond, ◌&&◌, ◌||◌, List, [], ◌∷◌, ◌++◌, map, ℕ, zero, suc, ◌+◌, ◌-◌, ◌≤◌, ◌<◌, eqb, ltb, leb, length, get_or, take, Option}
use Rattle.std.proofs.Common.{sym, ap, ap₂, ◌∙◌, subst, append_assoc, arith, eq-eqb, ltb-true, le-leb, lt-ltb, ltb-false}
use Rattle.row_order.specs.Iso.{Key}
use Rattle.row_order.proofs.Order.{no_bool}
use Rattle.plan.specs.Forest.{none, size, tree}
use Rattle.plan.specs.Op.{coalesce, merge_op, Op, partial_sort, Plan, repartition, sort_op}
use Rattle.plan.specs.WellFormed.{fetch_ok, keys_fit, node_ok, some, well_formed}
use Rattle.semantics.specs.Facts.{at0, Facts, facts, facts_op, met}
use Rattle.semantics.specs.Properties.{any_of, endless}
use Rattle.semantics.specs.Check.{check, wants_met}
use Rattle.semantics.specs.Runs.{Env, next_s, past, SourceOK, Sources}
use Rattle.semantics.proofs.Theorems.Common.Bools.{and_left, and_right, or_false}
use Rattle.walks.specs.Marks.{Shape}
use Rattle.walks.specs.PartialSort.{common_prefix_length, from_node, partial_by, replace_with_partial_sort, set_node}
use Rattle.walks.specs.Counted.{answered, partial_at, partially_sorted}
use Rattle.walks.specs.Trees.{count, Ok}
use Rattle.walks.proofs.Theorems.Common.Trees.{ok_to}
use Rattle.walks.proofs.Theorems.Common.Keeps.{shape_ind}
use Rattle.walks.proofs.Theorems.Calls.Answers.{is_answer, plan_or, well_ok}

-- ---- another node in a node's place
abbrev InPlace : Plan → Op → Type 0
InPlace none p = Unit {0}
InPlace (tree o c r) p =
    (facts_op p (facts c) ≡ facts_op o (facts c)) × (node_ok o (map (λ F. F.width) (facts c)) ≡ true → node_ok p (map (λ F. F.width) (facts c)) ≡ true)
    × (wants_met o (facts c) ≡ true → wants_met p (facts c) ≡ true) × ((i : ℕ) → next_s p i ≡ next_s o i)
    × ((E : Env) (i : ℕ) → SourceOK E i o → SourceOK E i p)

itself_in_place : (o : Op) (c r : Plan) → InPlace (tree o c r) o
itself_in_place o c r = (refl, λ h. h, λ h. h, λ i. refl, λ E i h. h)

pub record SetKept (f g : Plan) : Type 0 where
  pub same : facts g ≡ facts f
  pub ok : Ok f → Ok g
  pub passes : check f ≡ true → check g ≡ true
  pub long : size g ≡ size f
  pub number : count g ≡ count f
  pub ahead : (i : ℕ) → past next_s g i ≡ past next_s f i
  pub sources : (E : Env) (i : ℕ) → Sources E i f → Sources E i g

set_refl : (f : Plan) → SetKept f f
set_refl f = record { same = refl; ok = λ h. h; passes = λ e. e; long = refl; number = refl; ahead = λ i. refl; sources = λ E i h. h }

set_kids : (o : Op) (c d r : Plan) → SetKept c d → SetKept (tree o c r) (tree o d r)
set_kids o c d r k =
    record {
      same = ap (λ (fs : List Facts). facts_op o fs ∷ facts r) k.same;
      ok = λ h. (ap (λ (fs : List Facts). node_ok o (map (λ F. F.width) fs)) k.same ∙ h.0, k.ok h.1, h.2);
      passes = λ e. let w : wants_met o (facts c) ≡ true = search and_left in
          ap₂ ◌&&◌ (ap (wants_met o) k.same ∙ w) (ap₂ ◌&&◌ (k.passes (search (and_left, and_right))) (and_right (check c) (check r) (search and_right)));
      long = ap (λ (n : ℕ). suc (n + size r)) k.long;
      number = refl;
      ahead = λ i. ap (past next_s r) (k.ahead (next_s o i));
      sources = λ E i h. (h.0, k.sources E (next_s o i) h.1, subst (λ (n : ℕ). Sources E n r) (sym (k.ahead (next_s o i))) h.2);
    }

set_right : (o : Op) (c r s : Plan) → SetKept r s → SetKept (tree o c r) (tree o c s)
set_right o c r s k =
    record {
      same = ap (λ (fs : List Facts). facts_op o (facts c) ∷ fs) k.same;
      ok = λ h. (h.0, h.1, k.ok h.2);
      passes = λ e. let w : wants_met o (facts c) ≡ true = search and_left in let x : check c ≡ true = search (and_left, and_right) in
          ap₂ ◌&&◌ w (ap₂ ◌&&◌ x (k.passes (search (and_left, and_right))));
      long = ap (λ (n : ℕ). suc (size c + n)) k.long;
      number = ap suc k.number;
      ahead = λ i. k.ahead (past next_s c (next_s o i));
      sources = λ E i h. (h.0, h.1, k.sources E (past next_s c (next_s o i)) h.2);
    }

set_kept : (n : ℕ) (p : Op) (f : Plan) → InPlace (from_node n f) p → SetKept f (set_node n p f)
set_kept n p none h = set_refl none
set_kept zero p (tree o c r) h =
    record {
      same = ap (λ (F : Facts). F ∷ facts r) h.0;
      ok = λ v. (h.1 v.0, v.1, v.2);
      passes = λ e. let w : wants_met o (facts c) ≡ true = search and_left in ap₂ ◌&&◌ (h.2 w) (and_right (wants_met o (facts c)) (check c && check r) e);
      long = refl;
      number = refl;
      ahead = λ i. ap (λ (n : ℕ). past next_s r (past next_s c n)) (h.3 i);
      sources = λ E i v.
          let next : next_s o i ≡ next_s p i = sym (h.3 i) in
          (h.4 E i v.0, subst (λ (n : ℕ). Sources E n c) next v.1, subst (λ (n : ℕ). Sources E (past next_s c n) r) next v.2);
    }
set_kept (suc n) p (tree o c r) h = go (ltb n (size c)) (λ i. set_kept n p c i) (λ i. set_kept (n - size c) p r i) h
  where
    go : (b : Bool) → (InPlace (from_node n c) p → SetKept c (set_node n p c)) → (InPlace (from_node (n - size c) r) p → SetKept r (set_node (n - size c) p r))
        →
        InPlace (cond b (from_node n c) (from_node (n - size c) r)) p
        → SetKept (tree o c r) (cond b (tree o (set_node n p c) r) (tree o c (set_node (n - size c) p r)))
    go true k l i = set_kids o c (set_node n p c) r (k i)
    go false k l i = set_right o c r (set_node (n - size c) p r) (l i)

-- ---- the met prefix
prefix_le : (F : Facts) (done ks : List Key) → common_prefix_length F done ks ≤ length ks
prefix_le F done [] = omega arith
prefix_le F done (k ∷ ks) = go (met F (done ++ (k ∷ []))) (prefix_le F (done ++ (k ∷ [])) ks)
  where
    go : (b : Bool) → common_prefix_length F (done ++ (k ∷ [])) ks ≤ length ks → cond b (suc (common_prefix_length F (done ++ (k ∷ [])) ks)) 0 ≤ suc (length ks)
    go true h = omega arith
    go false h = omega arith

prefix_met : (F : Facts) (done ks : List Key) (n : ℕ) → common_prefix_length F done ks ≡ suc n → met F (done ++ take (suc n) ks) ≡ true
prefix_met F done [] n e = absurd (omega arith)
prefix_met F done (k ∷ ks) n e = go (met F more) refl n (common_prefix_length F more ks) (λ m q. prefix_met F more ks m q) e
  where
    more : List Key
    more = done ++ (k ∷ [])

    go : (b : Bool) → met F more ≡ b → (n m : ℕ) → ((j : ℕ) → m ≡ suc j → met F (more ++ take (suc j) ks) ≡ true) → cond b (suc m) 0 ≡ suc n
        → met F (done ++ (k ∷ take n ks)) ≡ true
    go true t zero m ih q = t
    go true t (suc n) m ih q = ap (met F) (sym (append_assoc done (k ∷ []) (take (suc n) ks))) ∙ ih n (omega arith)
    go false t n m ih q = absurd (omega arith)

-- ---- what a sort becomes
less : (m n : ℕ) → m ≤ n → eqb m n ≡ false → m < n
less m n l e = go (ltb m n) refl
  where
    go : (b : Bool) → ltb m n ≡ b → m < n
    go true q = ltb-true m n q
    go false q = no_bool (sym e ∙ eq-eqb m n (omega (arith, ltb-false m n q)))

module _ (c : Plan) (p : Bool) (ks : List Key) (f : Option ℕ) where
  -- a partial sort with its prefix short of all keys
  partial_in_place : (r : Plan) (m : ℕ) → suc m < length ks → met (at0 (facts c)) (take (suc m) ks) ≡ true → InPlace (tree (sort_op p ks f) c r)
      (partial_sort p ks (suc m) f)
  partial_in_place r m l e = (
    refl,
    λ h.
        let s : some ks && fetch_ok f ≡ true = search (and_left, and_right) in
        let k : eqb (length (map (λ F. F.width) (facts c))) 1 ≡ true = search (and_left, and_right) in
        let w : keys_fit (get_or (map (λ F. F.width) (facts c)) 0 0) ks && leb (get_or (map (λ F. F.width) (facts c)) 0 0) 32 ≡ true =
        search (and_left, and_right) in
        ap₂ ◌&&◌ (ap₂ ◌&&◌ (ap₂ ◌&&◌ s (ap₂ ◌&&◌ (le-leb 1 (suc m) (omega arith)) (lt-ltb (suc m) (length ks) l))) k) w,
    λ h. ap₂ ◌&&◌ e refl,
    λ i. refl,
    λ E i h. tt,
  )

  met_in_place : (r : Plan) (m : ℕ) → common_prefix_length (at0 (facts c)) [] ks ≡ m → (eqb m 0 || eqb m (length ks)) ≡ false
      → InPlace (tree (sort_op p ks f) c r) (partial_sort p ks m f)
  met_in_place r zero q e = no_bool (sym e)
  met_in_place r (suc m) q e =
      partial_in_place r m
      (less (suc m) (length ks) (omega (arith, prefix_le (at0 (facts c)) [] ks)) (or_false (eqb (suc m) 0) (eqb (suc m) (length ks)) e).1)
      (prefix_met (at0 (facts c)) [] ks m q)

  abbrev m : ℕ
  m = common_prefix_length (at0 (facts c)) [] ks

  sort_in_place : (r : Plan) (x b : Bool) → (eqb m 0 || eqb m (length ks)) ≡ b → InPlace (tree (sort_op p ks f) c r)
      (cond x (cond b (sort_op p ks f) (partial_sort p ks m f)) (sort_op p ks f))
  sort_in_place r true true q = itself_in_place (sort_op p ks f) c r
  sort_in_place r true false q = met_in_place r m refl q
  sort_in_place r false b q = itself_in_place (sort_op p ks f) c r

replaced_in_place : (c r : Plan) (o : Op) → InPlace (tree o c r) (replace_with_partial_sort o c)
replaced_in_place c r =
    shape_ind (λ p. InPlace (tree p c r) (replace_with_partial_sort p c))
    (λ p ks f. let m : ℕ = common_prefix_length (at0 (facts c)) [] ks in sort_in_place c p ks f r (any_of (endless c)) (eqb m 0 || eqb m (length ks)) refl)
    (λ ks f. itself_in_place (merge_op ks f) c r)
    (λ p n h ks. itself_in_place (repartition p n h ks) c r)
    (λ f. itself_in_place (coalesce f) c r)
    (λ p s. subst (InPlace (tree p c r)) (sym (ap (λ (z : Shape). partial_by z p c) s)) (itself_in_place p c r))

-- ---- the call
pub partial_kept : (n : ℕ) (f g : Plan) → partially_sorted n f ≡ answered g → SetKept f g
partial_kept n f g e = go (from_node n f) refl e
  where
    go : (h : Plan) → from_node n f ≡ h → partial_at n f h ≡ answered g → SetKept f g
    go none i q = no_bool (ap is_answer q)
    go (tree o c r) i q =
        let p : Op = replace_with_partial_sort o c in
        subst (SetKept f) (ap (plan_or f) q) (set_kept n p f (subst (λ (h : Plan). InPlace h p) (sym i) (replaced_in_place c r o)))

pub partial_well : (n : ℕ) (f g : Plan) → well_formed f ≡ true → partially_sorted n f ≡ answered g → well_formed g ≡ true
partial_well n f g e h =
    let k : SetKept f g = partial_kept n f g h in
    let s : leb (size f) 126 ≡ true = search (and_left, and_right) in
    let r : eqb (count f) 1 ≡ true = search and_left in
    ap₂ ◌&&◌ (ap (λ (m : ℕ). eqb m 1) k.number ∙ r) (ap₂ ◌&&◌ (ap (λ (m : ℕ). leb m 126) k.long ∙ s) (ok_to g (k.ok (well_ok f e))))

pub partial_passes : (n : ℕ) (f g : Plan) → check f ≡ true → partially_sorted n f ≡ answered g → check g ≡ true
partial_passes n f g e h = (partial_kept n f g h).passes e

-- The sources stay, and with them what they declare
pub partial_sources : (n : ℕ) (f g : Plan) → partially_sorted n f ≡ answered g → (E : Env) → Sources E 0 f → Sources E 0 g
partial_sources n f g h E d = (partial_kept n f g h).sources E 0 d
