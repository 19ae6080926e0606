-- Facts that know as much of the order or more, of as many streams or more; an order on a single stream stays on a single stream. What a
-- node knows then is wider where what its children know is, and a wanted order that was met is met.
use Rattle.std.specs.Prelude.{◌≡◌, refl, Bool, true, false, cond, not, ◌&&◌, ◌||◌, ◌⊎◌, List, [], ◌∷◌, map, ℕ, suc, ◌≤◌, ◌<◌, eqb, ltb, length, get_or, Option}
use Rattle.std.proofs.Common.{sym, ap, ap₂, ◌∙◌, subst, inl, inr, arith, eqb-true, eq-eqb, ltb-true, lt-ltb}
use Rattle.std.proofs.lemmas.Bool.{not-true}
use Rattle.row_order.specs.Iso.{Key}
use Rattle.row_order.proofs.Order.{no_bool}
use Rattle.row_order.specs.Lists.{All, all_cons}
use Rattle.plan.specs.Forest.{none}
use Rattle.plan.specs.Op.{coalesce, filter, global_limit, hash_join, local_limit, merge_op, On, Op, output_requirement, partial_sort, aggregate, projection, repartition, sort_merge_join, sort_op, source, union}
use Rattle.plan.specs.Numbers.{code}
use Rattle.plan.specs.WellFormed.{member, columns_of}
use Rattle.plan.specs.declared.JoinType.{JoinType}
use Rattle.plan.specs.declared.JoinType.TheVariants.{Full, Inner, Left, LeftAnti, LeftSemi, Right, RightAnti, RightSemi}
use Rattle.semantics.specs.Facts.{at0, at1, both, by_right, carried, cl, common, counts, eq_key, Facts, facts_op, hash_kept, is_c, is_nil, join_base, join_facts, join_order, keeps_order, Kept, k_left, k_none, k_right, left_order, met, moved, nf, nf_by, nothing, ordered, placed, prefixb, proj_facts, proj_order, right_order, smj_kept, sort_streams, union_facts, with_column, within}
use Rattle.semantics.specs.Properties.{wanted_orders}
use Rattle.semantics.specs.Check.{orders_met, wants_met}
use Rattle.semantics.specs.Runs.{Each, each_cons, each_nil}
use Rattle.semantics.proofs.Theorems.Common.Bools.{and_left, and_right, or_right}
use Rattle.semantics.proofs.Theorems.Common.Streams.{each_at}
use Rattle.walks.specs.Utils.{is_sort}
use Rattle.walks.specs.Counted.{one}
use Rattle.walks.specs.Terms.{blank}
use Rattle.walks.proofs.Theorems.Common.Base.{op_blank}

-- ---- a list's front
pub data Front : List Key → List Key → Type 0 where
  front_nil : {q : List Key} → Front [] q
  front_cons : {k : Key} {p q : List Key} → Front p q → Front (k ∷ p) (k ∷ q)

front_refl : (p : List Key) → Front p p
front_refl [] = front_nil
front_refl (k ∷ p) = front_cons (front_refl p)

front_prefix : (p : List Key) {q r : List Key} → prefixb p q ≡ true → Front q r → prefixb p r ≡ true
front_prefix [] e f = refl
front_prefix (k ∷ p) e front_nil = no_bool e
front_prefix (k ∷ p) e (front_cons {k = l} {p = q} f) = ap₂ ◌&&◌ (and_left (eq_key k l) (prefixb p q) e)
    (front_prefix p (and_right (eq_key k l) (prefixb p q) e) f)

front_cond : (b : Bool) {p q : List Key} → Front p q → Front (cond b p []) (cond b q [])
front_cond true f = f
front_cond false f = front_nil

front_common : {p q r s : List Key} → Front p q → Front r s → Front (common p r) (common q s)
front_common front_nil g = front_nil
front_common (front_cons f) front_nil = front_nil
front_common (front_cons {k = k} f) (front_cons {k = l} g) = front_cond (eq_key k l) (front_cons (front_common f g))

front_map : (g : Key → Key) {p q : List Key} → Front p q → Front (map g p) (map g q)
front_map g front_nil = front_nil
front_map g (front_cons f) = front_cons (front_map g f)

front_within : (w : ℕ) {p q : List Key} → Front p q → Front (within w p) (within w q)
front_within w front_nil = front_nil
front_within w (front_cons {k = k} f) = front_cond (ltb k.col w) (front_cons (front_within w f))

front_nf : (cs : ℕ → Bool) (low : ℕ → ℕ) (seen : List ℕ) {p q : List Key} → Front p q → Front (nf_by cs low seen p) (nf_by cs low seen q)
front_nf cs low seen front_nil = front_nil
front_nf cs low seen (front_cons {k = k} {p = p} {q = q} f) = go (cs (low k.col) || member (low k.col) seen) (front_nf cs low seen f)
    (front_nf cs low (low k.col ∷ seen) f)
  where
    go : (b : Bool) → Front (nf_by cs low seen p) (nf_by cs low seen q) → Front (nf_by cs low (low k.col ∷ seen) p) (nf_by cs low (low k.col ∷ seen) q)
        → Front (cond b (nf_by cs low seen p) (with_column (low k.col) k ∷ nf_by cs low (low k.col ∷ seen) p))
        (cond b (nf_by cs low seen q) (with_column (low k.col) k ∷ nf_by cs low (low k.col ∷ seen) q))
    go true h _ = h
    go false _ h = front_cons h

front_some : {p q : List Key} → Front p q → is_nil p ≡ false → is_nil q ≡ false
front_some front_nil e = no_bool (sym e)
front_some (front_cons f) e = refl

-- ---- wider facts
pub record Wider (F G : Facts) : Type 0 where
  pub base : blank G ≡ blank F
  pub order : Front F.order G.order
  pub alone : F.streams ≡ 1 → (F.order ≡ []) ⊎ (G.streams ≡ 1)
  pub several : 1 < F.streams → 1 < G.streams

pub wider_refl : (F : Facts) → Wider F F
wider_refl F = record { base = refl; order = front_refl F.order; alone = λ e. inr e; several = λ h. h }

pub wider_met : (F G : Facts) (ks : List Key) → Wider F G → met F ks ≡ true → met G ks ≡ true
wider_met F G ks w e = ap (λ (B : Facts). prefixb (nf B [] ks) G.order) w.base ∙ front_prefix (nf F [] ks) e w.order

-- ---- of a node
module _ (F G : Facts) (w : Wider F G) where
  same_nf : (ks : List Key) → Front (nf F [] ks) (nf G [] ks)
  same_nf ks = subst (λ (B : Facts). Front (nf F [] ks) (nf B [] ks)) (sym w.base) (front_refl (nf F [] ks))

  kept_order_lem : (p : Bool) → Front (cond (keeps_order p F) F.order []) (cond (keeps_order p G) G.order [])
  kept_order_lem p = go (eqb F.streams 1) refl (counts p F) refl
    where
      -- one stream: it has no order, or stays one
      one : (F.order ≡ []) ⊎ (G.streams ≡ 1) → Front F.order (cond (keeps_order p G) G.order [])
      one (inl e) = subst (λ (l : List Key). Front l (cond (keeps_order p G) G.order [])) (sym e) front_nil
      one (inr e) = subst (λ (b : Bool). Front F.order (cond (b || counts p G) G.order [])) (sym (eq-eqb G.streams 1 e)) w.order

      marked : counts p F ≡ true → counts p G ≡ true
      marked e =
          let m : p ≡ true = search and_left in
          ap₂ ◌&&◌ m (ap₂ ◌&&◌ (ap not (front_some w.order (not-true (is_nil F.order) (search (and_left, and_right)))))
          (lt-ltb 1 G.streams (w.several (ltb-true 1 F.streams (search (and_left, and_right))))))

      go : (a : Bool) → eqb F.streams 1 ≡ a → (b : Bool) → counts p F ≡ b → Front (cond (a || b) F.order []) (cond (keeps_order p G) G.order [])
      go true e b f = one (w.alone (eqb-true F.streams 1 e))
      go false e true f = subst (λ (x : Bool). Front F.order (cond x G.order [])) (sym (or_right (eqb G.streams 1) (counts p G) (marked f)))
          w.order
      go false e false f = front_nil

  limit_order : Front (cond (eqb F.streams 1) F.order []) (cond (eqb G.streams 1) G.order [])
  limit_order = go (eqb F.streams 1) refl
    where
      one : (F.order ≡ []) ⊎ (G.streams ≡ 1) → Front F.order (cond (eqb G.streams 1) G.order [])
      one (inl e) = subst (λ (l : List Key). Front l (cond (eqb G.streams 1) G.order [])) (sym e) front_nil
      one (inr e) = subst (λ (b : Bool). Front F.order (cond b G.order [])) (sym (eq-eqb G.streams 1 e)) w.order

      go : (a : Bool) → eqb F.streams 1 ≡ a → Front (cond a F.order []) (cond (eqb G.streams 1) G.order [])
      go true e = one (w.alone (eqb-true F.streams 1 e))
      go false e = front_nil

  project_blank : (cols : List ℕ) (ks : List Key) → proj_order G cols ks ≡ proj_order F cols ks
  project_blank cols [] = refl
  project_blank cols (k ∷ ks) =
      ap₂ (λ (B : Facts) (l : List Key). cond (ltb (carried B cols k.col) (length cols)) (with_column (carried B cols k.col) k ∷ l) []) w.base
      (project_blank cols ks)

  front_project : (cols : List ℕ) {p q : List Key} → Front p q → Front (proj_order F cols p) (proj_order F cols q)
  front_project cols front_nil = front_nil
  front_project cols (front_cons {k = k} f) = front_cond (ltb (carried F cols k.col) (length cols)) (front_cons (front_project cols f))

  projected : (cols : List ℕ) → Wider (proj_facts F cols) (proj_facts G cols)
  projected cols =
      record {
        base = ap (λ (B : Facts). blank (proj_facts B cols)) w.base;
        order = subst (Front (proj_order F cols F.order)) (sym (project_blank cols G.order)) (front_project cols w.order);
        alone = λ e. none-projected (w.alone e);
        several = w.several;
      }
    where
      none-projected : (F.order ≡ []) ⊎ (G.streams ≡ 1) → (proj_order F cols F.order ≡ []) ⊎ (G.streams ≡ 1)
      none-projected (inl e) = inl (ap (proj_order F cols) e)
      none-projected (inr e) = inr e

-- an aggregate's columns behind its group columns
placed_wider : (n : ℕ) (F G : Facts) → Wider F G → Wider (placed F n) (placed G n)
placed_wider n F G w = record { base = ap (λ (B : Facts). blank (placed B n)) w.base; order = w.order; alone = w.alone; several = w.several }

-- ---- unions: children have a stream at least
abbrev pub Some : Facts → Type 0
Some F = 1 ≤ F.streams

union_some : (F : Facts) (fs : List Facts) → All Some (F ∷ fs) → 1 ≤ (union_facts (F ∷ fs)).streams
union_some F [] (all_cons h hs) = h
union_some F (G ∷ fs) (all_cons h hs) = omega (arith, h)

union_wider : {fs gs : List Facts} → Each Wider fs gs → All Some fs → All Some gs → Wider (union_facts fs) (union_facts gs)
union_wider each_nil hs ks = wider_refl nothing
union_wider (each_cons w each_nil) hs ks = w
union_wider (each_cons {x = F} {y = G} w (each_cons {x = F'} {y = G'} {l = fs} {m = gs} w' ws)) (all_cons h hs) (all_cons k ks) =
    let u : Wider (union_facts (F' ∷ fs)) (union_facts (G' ∷ gs)) = union_wider (each_cons w' ws) hs ks in
    let m : 1 ≤ (union_facts (F' ∷ fs)).streams = union_some F' fs hs in
    let n : 1 ≤ (union_facts (G' ∷ gs)).streams = union_some G' gs ks in
    record {
      base = ap₂ (λ (A B : Facts). blank (both A B)) w.base u.base;
      order = front_common w.order u.order;
      alone = λ e. absurd (omega arith);
      several = λ l. omega arith;
    }

-- ---- joins
left_front : (t : JoinType) (w : ℕ) {p q : List Key} → Front p q → Front (left_order t w p) (left_order t w q)
left_front Inner w f = front_within w f
left_front Left w f = front_within w f
left_front Right w f = front_nil
left_front Full w f = front_nil
left_front LeftSemi w f = f
left_front LeftAnti w f = f
left_front RightSemi w f = front_nil
left_front RightAnti w f = front_nil

right_front : (t : JoinType) (w : ℕ) {p q : List Key} → Front p q → Front (right_order t w p) (right_order t w q)
right_front Inner w f = front_map (moved w) f
right_front Left w f = front_nil
right_front Right w f = front_map (moved w) f
right_front Full w f = front_nil
right_front LeftSemi w f = front_nil
right_front LeftAnti w f = front_nil
right_front RightSemi w f = f
right_front RightAnti w f = f

join_front : (t : JoinType) (k : Kept) (F G F' G' : Facts) → Wider F F' → Wider G G' → Front (join_order t k F G) (join_order t k F' G')
join_front t k_left F G F' G' v w = subst (λ (x : ℕ). Front (join_order t k_left F G) (left_order t x F'.order))
    (sym (ap (λ (B : Facts). B.width) v.base)) (left_front t F.width v.order)
join_front t k_right F G F' G' v w = subst (λ (x : ℕ). Front (join_order t k_right F G) (right_order t x G'.order))
    (sym (ap (λ (B : Facts). B.width) v.base)) (right_front t F.width w.order)
join_front t k_none F G F' G' v w = front_nil

-- n streams, and n' after
join_wider : (t : JoinType) (k : Kept) (on : List On) (F G F' G' : Facts) (n n' : ℕ) → Wider F F' → Wider G G' → blank (join_base t on F' G') ≡ blank
    (join_base t on F G) → (n ≡ 1 → (join_order t k F G ≡ []) ⊎ (n' ≡ 1)) → (1 < n → 1 < n') → Wider (join_facts t k on F G n) (join_facts t k on F' G' n')
join_wider t k on F G F' G' n n' v w b a s =
    record {
      base = b;
      order = subst (λ (B : Facts). Front (nf (join_base t on F G) [] (join_order t k F G)) (nf B [] (join_order t k F' G'))) (sym b)
          (front_nf (is_c (join_base t on F G)) (cl (join_base t on F G)) [] (join_front t k F G F' G' v w));
      alone = λ e. none_joined (a e);
      several = s;
    }
  where
    none_joined : (join_order t k F G ≡ []) ⊎ (n' ≡ 1) → (nf (join_base t on F G) [] (join_order t k F G) ≡ []) ⊎ (n' ≡ 1)
    none_joined (inl e) = inl (ap (nf (join_base t on F G) []) e)
    none_joined (inr e) = inr e

-- the order of a side that has none
module _ {n : ℕ} (t : JoinType) (F G : Facts) where
  no_left : (F.order ≡ []) ⊎ (n ≡ 1) → (join_order t k_left F G ≡ []) ⊎ (n ≡ 1)
  no_left (inl e) = inl (ap (left_order t F.width) e ∙ none t)
    where
      none : (u : JoinType) → left_order u F.width [] ≡ []
      none Inner = refl
      none Left = refl
      none Right = refl
      none Full = refl
      none LeftSemi = refl
      none LeftAnti = refl
      none RightSemi = refl
      none RightAnti = refl
  no_left (inr e) = inr e

  no_right : (G.order ≡ []) ⊎ (n ≡ 1) → (join_order t k_right F G ≡ []) ⊎ (n ≡ 1)
  no_right (inl e) = inl (ap (right_order t F.width) e ∙ none t)
    where
      none : (u : JoinType) → right_order u F.width [] ≡ []
      none Inner = refl
      none Left = refl
      none Right = refl
      none Full = refl
      none LeftSemi = refl
      none LeftAnti = refl
      none RightSemi = refl
      none RightAnti = refl
  no_right (inr e) = inr e

-- ---- every kind; a sort that has one stream, and a partial sort, are left out: their order would lie on more streams than before
bases_of : {fs gs : List Facts} → Each Wider fs gs → map blank gs ≡ map blank fs
bases_of each_nil = refl
bases_of (each_cons w ws) = ap₂ ◌∷◌ w.base (bases_of ws)

pub nth_wider : {fs gs : List Facts} → Each Wider fs gs → (i : ℕ) → Wider (get_or fs i nothing) (get_or gs i nothing)
nth_wider ws i = each_at nothing nothing (wider_refl nothing) ws i

abbrev pub Stays : Op → List Facts → Type 0
Stays o fs = (is_sort o ≡ true → 1 < (facts_op o fs).streams) × (eqb (code o) 14 ≡ false)

module _ {fs gs : List Facts} (ws : Each Wider fs gs) (hs : All Some fs) (ks : All Some gs) where
  w0 : Wider (at0 fs) (at0 gs)
  w0 = nth_wider ws 0

  w1 : Wider (at1 fs) (at1 gs)
  w1 = nth_wider ws 1

  -- one stream before and after
  single : (F G : Facts) (p q : List Key) → blank G ≡ blank F → Front p q → Wider (ordered F 1 p) (ordered G 1 q)
  single F G p q b f = record { base = b; order = f; alone = λ e. inr refl; several = λ l. absurd (omega arith) }

  merge_join_lem : (t : JoinType) (on : List On) → Wider (facts_op (sort_merge_join t on) fs) (facts_op (sort_merge_join t on) gs)
  merge_join_lem t on =
      join_wider t (smj_kept t) on (at0 fs) (at1 fs) (at0 gs) (at1 gs) (cond (by_right t) (at1 fs).streams (at0 fs).streams)
      (cond (by_right t) (at1 gs).streams (at0 gs).streams) w0 w1
      (op_blank (sort_merge_join t on) gs fs (bases_of ws)) (alone t) (several (by_right t))
    where
      alone : (t : JoinType) → cond (by_right t) (at1 fs).streams (at0 fs).streams ≡ 1 → (join_order t (smj_kept t) (at0 fs) (at1 fs) ≡ []) ⊎
          (cond (by_right t) (at1 gs).streams (at0 gs).streams ≡ 1)
      alone Inner e = no_left Inner (at0 fs) (at1 fs) (w0.alone e)
      alone Left e = no_left Left (at0 fs) (at1 fs) (w0.alone e)
      alone Right e = no_right Right (at0 fs) (at1 fs) (w1.alone e)
      alone Full e = inl refl
      alone LeftSemi e = no_left LeftSemi (at0 fs) (at1 fs) (w0.alone e)
      alone LeftAnti e = no_left LeftAnti (at0 fs) (at1 fs) (w0.alone e)
      alone RightSemi e = no_right RightSemi (at0 fs) (at1 fs) (w1.alone e)
      alone RightAnti e = no_right RightAnti (at0 fs) (at1 fs) (w1.alone e)

      several : (b : Bool) → 1 < cond b (at1 fs).streams (at0 fs).streams → 1 < cond b (at1 gs).streams (at0 gs).streams
      several true l = w1.several l
      several false l = w0.several l

  hash_join_lem : (t : JoinType) (on : List On) → Wider (facts_op (hash_join t on) fs) (facts_op (hash_join t on) gs)
  hash_join_lem t on =
      join_wider t (hash_kept t) on (at0 fs) (at1 fs) (at0 gs) (at1 gs) (at1 fs).streams (at1 gs).streams w0 w1
      (op_blank (hash_join t on) gs fs (bases_of ws)) (alone (hash_kept t) (kept_right t)) w1.several
    where
      kept_right : (u : JoinType) → (hash_kept u ≡ k_right) ⊎ (hash_kept u ≡ k_none)
      kept_right Inner = inl refl
      kept_right Left = inr refl
      kept_right Right = inl refl
      kept_right Full = inr refl
      kept_right LeftSemi = inr refl
      kept_right LeftAnti = inr refl
      kept_right RightSemi = inl refl
      kept_right RightAnti = inl refl

      alone : (k : Kept) → (k ≡ k_right) ⊎ (k ≡ k_none) → (at1 fs).streams ≡ 1 → (join_order t k (at0 fs) (at1 fs) ≡ []) ⊎ ((at1 gs).streams ≡ 1)
      alone k (inl q) e = subst (λ (x : Kept). (join_order t x (at0 fs) (at1 fs) ≡ []) ⊎ ((at1 gs).streams ≡ 1)) (sym q)
          (no_right t (at0 fs) (at1 fs) (w1.alone e))
      alone k (inr q) e = inl (ap (λ (x : Kept). join_order t x (at0 fs) (at1 fs)) q)

  sort_wider : (p : Bool) (l : List Key) (f : Option ℕ) → 1 < sort_streams p (at0 fs) → Wider (facts_op (sort_op p l f) fs) (facts_op (sort_op p l f) gs)
  sort_wider true l f h = record { base = w0.base; order = same_nf (at0 fs) (at0 gs) w0 l; alone = λ e. absurd (omega arith); several = w0.several }
  sort_wider false l f h = absurd (omega arith)

  pub op_wider : (o : Op) → Stays o fs → Wider (facts_op o fs) (facts_op o gs)
  op_wider (source s) h = wider_refl (facts_op (source s) fs)
  op_wider filter h = w0
  op_wider (projection cols) h = projected (at0 fs) (at0 gs) w0 cols
  op_wider union h = union_wider ws hs ks
  op_wider (repartition p n q l) h = record { base = w0.base; order = kept_order_lem (at0 fs) (at0 gs) w0 p; alone = λ e. inr e; several = λ m. m }
  op_wider (coalesce f) h = single (at0 fs) (at0 gs) [] [] w0.base front_nil
  op_wider (sort_op p l f) h = sort_wider p l f (h.0 refl)
  op_wider (merge_op l f) h = single (at0 fs) (at0 gs) (nf (at0 fs) [] l) (nf (at0 gs) [] l) w0.base (same_nf (at0 fs) (at0 gs) w0 l)
  op_wider (global_limit s f note) h = single (at0 fs) (at0 gs) (cond (eqb (at0 fs).streams 1) (at0 fs).order [])
      (cond (eqb (at0 gs).streams 1) (at0 gs).order []) w0.base (limit_order (at0 fs) (at0 gs) w0)
  op_wider (local_limit f note) h = w0
  op_wider (sort_merge_join t on) h = merge_join_lem t on
  op_wider (hash_join t on) h = hash_join_lem t on
  op_wider (output_requirement l d f) h = w0
  op_wider (partial_sort p l n f) h = no_bool (sym h.1)
  op_wider (aggregate l n) h = placed_wider n (proj_facts (at0 fs) (columns_of l)) (proj_facts (at0 gs) (columns_of l))
      (projected (at0 fs) (at0 gs) w0 (columns_of l))

-- ---- wanted orders stay met
orders_wider : (l : List (List Key)) (F G : ℕ → Facts) → ((i : ℕ) → Wider (F i) (G i)) → orders_met l F ≡ true → orders_met l G ≡ true
orders_wider [] F G w e = refl
orders_wider (ks ∷ l) F G w e =
    ap₂ ◌&&◌ (wider_met (F 0) (G 0) ks (w 0) (and_left (met (F 0) ks) (orders_met l (λ i. F (suc i))) e))
    (orders_wider l (λ i. F (suc i)) (λ i. G (suc i)) (λ i. w (suc i)) (and_right (met (F 0) ks) (orders_met l (λ i. F (suc i))) e))

pub wants_wider : (o : Op) {fs gs : List Facts} → Each Wider fs gs → wants_met o fs ≡ true → wants_met o gs ≡ true
wants_wider o {fs} {gs} ws e = orders_wider (wanted_orders o) (λ i. get_or fs i nothing) (λ i. get_or gs i nothing) (λ i. nth_wider ws i) e
