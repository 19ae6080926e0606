-- pushdown_requirement_to_children: branch by branch, what the code answers is what the definition says. Assumes nothing.
use Rattle.std.specs.Prelude.{◌≡◌, refl, Bool, true, false, cond, not, ◌&&◌, ◌||◌, List, [], ◌∷◌, ℕ, ◌-◌, ◌<◌, eqb, ltb, leb, length, get_or, take, Option, is_some, Some, None}
use Rattle.std.proofs.Common.{sym, ap, ap₂, ◌∙◌, subst, arith, eqb-true}
use Rattle.std.proofs.Math.Path.{subst⁻¹}
use Rattle.std.proofs.lemmas.List.{length-map}
use Rattle.row_order.specs.Iso.{Key}
use Rattle.plan.specs.Op.{Op, source, filter, projection, union, repartition, coalesce, sort_op, merge_op, global_limit, local_limit, sort_merge_join, hash_join, output_requirement, partial_sort, aggregate}
use Rattle.plan.specs.Numbers.{kind_of}
use Rattle.plan.specs.WellFormed.{every, children_ok, columns_of}
use Rattle.plan.specs.declared.JoinType.{JoinType}
use Rattle.plan.specs.declared.Kind.{Kind}
use Rattle.plan.specs.declared.Kind.TheVariants.{Projection, Sort, Merge, OutputRequirement, Aggregate}
use Rattle.plan_codec.specs.Decode.{decode, from_bytes, operator_of}
use Rattle.record_fields.specs.Proper.{pairs_of, Proper}
use Rattle.plan_format.specs.LastPass.{key_columns}
use Rattle.class_tables.specs.Tables.{Columns}
use Rattle.record_fields.specs.Fields.{tail_columns}
use Rattle.record_fields.specs.Decoded.{key_columns_lem, key_count}
use Rattle.record_fields.specs.Encoded.{below_at}
use Rattle.record_fields.specs.Fronts.{front_columns}
use Rattle.semantics.specs.Facts.{Facts, at0, at1, facts_op, compatible, hash_kept, nothing, met}
use Rattle.semantics.specs.Properties.{kept_side, fetch_op, maintains, supports_limit_pushdown, wanted}
use Rattle.key_lists.specs.declared.Keys.{Keys}
use Rattle.key_lists.specs.Keys.{keys_of, Ordered}
use Rattle.record_fields.specs.Kinds.{op_of}
use Rattle.maintained_orders.specs.Nodes.{Among}
use Rattle.walks.specs.SortPushdown as walk
use Rattle.walks.proofs.Theorems.Common.Keeps.{remark-same}
use Rattle.push_requirements.specs.declared.ChildOrders.{ChildOrders}
use Rattle.push_requirements.specs.Pushing.{HandsOn, SeenNode}
use Rattle.push_requirements.specs.Answers.{none_in, by_is, by_some}
use Rattle.scan.specs.Below.{or_false}

-- ---- pushdown_would_violate_requirements, of one child

pub violates_none : (n : Op) (ps : List Key) (o : Option Keys) → Ordered (wanted n 0) o → o ≡ None → false ≡ walk.pushdown_would_violate_requirements n 1 ps
violates_none n ps o h e = sym (or_false _ ∙ ap (λ b. not b && walk.none_equal (wanted n 0) ps) (none_in (wanted n 0) o h e))

pub violates_some : (n : Op) (ps : List Key) (o : Option Keys) (k : Keys) → Ordered (wanted n 0) o → o ≡ Some k → (x : Bool) → x ≡ walk.none_equal (keys_of k) ps
    → x ≡ walk.pushdown_would_violate_requirements n 1 ps
violates_some n ps o k h e x d =
    d ∙ ap (λ l. walk.none_equal l ps) (by_is (wanted n 0) o k h e)
    ∙ sym (or_false _ ∙ ap (λ b. not b && walk.none_equal (wanted n 0) ps) (by_some (wanted n 0) o k h e))

-- ---- a projection's columns and an aggregate's group columns, as the code lends n of cs

module _ (r : List ℕ) (q : Proper r) (n : ℕ) (cs : List ℕ) where
  pub lent_columns_lem : kind_of (get_or r 0 0) ≡ Projection → n ≡ get_or r 13 0 → cs ≡ tail_columns r → (cols : List ℕ) → decode r ≡ projection cols → take n cs ≡ cols
  lent_columns_lem e en ec cols d =
      let z : projection (take (get_or r 13 0) (tail_columns r)) ≡ projection cols = sym (op_of r Projection e) ∙ d in
      let y : take (get_or r 13 0) (tail_columns r) ≡ cols = cc in ap₂ take en ec ∙ y

  pub lent_groups : n ≡ get_or r 12 0 → cs ≡ key_columns r → take n cs ≡ columns_of (from_bytes r).keys
  lent_groups en ec = ap₂ take en ec ∙ key_columns_lem (get_or r 12 0) r q.long

  pub columns_lent : kind_of (get_or r 0 0) ≡ Projection → cs ≡ tail_columns r → Columns (take n cs)
  columns_lent e ec = front_columns n cs (subst⁻¹ Columns ec (q.child e))

  pub groups_lent : n ≡ get_or r 12 0 → cs ≡ key_columns r → Columns (take n cs)
  groups_lent en ec = subst⁻¹ Columns (lent_groups en ec) (below_at (columns_of (from_bytes r).keys) q.keys)

-- ---- the branches by kind

one_at_least : (m : ℕ) → eqb m 1 ≡ true → 0 < m
one_at_least m e = let x = eqb-true m 1 e in omega arith

two_at_least : (m : ℕ) → eqb m 2 ≡ true → 1 < m
two_at_least m e = let x = eqb-true m 2 e in omega arith

module _ (r : List ℕ) (fs : List Facts) (m : ℕ) (ps : List Key) (p : Option ChildOrders) where
  pub by_kind : (k : Kind) → kind_of (get_or r 0 0) ≡ k → HandsOn m (walk.push_by_kind (operator_of k (from_bytes r)) fs ps) p
      → HandsOn m (walk.push_by_kind (decode r) fs ps) p
  by_kind k e h = subst⁻¹ (λ o. HandsOn m (walk.push_by_kind o fs ps) p) (op_of r k e) h

  module _ (o : Op) (F L R : Facts) (s : SeenNode (decode r) o fs m F L R) where
    count_of : (n : Op) → decode r ≡ n → children_ok n m ≡ true
    count_of n e = sym (ap (λ x. children_ok x m) e) ∙ s.count

    facts_of : (n : Op) → decode r ≡ n → F ≡ facts_op n fs
    facts_of n e = s.facts ∙ ap (λ x. facts_op x fs) e

    pub by_sort : kind_of (get_or r 0 0) ≡ Sort → HandsOn m (walk.go_if (compatible L ps (from_bytes r).keys) (λ i. ps)) p
        → HandsOn m (walk.push_by_kind (decode r) fs ps) p
    by_sort e h = by_kind Sort e (subst (λ G. HandsOn m (walk.go_if (compatible G ps (from_bytes r).keys) (λ i. ps)) p)
        (s.first (one_at_least m (count_of _ (op_of r Sort e)))) h)

    pub by_merge : kind_of (get_or r 0 0) ≡ Merge → HandsOn m (cond (walk.pushdown_would_violate_requirements (decode r) 1 ps) walk.stop (walk.handle_merge F ps)) p
        → HandsOn m (walk.push_by_kind (decode r) fs ps) p
    by_merge e h =
        by_kind Merge e
        (subst (λ n. HandsOn m (cond (walk.pushdown_would_violate_requirements n 1 ps) walk.stop (walk.handle_merge (facts_op n fs) ps)) p) (op_of r Merge e)
        (subst (λ G. HandsOn m (cond (walk.pushdown_would_violate_requirements (decode r) 1 ps) walk.stop (walk.handle_merge G ps)) p) s.facts h))

    -- an aggregate: x says that it maintains, y that every column is one of its n group columns cs, z that its child meets the list in its columns
    pub by_aggregate : kind_of (get_or r 0 0) ≡ Aggregate → Proper r → (n : ℕ) (cs : List ℕ) → n ≡ get_or r 12 0 → cs ≡ key_columns r →
        (x y z : Bool) (l : List Key) → ((0 < length fs) → x ≡ maintains (decode r) fs 0) → y ≡ every (λ k. ltb k.col n) ps →
        l ≡ walk.remap_requirement_through_projection (take n cs) ps → z ≡ met L l →
        HandsOn m (walk.go_if (x && (y && z)) (λ i. l)) p → HandsOn m (walk.push_by_kind (decode r) fs ps) p
    by_aggregate e q n cs en ec x y z l ex ey el ez h =
        let g : take n cs ≡ columns_of (from_bytes r).keys = lent_groups r q n cs en ec in
        let some : 0 < m = one_at_least m (count_of _ (op_of r Aggregate e)) in
        let w : n ≡ length (columns_of (from_bytes r).keys) = en ∙ sym (length-map (from_bytes r).keys (λ k. k.col) ∙ key_count r q.long q.few) in
        let d : l ≡ walk.remap_requirement_through_projection (columns_of (from_bytes r).keys) ps = el ∙ ap (λ c. walk.remap_requirement_through_projection c ps) g in
        let i : walk.go_if (x && (y && z)) (λ i. l) ≡ walk.push_by_kind (operator_of Aggregate (from_bytes r)) fs ps =
        ap₂ (λ b k. walk.go_if b (λ i. k))
        (ap₂ ◌&&◌ (ex (let z = s.long in omega arith) ∙ ap (λ k. maintains k fs 0) (op_of r Aggregate e))
        (ap₂ ◌&&◌ (ey ∙ ap (λ j. every (λ k. ltb k.col j) ps) w) (ez ∙ ap₂ met (s.first some) d))) d in
        by_kind Aggregate e (subst (λ P. HandsOn m P p) i h)

    pub by_requirement : kind_of (get_or r 0 0) ≡ OutputRequirement
        → HandsOn m (cond (walk.pushdown_would_violate_requirements (decode r) 1 ps) walk.stop (walk.handle_custom_pushdown ps)) p
        → HandsOn m (walk.push_by_kind (decode r) fs ps) p
    by_requirement e h = by_kind OutputRequirement e
        (subst (λ n. HandsOn m (cond (walk.pushdown_would_violate_requirements n 1 ps) walk.stop (walk.handle_custom_pushdown ps)) p)
        (op_of r OutputRequirement e) h)

    pub by_join : (t : JoinType) → decode r ≡ sort_merge_join t (pairs_of r)
        → HandsOn 2 (walk.push_to_side (decode r) t F L R ps (walk.expr_source_side F ps t L.width)) p → HandsOn m (walk.push_by_kind (decode r) fs ps) p
    by_join t e h =
        let n : Op = sort_merge_join t (pairs_of r) in
        let c : children_ok n m ≡ true = count_of n e in
        let G : Op → Facts → Facts → Facts → walk.Pushed = λ n F L R. walk.push_to_side n t F L R ps (walk.expr_source_side F ps t L.width) in
        let i : G (decode r) F L R ≡ G n (facts_op n fs) (at0 fs) (at1 fs) =
        ap₂ (λ n F. G n F L R) e (facts_of n e) ∙ ap₂ (G n (facts_op n fs)) (s.first (let z = two_at_least m c in omega arith))
        (s.second (two_at_least m c)) in
        subst⁻¹ (λ o. HandsOn m (walk.push_by_kind o fs ps) p) e (subst (λ j. HandsOn j (G n (facts_op n fs) (at0 fs) (at1 fs)) p) (sym (eqb-true m 2 c))
        (subst (λ P. HandsOn 2 P p) i h))

    pub by_hash : (t : JoinType) → decode r ≡ hash_join t (pairs_of r) → (x y : ℕ) → x ≡ F.width → y ≡ R.width
        → HandsOn m (walk.go_if (kept_side (hash_kept t) 1 && every (λ k. leb (x - y) k.col) ps)
        (walk.on_right (walk.add_offset_to_physical_sort_exprs (x - y) ps))) p → HandsOn m (walk.push_by_kind (decode r) fs ps) p
    by_hash t e x y ex ey h =
        let n : Op = hash_join t (pairs_of r) in
        let G : ℕ → ℕ → walk.Pushed = λ u v. walk.go_if (kept_side (hash_kept t) 1 && every (λ k. leb (u - v) k.col) ps)
        (walk.on_right (walk.add_offset_to_physical_sort_exprs (u - v) ps)) in
        let i : G x y ≡ G (facts_op n fs).width (at1 fs).width = ap₂ G (ex ∙ ap (λ H. H.width) (facts_of n e))
        (ey ∙ ap (λ H. H.width) (s.second (two_at_least m (count_of n e)))) in
        subst⁻¹ (λ o. HandsOn m (walk.push_by_kind o fs ps) p) e (subst (λ P. HandsOn m P p) i h)

-- ---- through an operator with a fetch

on_one : (b : Bool) → not (not b || false) ≡ b
on_one true = refl
on_one false = refl

-- one child: what it maintains of its children is what it maintains of the first
one_child : (n : Op) (fs : List Facts) (m : ℕ) (x b : Bool) (s : Bool) → length fs ≡ m → eqb m 1 ≡ true → (0 < length fs → b ≡ maintains n fs 0) → x
    && (s && b) ≡ x && (s && walk.all_below m (maintains n fs))
one_child n fs m x b s l e h =
    ap (λ (c : Bool). x && (s && c))
    (h (let z = one_at_least m e in omega arith) ∙ sym (ap (λ j. walk.all_below j (maintains n fs)) (eqb-true m 1 e) ∙ on_one (maintains n fs 0)))

pub through_is : (n : Op) (fs : List Facts) (ts : List (Option ℕ)) (m : ℕ) → length fs ≡ m → children_ok n m ≡ true → (f : Option ℕ) → f ≡ fetch_op n ts
    → (b : Bool) → (0 < length fs → b ≡ maintains n fs 0)
    → is_some f && (supports_limit_pushdown n && b) ≡ walk.through_fetch n f m fs
through_is (source s) fs ts m l c f e b h = refl
through_is filter fs ts m l c f e b h = refl
through_is (projection cols) fs ts m l c f e b h = one_child (projection cols) fs m (is_some f) b true l c h
through_is union fs ts m l c f e b h = ap (λ (g : Option ℕ). is_some g && (true && b)) e ∙ sym (ap (λ (g : Option ℕ). walk.through_fetch union g m fs) e)
through_is (repartition p n x ks) fs ts m l c f e b h = refl
through_is (coalesce g) fs ts m l c f e b h = one_child (coalesce g) fs m (is_some f) b true l c h
through_is (sort_op p ks g) fs ts m l c f e b h = refl
through_is (merge_op ks g) fs ts m l c f e b h = one_child (merge_op ks g) fs m (is_some f) b true l c h
through_is (global_limit s g note) fs ts m l c f e b h = one_child (global_limit s g note) fs m (is_some f) b true l c h
through_is (local_limit g note) fs ts m l c f e b h = one_child (local_limit g note) fs m (is_some f) b true l c h
through_is (sort_merge_join t on) fs ts m l c f e b h = refl
through_is (hash_join t on) fs ts m l c f e b h = refl
through_is (output_requirement ks d g) fs ts m l c f e b h = refl
through_is (partial_sort p ks k g) fs ts m l c f e b h = refl
through_is (aggregate ks k) fs ts m l c f e b h = refl

pub first_among : (n o : Op) (fs : List Facts) (m : ℕ) (F L R : Facts) → SeenNode n o fs m F L R → 0 < length fs → Among n fs 0 F L
first_among n o fs m F L R s h =
    let l = s.long in
    record { own = s.facts; child = s.first (omega arith) ∙ first fs; low = h; count = subst⁻¹ (λ j. children_ok n j ≡ true) l s.count }
  where
    first : (gs : List Facts) → at0 gs ≡ get_or gs 0 nothing
    first [] = refl
    first (G ∷ gs) = refl

-- ---- the mark of a repartition is not asked
module _ (n o : Op) (fs : List Facts) (m : ℕ) (F L R : Facts) (s : SeenNode n o fs m F L R) (ts : List (Option ℕ)) (limit : Option ℕ)
    (e : limit ≡ fetch_op o ts) where
  pub limit_of : limit ≡ fetch_op n ts
  limit_of = e ∙ ap (λ x. fetch_op x ts) s.like ∙ remark-same (λ x. fetch_op x ts) s.mark (λ p q k h ks. refl) n

  module _ (ps : List Key) (f : Option ℕ) (p : Option ChildOrders) where
    abbrev asks : Op → Option ℕ → walk.Pushed
    asks x l = walk.pushdown_requirement_to_children x l m fs ps f

    pub of_like : HandsOn m (walk.pushdown_requirement_to_children n limit m fs ps f) p → HandsOn m (walk.pushdown_requirement_to_children o limit m fs ps f) p
    of_like h =
        subst (λ P. HandsOn m P p)
        (ap (asks n) limit_of ∙ sym (remark-same (λ x. asks x (fetch_op x ts)) s.mark (λ p q k h ks. refl) n)
        ∙ sym (ap (λ x. asks x (fetch_op x ts)) s.like) ∙ sym (ap (asks o) e)) h
