-- Widths are the plan's, and in a plan every key of a known order has its column below the width: `facts-widths`, `fits`.
use Rattle.std.specs.Prelude.{◌≡◌, refl, Bool, true, false, cond, List, [], ◌∷◌, map, ℕ, zero, suc, ◌+◌, ◌<◌, eqb, ltb, get_or}
use Rattle.std.proofs.Common.{sym, ap, ap₂, ◌∙◌, subst, arith, ltb-true, lt-ltb}
use Rattle.std.proofs.lemmas.List.{length-map}
use Rattle.row_order.specs.Iso.{Key}
use Rattle.row_order.specs.Lists.{All, all_nil, all_cons}
use Rattle.row_order.specs.ListLaws.{all_head, all_tail, all_map, all_over}
use Rattle.plan.specs.Forest.{none, tree}
use Rattle.plan.specs.Op.{On, Op, source, filter, projection, union, repartition, coalesce, sort_op, merge_op, global_limit, local_limit, sort_merge_join, hash_join, output_requirement, partial_sort, aggregate, Plan}
use Rattle.plan.specs.WellFormed.{join_width, width, widths, below, keys_fit, columns_ok, nodes_ok, columns_of}
use Rattle.plan.specs.declared.JoinType.{JoinType}
use Rattle.plan.specs.declared.JoinType.TheVariants.{Inner, Left, Right, Full, LeftSemi, LeftAnti, RightSemi, RightAnti}
use Rattle.semantics.specs.Facts.{Facts, cl, is_c, nf, eq_key, common, nothing, source_facts, union_facts, keeps_order, Kept, k_left, k_right, k_none, smj_kept, hash_kept, by_right, beside, linked, link_all, join_base, within, moved, left_order, right_order, join_order, join_facts, at0, at1, facts_op, facts}
use Rattle.semantics.specs.Canonical.{Classes, Canon}
use Rattle.semantics.proofs.Theorems.Common.Bools.{and_left, and_right}
use Rattle.semantics.proofs.Theorems.Orders.NormalForms.{nf_all}
use Rattle.semantics.proofs.Theorems.Canonical.UnionsProjections.{source_classes, proj_fits}
use Rattle.semantics.proofs.Theorems.Canonical.EveryNode.{join_classes, nth_canon, canon}

abbrev pub Fits : Facts → Type 0
Fits F = All (λ k. k.col < F.width) F.order

-- ---- widths
pub child_width : (fs : List Facts) (n : ℕ) → (get_or fs n nothing).width ≡ get_or (map (λ F. F.width) fs) n 0
child_width [] n = refl
child_width (F ∷ fs) zero = refl
child_width (F ∷ fs) (suc n) = child_width fs n

union-width : (fs : List Facts) → (union_facts fs).width ≡ get_or (map (λ F. F.width) fs) 0 0
union-width [] = refl
union-width (F ∷ []) = refl
union-width (F ∷ G ∷ fs) = refl

link_all-width : (w : ℕ) (on : List On) (F : Facts) → (link_all w on F).width ≡ F.width
link_all-width w [] F = refl
link_all-width w (k ∷ on) F = link_all-width w on (cond (ltb k.key.col w) (linked F k.key.col (w + k.other)) F) ∙ go (ltb k.key.col w)
  where
    go : (b : Bool) → (cond b (linked F k.key.col (w + k.other)) F).width ≡ F.width
    go true = refl
    go false = refl

pub join_width_lem : (t : JoinType) (on : List On) (F G : Facts) → (join_base t on F G).width ≡ join_width t F.width G.width
join_width_lem Inner on F G = link_all-width F.width on (beside F G)
join_width_lem Left on F G = refl
join_width_lem Right on F G = refl
join_width_lem Full on F G = refl
join_width_lem LeftSemi on F G = refl
join_width_lem LeftAnti on F G = refl
join_width_lem RightSemi on F G = refl
join_width_lem RightAnti on F G = refl

sides_width : (t : JoinType) (on : List On) (fs : List Facts) → (join_base t on (at0 fs) (at1 fs)).width ≡ join_width t (get_or (map (λ F. F.width) fs) 0 0)
    (get_or (map (λ F. F.width) fs) 1 0)
sides_width t on fs = join_width_lem t on (at0 fs) (at1 fs) ∙ ap₂ (join_width t) (child_width fs 0) (child_width fs 1)

pub op_width : (o : Op) (fs : List Facts) → (facts_op o fs).width ≡ width o (map (λ F. F.width) fs)
op_width (source s) fs = refl
op_width filter fs = child_width fs 0
op_width (projection cols) fs = refl
op_width union fs = union-width fs
op_width (repartition p n h ks) fs = child_width fs 0
op_width (coalesce f) fs = child_width fs 0
op_width (sort_op p ks f) fs = child_width fs 0
op_width (merge_op ks f) fs = child_width fs 0
op_width (global_limit s f note) fs = child_width fs 0
op_width (local_limit f note) fs = child_width fs 0
op_width (sort_merge_join t on) fs = sides_width t on fs
op_width (hash_join t on) fs = sides_width t on fs
op_width (output_requirement ks d f) fs = child_width fs 0
op_width (partial_sort p ks n f) fs = child_width fs 0
op_width (aggregate ks n) fs = ap (λ (w : ℕ). w + n) (length-map ks (λ k. k.col))

pub facts-widths : (f : Plan) → map (λ F. F.width) (facts f) ≡ widths f
facts-widths none = refl
facts-widths (tree o c r) = ap₂ ◌∷◌ (op_width o (facts c) ∙ ap (width o) (facts-widths c)) (facts-widths r)

-- ---- columns of key lists
fit_below : (w : ℕ) (ks : List Key) → keys_fit w ks ≡ true → All (λ k. k.col < w) ks
fit_below w ks e = go ks (search and_left)
  where
    go : (ls : List Key) → below w (map (λ k. k.col) ls) ≡ true → All (λ k. k.col < w) ls
    go [] e = all_nil
    go (k ∷ ls) e = all_cons (ltb-true k.col w (search and_left)) (go ls (search (and_left, and_right)))

nf-fits : (F : Facts) → Classes F → (w : ℕ) (ks : List Key) → All (λ k. k.col < w) ks → All (λ k. k.col < w) (nf F [] ks)
nf-fits F h w ks ps = nf_all (is_c F) (cl F) (λ k l. omega (arith, h.low k.col)) [] ps

common-fits : {P : Key → Type 0} (p q : List Key) → All P p → All P (common p q)
common-fits [] q ps = all_nil
common-fits (k ∷ p) [] ps = all_nil
common-fits {P} (k ∷ p) (l ∷ q) ps = go (eq_key k l) (common-fits p q (all_tail ps))
  where
    go : (b : Bool) → All P (common p q) → All P (cond b (k ∷ common p q) [])
    go true ih = all_cons (all_head ps) ih
    go false ih = all_nil

union-fits : (fs : List Facts) → All Fits fs → Fits (union_facts fs)
union-fits [] hs = all_nil
union-fits (F ∷ []) hs = all_head hs
union-fits (F ∷ G ∷ fs) hs = common-fits F.order (union_facts (G ∷ fs)).order (all_head hs)

kept_fits : {P : Key → Type 0} (b : Bool) {ks : List Key} → All P ks → All P (cond b ks [])
kept_fits true ps = ps
kept_fits false ps = all_nil

-- ---- joins
-- in a plan the left order stays in the left columns
pub within-fits : (w : ℕ) (ks : List Key) → All (λ k. k.col < w) ks → within w ks ≡ ks
within-fits w [] ps = refl
within-fits w (k ∷ ks) ps = ap₂ (λ (b : Bool) (l : List Key). cond b (k ∷ l) []) (lt-ltb k.col w (all_head ps)) (within-fits w ks (all_tail ps))

-- and every key pair is linked
pub link_all-fits : (w : ℕ) (k : On) (on : List On) (F : Facts) → k.key.col < w → link_all w (k ∷ on) F ≡ link_all w on
    (linked F k.key.col (w + k.other))
link_all-fits w k on F h = ap (λ (b : Bool). link_all w on (cond b (linked F k.key.col (w + k.other)) F)) (lt-ltb k.key.col w h)

module _ (F G : Facts) (hF : Fits F) (hG : Fits G) where
  near : All (λ k. k.col < F.width + G.width) (within F.width F.order)
  near = subst (All (λ k. k.col < F.width + G.width)) (sym (within-fits F.width F.order hF)) (all_map (λ k l. omega arith) hF)

  far : All (λ k. k.col < F.width + G.width) (map (moved F.width) G.order)
  far = all_over (moved F.width) (λ k l. omega arith) hG

  left_fits_lem : (t : JoinType) → All (λ k. k.col < join_width t F.width G.width) (left_order t F.width F.order)
  left_fits_lem Inner = near
  left_fits_lem Left = near
  left_fits_lem Right = all_nil
  left_fits_lem Full = all_nil
  left_fits_lem LeftSemi = hF
  left_fits_lem LeftAnti = hF
  left_fits_lem RightSemi = all_nil
  left_fits_lem RightAnti = all_nil

  right_fits_lem : (t : JoinType) → All (λ k. k.col < join_width t F.width G.width) (right_order t F.width G.order)
  right_fits_lem Inner = far
  right_fits_lem Left = all_nil
  right_fits_lem Right = far
  right_fits_lem Full = all_nil
  right_fits_lem LeftSemi = all_nil
  right_fits_lem LeftAnti = all_nil
  right_fits_lem RightSemi = hG
  right_fits_lem RightAnti = hG

  order_fits : (t : JoinType) (k : Kept) → All (λ k. k.col < join_width t F.width G.width) (join_order t k F G)
  order_fits t k_left = left_fits_lem t
  order_fits t k_right = right_fits_lem t
  order_fits t k_none = all_nil

  join_fits : (t : JoinType) (k : Kept) (on : List On) (n : ℕ) → Classes F → Classes G → Fits (join_facts t k on F G n)
  join_fits t k on n cF cG =
      let B : Facts = join_base t on F G in
      nf-fits B (join_classes t on F G cF cG) B.width (join_order t k F G)
      (subst (λ (w : ℕ). All (λ l. l.col < w) (join_order t k F G)) (sym (join_width_lem t on F G)) (order_fits t k))

-- ---- every node
nth_fits : (fs : List Facts) → All Fits fs → (n : ℕ) → Fits (get_or fs n nothing)
nth_fits [] all_nil n = all_nil
nth_fits (F ∷ fs) (all_cons h hs) zero = h
nth_fits (F ∷ fs) (all_cons h hs) (suc n) = nth_fits fs hs n

-- a sort's keys fit its child's width
sort_fits : (fs : List Facts) → All Canon fs → (ks : List Key) → keys_fit (get_or (map (λ F. F.width) fs) 0 0) ks ≡ true → All (λ k. k.col < (at0 fs).width)
    (nf (at0 fs) [] ks)
sort_fits fs cs ks e = nf-fits (at0 fs) (nth_canon fs cs 0).classes (at0 fs).width ks
    (fit_below (at0 fs).width ks (ap (λ (w : ℕ). keys_fit w ks) (child_width fs 0) ∙ e))

op_fits : (o : Op) (fs : List Facts) → columns_ok o (map (λ F. F.width) fs) ≡ true → All Canon fs → All Fits fs → Fits (facts_op o fs)
op_fits (source s) fs e cs hs = nf-fits (source_facts s.width s.streams s.constants) (source_classes s.width s.streams s.constants)
    s.width s.keys (fit_below s.width s.keys (search and_left))
op_fits filter fs e cs hs = nth_fits fs hs 0
op_fits (projection cols) fs e cs hs = proj_fits (at0 fs) cols (at0 fs).order
op_fits union fs e cs hs = union-fits fs hs
op_fits (repartition p n h ks) fs e cs hs = kept_fits (keeps_order p (at0 fs)) (nth_fits fs hs 0)
op_fits (coalesce f) fs e cs hs = all_nil
op_fits (sort_op p ks f) fs e cs hs = sort_fits fs cs ks e
op_fits (merge_op ks f) fs e cs hs = sort_fits fs cs ks e
op_fits (global_limit s f note) fs e cs hs = kept_fits (eqb (at0 fs).streams 1) (nth_fits fs hs 0)
op_fits (local_limit f note) fs e cs hs = nth_fits fs hs 0
op_fits (sort_merge_join t on) fs e cs hs = join_fits (at0 fs) (at1 fs) (nth_fits fs hs 0) (nth_fits fs hs 1) t (smj_kept t) on
    (cond (by_right t) (at1 fs).streams (at0 fs).streams) (nth_canon fs cs 0).classes (nth_canon fs cs 1).classes
op_fits (hash_join t on) fs e cs hs = join_fits (at0 fs) (at1 fs) (nth_fits fs hs 0) (nth_fits fs hs 1) t (hash_kept t) on (at1 fs).streams
    (nth_canon fs cs 0).classes (nth_canon fs cs 1).classes
op_fits (output_requirement ks d f) fs e cs hs = nth_fits fs hs 0
op_fits (partial_sort p ks n f) fs e cs hs = sort_fits fs cs ks e
op_fits (aggregate ks n) fs e cs hs = all_map (λ k l. omega arith) (proj_fits (at0 fs) (columns_of ks) (at0 fs).order)

pub fits : (f : Plan) → nodes_ok f ≡ true → All Fits (facts f)
fits none e = all_nil
fits (tree o c r) e =
    let ok : columns_ok o (widths c) ≡ true = search (and_left, and_right) in
    all_cons (op_fits o (facts c) (ap (columns_ok o) (facts-widths c) ∙ ok) (canon c) (fits c (search (and_left, and_right))))
    (fits r (search (and_left, and_right)))
