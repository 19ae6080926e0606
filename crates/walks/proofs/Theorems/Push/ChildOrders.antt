-- An order that pushdown_requirement_to_children hands to a child is a key list that 01's rules accept over that child's columns.
use Rattle.std.specs.Prelude.{◌≡◌, refl, Bool, true, false, cond, not, ◌&&◌, ◌||◌, List, [], ◌∷◌, map, ℕ, zero, suc, ◌+◌, ◌-◌, ◌≤◌, ◌<◌, eqb, ltb, leb, length, get_or, Option, Some, None, is_some}
use Rattle.std.proofs.Common.{sym, ap, ap₂, ◌∙◌, subst, arith, eqb-true, eq-eqb, ne_eqb, leb-true, ltb-true}
use Rattle.std.proofs.lemmas.Bool.{not-true}
use Rattle.row_order.specs.Iso.{Key}
use Rattle.row_order.proofs.Order.{no_bool}
use Rattle.row_order.specs.Lists.{All, all_cons, all_nil}
use Rattle.row_order.specs.ListLaws.{all_map, all_over, all_zip}
use Rattle.plan.specs.Op.{coalesce, filter, global_limit, hash_join, local_limit, merge_op, Op, output_requirement, partial_sort, aggregate, projection, repartition, sort_merge_join, sort_op, source, union}
use Rattle.plan.specs.WellFormed.{below, columns_fit, distinct, every, join_width, member, node_ok, union_ok, columns_of}
use Rattle.plan.specs.declared.JoinType.{JoinType}
use Rattle.plan.specs.declared.JoinType.TheVariants.{Full, Inner, Left, LeftAnti, LeftSemi, Right, RightAnti, RightSemi}
use Rattle.semantics.specs.Facts.{at0, at1, cl, compatible, drop_repeats, Facts, facts_op, is_nil, lowest, met, nothing, reorder, union_facts, with_column}
use Rattle.semantics.specs.Properties.{maintains, wanted}
use Rattle.semantics.proofs.Theorems.Common.Bools.{and_left, and_right, or_false}
use Rattle.semantics.proofs.Theorems.Facts.Fits.{join_width_lem, op_width}
use Rattle.walks.specs.SortPushdown.{and_key, at_column, add_offset_to_physical_sort_exprs, child_required, either_side, expr_source_side, fetch_blocks, goes, go_if, handle_custom_pushdown, handle_aggregate_pushdown, handle_fetch, handle_hash_join, handle_merge, invalid, JoinSide, left_first, left_side, new_output_ordering, no_side, on_right, on_side, push_by_kind, pushdown_requirement_to_children, pushdown_would_violate_requirements, Pushed, push_to_side, remap_requirement_through_projection, reorder_to, right_side, side_order, stop, through_fetch, Valid, valid}
use Rattle.walks.proofs.Theorems.Common.Lists.{map-length}
use Rattle.walks.specs.Trees.{Arity, arity, FitsA, one_kid, two_kids}
use Rattle.walks.proofs.Theorems.Common.Trees.{children_fit}
use Rattle.walks.proofs.Theorems.Common.Keys.{keys_of_lem, KeysFit, no_keys, repeats_keys}
use Rattle.walks.proofs.Theorems.Common.NewNodes.{nth_width, one_child, wanted-fits, wants_fit}

-- ---- columns moved back
module _ (off : ℕ) where
  back_out : (c : ℕ) (ks : List Key) → off ≤ c → All (λ k. off ≤ k.col) ks → member c (map (λ k. k.col) ks) ≡ false
      → member (c - off) (map (λ k. k.col) (add_offset_to_physical_sort_exprs off ks)) ≡ false
  back_out c [] l all_nil e = refl
  back_out c (k ∷ ks) l (all_cons h hs) e =
      let f = or_false (eqb c k.col) (member c (map (λ k. k.col) ks)) e in
      ap₂ ◌||◌ (ne_eqb (c - off) (k.col - off) (λ q. no_bool (sym f.0 ∙ eq-eqb c k.col (omega arith)))) (back_out c ks l hs f.1)

  back_apart : (ks : List Key) → All (λ k. off ≤ k.col) ks → distinct (map (λ k. k.col) ks) ≡ true
      → distinct (map (λ k. k.col) (add_offset_to_physical_sort_exprs off ks)) ≡ true
  back_apart [] all_nil e = refl
  back_apart (k ∷ ks) (all_cons h hs) e =
      ap₂ (λ (x y : Bool). not x && y) (back_out k.col ks h hs (not-true (member k.col (map (λ k. k.col) ks)) (search and_left)))
      (back_apart ks hs (search and_right))

  pub back_keys : (v w : ℕ) (ks : List Key) → v - off ≤ w → All (λ k. off ≤ k.col) ks → KeysFit v ks → KeysFit w (add_offset_to_physical_sort_exprs off ks)
  back_keys v w ks n h f =
      record {
        short = omega (arith, map-length (at_column (λ c. c - off)) ks, f.short);
        inside = all_over (at_column (λ c. c - off)) (λ k p. omega (arith, p.0, p.1)) (all_zip h f.inside);
        apart = back_apart ks h f.apart;
      }

-- ---- what goes to the children fits each
abbrev pub PushedFits : List Facts → Pushed → Type 0
PushedFits fs stop = Unit {0}
PushedFits fs (goes g) = (i : ℕ) → i < length fs → KeysFit (get_or fs i nothing).width (g i)

go_if_fits : (fs : List Facts) (b : Bool) (g : ℕ → List Key) → (b ≡ true → PushedFits fs (goes g)) → PushedFits fs (go_if b g)
go_if_fits fs true g h = h refl
go_if_fits fs false g h = tt

pub one-goes : (fs : List Facts) (g : ℕ → List Key) → length fs ≡ 1 → KeysFit (at0 fs).width (g 0) → PushedFits fs (goes g)
one-goes fs g n h zero l = h
one-goes fs g n h (suc i) l = absurd (omega arith)

pub two-go : (fs : List Facts) (g : ℕ → List Key) → length fs ≡ 2 → KeysFit (at0 fs).width (g 0) → KeysFit (at1 fs).width (g 1) → PushedFits fs (goes g)
two-go fs g n h k zero l = h
two-go fs g n h k (suc zero) l = k
two-go fs g n h k (suc (suc i)) l = absurd (omega arith)

pub wants_at : (w : ℕ → List Key) (fs : List Facts) → wants_fit w fs ≡ true → PushedFits fs (goes w)
wants_at w [] e i l = absurd (omega arith)
wants_at w (F ∷ fs) e zero l = keys_of_lem F.width (w 0) (search and_left)
wants_at w (F ∷ fs) e (suc i) l = wants_at (λ j. w (suc j)) fs (search and_right) i (omega arith)

-- ---- projections
column_in : (w : ℕ) (cols : List ℕ) → below w cols ≡ true → (c : ℕ) → c < length cols → get_or cols c 0 < w
column_in w [] e c l = absurd (omega arith)
column_in w (d ∷ cols) e zero l = ltb-true d w (search and_left)
column_in w (d ∷ cols) e (suc c) l = column_in w cols (search and_right) c (omega arith)

remap_keys : (w : ℕ) (cols : List ℕ) (ks : List Key) → below w cols ≡ true → KeysFit (length cols) ks
    → KeysFit w (remap_requirement_through_projection cols ks)
remap_keys w cols ks e f =
    repeats_keys w (map (at_column (λ c. get_or cols c 0)) ks) (omega (arith, map-length (at_column (λ c. get_or cols c 0)) ks, f.short))
    (all_over (at_column (λ c. get_or cols c 0)) (λ k l. column_in w cols e k.col l) f.inside)

-- ---- unions
every_width : (v : ℕ) (fs : List Facts) → every (λ w. eqb w v) (map (λ F. F.width) fs) ≡ true → (i : ℕ) → i < length fs → v ≡ (get_or fs i nothing).width
every_width v [] e i l = absurd (omega arith)
every_width v (F ∷ fs) e zero l = sym (eqb-true F.width v (search and_left))
every_width v (F ∷ fs) e (suc i) l = every_width v fs (search and_right) i (omega arith)

-- ---- sides of a join: all columns in [lo, lo + n)
abbrev Inside : ℕ → ℕ → Key → Type 0
Inside lo n k = (lo ≤ k.col) × (k.col < lo + n)

abbrev ValidFits : ℕ → ℕ → ℕ → Valid → Type 0
ValidFits lo n m invalid = Unit {0}
ValidFits lo n m (valid ks) = (length ks ≡ m) × All (Inside lo n) ks

and_fits : (lo n m : ℕ) (k : Key) (v : Valid) → Inside lo n k → ValidFits lo n m v → ValidFits lo n (suc m) (and_key k v)
and_fits lo n m k invalid h f = tt
and_fits lo n m k (valid ks) h f = (ap suc f.0, all_cons h f.1)

on_side_fits : (F : Facts) (lo n : ℕ) (ks : List Key) → ValidFits lo n (length ks) (on_side F lo n ks)
on_side_fits F lo n [] = (refl, all_nil)
on_side_fits F lo n (k ∷ ks) = go (leb lo k.col && ltb k.col (lo + n)) refl (ltb i n) refl (on_side_fits F lo n ks)
  where
    i : ℕ
    i = lowest (λ j. eqb (cl F (lo + j)) (cl F k.col)) n

    go : (a : Bool) → leb lo k.col && ltb k.col (lo + n) ≡ a → (b : Bool) → ltb i n ≡ b → ValidFits lo n (length ks) (on_side F lo n ks) →
        ValidFits lo n (suc (length ks)) (cond a (and_key k (on_side F lo n ks)) (cond b (and_key (with_column (lo + i) k) (on_side F lo n ks)) invalid))
    go true e b d ih = and_fits lo n (length ks) k (on_side F lo n ks)
        (leb-true lo k.col (search and_left), ltb-true k.col (lo + n) (search and_right)) ih
    go false e true d ih = and_fits lo n (length ks) (with_column (lo + i) k) (on_side F lo n ks) (omega arith, omega (arith, ltb-true i n d)) ih
    go false e false d ih = tt

-- A join of widths v: left below wl, right from off on, of wr columns
abbrev SideFits : ℕ → ℕ → ℕ → JoinSide → Type 0
SideFits wl off wr no_side = Unit {0}
SideFits wl off wr (left_side ks) = (length ks ≤ 8) × All (λ k. k.col < wl) ks
SideFits wl off wr (right_side ks) = (length ks ≤ 8) × All (λ k. k.col - off < wr) ks

first_fits : (wl off wr n m : ℕ) (l r : Valid) → m ≤ 8 → off ≡ wl → n ≡ wr → ValidFits 0 wl m l → ValidFits wl n m r → SideFits wl off wr (left_first l r)
first_fits wl off wr n m invalid invalid h e d f g = tt
first_fits wl off wr n m invalid (valid ks) h e d f g = (omega (arith, g.0), all_map (λ k p. omega (arith, p.0, p.1)) g.1)
first_fits wl off wr n m (valid ks) r h e d f g = (omega (arith, f.0), all_map (λ k p. omega (arith, p.1)) f.1)

module _ (F L R : Facts) (ks : List Key) (h : KeysFit F.width ks) where
  either_fits : F.width ≡ L.width + R.width → SideFits L.width (F.width - R.width) R.width (either_side F ks L.width)
  either_fits e =
      first_fits L.width (F.width - R.width) R.width (F.width - L.width) (length ks) (on_side F 0 L.width ks)
      (on_side F L.width (F.width - L.width) ks) h.short (omega arith) (omega arith)
      (on_side_fits F 0 L.width ks) (on_side_fits F L.width (F.width - L.width) ks)

  left_fits_lem : F.width ≡ L.width → SideFits L.width (F.width - R.width) R.width (left_side ks)
  left_fits_lem e = (h.short, all_map (λ k l. omega arith) h.inside)

  right_fits_lem : F.width ≡ R.width → SideFits L.width (F.width - R.width) R.width (right_side ks)
  right_fits_lem e = (h.short, all_map (λ k l. omega arith) h.inside)

  side_fits : (t : JoinType) → F.width ≡ join_width t L.width R.width → SideFits L.width (F.width - R.width) R.width
      (expr_source_side F ks t L.width)
  side_fits Inner e = either_fits e
  side_fits Left e = either_fits e
  side_fits Right e = either_fits e
  side_fits Full e = either_fits e
  side_fits LeftSemi e = left_fits_lem e
  side_fits LeftAnti e = left_fits_lem e
  side_fits RightSemi e = right_fits_lem e
  side_fits RightAnti e = right_fits_lem e

-- ---- try_pushdown_requirements_to_join
join_goes : (o : Op) (t : JoinType) (F : Facts) (fs : List Facts) (parent : List Key) → length fs ≡ 2 → wants_fit (wanted o) fs ≡ true → (s : JoinSide)
    → SideFits (at0 fs).width (F.width - (at1 fs).width) (at1 fs).width s → PushedFits fs (push_to_side o t F (at0 fs) (at1 fs) parent s)
join_goes o t F fs parent n w no_side h = tt
join_goes o t F fs parent n w (left_side ks) h =
    let v : PushedFits fs (goes (wanted o)) = wants_at (wanted o) fs w in
    go_if_fits fs (met (reorder (at0 fs) ks) (wanted o 0) && met (reorder_to F (new_output_ordering t (at0 fs) (at1 fs) ks 0)) parent)
    (side_order 0 (drop_repeats [] ks) (wanted o))
    (λ e. two-go fs (side_order 0 (drop_repeats [] ks) (wanted o)) n (repeats_keys (at0 fs).width ks h.0 h.1) (v 1 (omega arith)))
join_goes o t F fs parent n w (right_side ks) h =
    let v : PushedFits fs (goes (wanted o)) = wants_at (wanted o) fs w in
    let off : ℕ = F.width - (at1 fs).width in
    let ls : List Key = add_offset_to_physical_sort_exprs off ks in
    go_if_fits fs (met (reorder (at1 fs) ls) (wanted o 1) && met (reorder_to F (new_output_ordering t (at0 fs) (at1 fs) ls 1)) parent)
    (side_order 1 (drop_repeats [] ls) (wanted o))
    (λ e. two-go fs (side_order 1 (drop_repeats [] ls) (wanted o)) n (v 0 (omega arith))
    (repeats_keys (at1 fs).width ls (omega (arith, map-length (at_column (λ c. c - off)) ks, h.0))
    (all_over (at_column (λ c. c - off)) (λ k l. l) h.1)))

-- ---- pushdown_requirement_to_children
pub every_le : (off : ℕ) (ks : List Key) → every (λ k. leb off k.col) ks ≡ true → All (λ k. off ≤ k.col) ks
every_le off [] e = all_nil
every_le off (k ∷ ks) e = all_cons (leb-true off k.col (search and_left)) (every_le off ks (search and_right))

pub every_lt : (n : ℕ) (ks : List Key) → every (λ k. ltb k.col n) ks ≡ true → All (λ k. k.col < n) ks
every_lt n [] e = all_nil
every_lt n (k ∷ ks) e = all_cons (ltb-true k.col n (search and_left)) (every_lt n ks (search and_right))

hash_goes : (o : Op) (F : Facts) (fs : List Facts) (parent : List Key) → length fs ≡ 2 → KeysFit F.width parent
    → PushedFits fs (handle_hash_join o F fs parent)
hash_goes o F fs parent n h =
    let off : ℕ = F.width - (at1 fs).width in
    go_if_fits fs (maintains o fs 1 && every (λ k. leb off k.col) parent) (on_right (add_offset_to_physical_sort_exprs off parent))
    (λ e. two-go fs (on_right (add_offset_to_physical_sort_exprs off parent)) n no_keys
    (back_keys off F.width (at1 fs).width parent (omega arith)
    (every_le off parent (and_right (maintains o fs 1) (every (λ k. leb off k.col) parent) e)) h))

cond_fits : (fs : List Facts) (b : Bool) (u v : Pushed) → PushedFits fs u → PushedFits fs v → PushedFits fs (cond b u v)
cond_fits fs true u v h k = h
cond_fits fs false u v h k = k

module _ (fs : List Facts) (parent : List Key) where
  abbrev Node : Op → Type 0
  Node o = node_ok o (map (λ F. F.width) fs) ≡ true

  -- a kind of one child that has its child's columns
  same_columns : length fs ≡ 1 → (F : Facts) → F.width ≡ (at0 fs).width → KeysFit F.width parent → PushedFits fs (goes (λ i. parent))
  same_columns n F e h = one-goes fs (λ i. parent) n (subst (λ (w : ℕ). KeysFit w parent) e h)

  union-goes : Node union → KeysFit (union_facts fs).width parent → PushedFits fs (goes (λ i. parent))
  union-goes e h i l =
      let w : (union_facts fs).width ≡ get_or (map (λ F. F.width) fs) 0 0 = op_width union fs in
      let v : union_ok union (map (λ F. F.width) fs) ≡ true = search (and_left, and_right) in
      subst (λ (x : ℕ). KeysFit x parent) (w ∙ every_width (get_or (map (λ F. F.width) fs) 0 0) fs v i l) h

  project_goes : (cols : List ℕ) → Node (projection cols) → KeysFit (length cols) parent
      → PushedFits fs (goes (λ i. remap_requirement_through_projection cols parent))
  project_goes cols e h =
      let n : eqb (length (map (λ F. F.width) fs)) 1 ≡ true = search (and_left, and_right) in
      let b : below (get_or (map (λ F. F.width) fs) 0 0) cols ≡ true = search (and_left, and_right) in
      one-goes fs (λ i. remap_requirement_through_projection cols parent) (one_child fs n)
      (remap_keys (at0 fs).width cols parent (ap (λ (w : ℕ). below w cols) (sym (nth_width fs 0)) ∙ b) h)

  one : (o : Op) → arity o ≡ one_kid → Node o → length fs ≡ 1
  one o a e = subst (λ (x : Arity). FitsA x (length fs)) a
      (subst (FitsA (arity o)) (map-length (λ F. F.width) fs) (children_fit o (length (map (λ F. F.width) fs)) (search (and_left, and_right))))

  two : (o : Op) → arity o ≡ two_kids → Node o → length fs ≡ 2
  two o a e = subst (λ (x : Arity). FitsA x (length fs)) a
      (subst (FitsA (arity o)) (map-length (λ F. F.width) fs) (children_fit o (length (map (λ F. F.width) fs)) (search (and_left, and_right))))

  group_goes : (ks : List Key) (n : ℕ) → Node (aggregate ks n) → KeysFit (length (columns_of ks) + n) parent →
      PushedFits fs (handle_aggregate_pushdown (aggregate ks n) (columns_of ks) fs parent)
  group_goes ks n e h =
      let w : ℕ = get_or (map (λ F. F.width) fs) 0 0 in
      let groups : List ℕ = columns_of ks in
      let c : columns_fit w groups ≡ true = search (and_left, and_right) in
      let b : below (at0 fs).width groups ≡ true = ap (λ (x : ℕ). below x groups) (sym (nth_width fs 0)) ∙ and_left (below w groups) (distinct groups) c in
      let all : Bool = every (λ k. ltb k.col (length groups)) parent in
      let mapped : List Key = remap_requirement_through_projection groups parent in
      go_if_fits fs (maintains (aggregate ks n) fs 0 && (all && met (at0 fs) mapped)) (λ i. mapped)
      (λ q. one-goes fs (λ i. mapped) (one (aggregate ks n) refl e)
      (remap_keys (at0 fs).width groups parent b
      (record {
        short = h.short;
        inside = every_lt (length groups) parent
            (and_left all (met (at0 fs) mapped) (and_right (maintains (aggregate ks n) fs 0) (all && met (at0 fs) mapped) q));
        apart = h.apart;
      })))

  abbrev Fitting : Op → Pushed → Type 0
  Fitting o u = Node o → KeysFit (facts_op o fs).width parent → PushedFits fs u

  kind_fits : (o : Op) → Fitting o (push_by_kind o fs parent)
  kind_fits (source s) e h = tt
  kind_fits filter e h = tt
  kind_fits (projection cols) e h = project_goes cols e h
  kind_fits union e h = union-goes e h
  kind_fits (repartition p n q ks) e h = tt
  kind_fits (coalesce f) e h = tt
  kind_fits (sort_op p ks f) e h = go_if_fits fs (compatible (at0 fs) parent ks) (λ i. parent)
      (λ _. same_columns (one (sort_op p ks f) refl e) (at0 fs) refl h)
  kind_fits (merge_op ks f) e h =
      cond_fits fs (pushdown_would_violate_requirements (merge_op ks f) 1 parent) stop (handle_merge (facts_op (merge_op ks f) fs) parent) tt
      (go_if_fits fs (not (is_nil (facts_op (merge_op ks f) fs).order) && met (reorder (facts_op (merge_op ks f) fs) parent) (facts_op (merge_op ks f) fs).order)
      (λ i. parent) (λ _. same_columns (one (merge_op ks f) refl e) (at0 fs) refl h))
  kind_fits (global_limit s f note) e h = same_columns (one (global_limit s f note) refl e) (at0 fs) refl h
  kind_fits (local_limit f note) e h = same_columns (one (local_limit f note) refl e) (at0 fs) refl h
  kind_fits (sort_merge_join t on) e h =
      let o : Op = sort_merge_join t on in
      join_goes o t (facts_op o fs) fs parent (two o refl e) (wanted-fits o fs e) (expr_source_side (facts_op o fs) parent t (at0 fs).width)
      (side_fits (facts_op o fs) (at0 fs) (at1 fs) parent h t (join_width_lem t on (at0 fs) (at1 fs)))
  kind_fits (hash_join t on) e h = hash_goes (hash_join t on) (facts_op (hash_join t on) fs) fs parent (two (hash_join t on) refl e) h
  kind_fits (output_requirement ks d f) e h = cond_fits fs (pushdown_would_violate_requirements (output_requirement ks d f) 1 parent) stop
      (handle_custom_pushdown parent) tt (same_columns (one (output_requirement ks d f) refl e) (at0 fs) refl h)
  kind_fits (partial_sort p ks n f) e h = tt
  kind_fits (aggregate ks n) e h = group_goes ks n e h

  -- no fetch goes through a join or a source
  no_fetch_lem : (own : Option ℕ) (b : Bool) (u v : Pushed) → b ≡ false → PushedFits fs v → PushedFits fs (cond (is_some own && b) u v)
  no_fetch_lem None b u v e h = h
  no_fetch_lem (Some m) b u v e h = subst (λ (x : Bool). PushedFits fs (cond x u v)) (sym e) h

  through : (o : Op) (own : Option ℕ) (n : ℕ) → PushedFits fs (child_required o fs parent) → PushedFits fs (push_by_kind o fs parent)
      → PushedFits fs (cond (through_fetch o own n fs) (handle_fetch o (facts_op o fs) fs parent) (push_by_kind o fs parent))
  through o own n h k =
      cond_fits fs (through_fetch o own n fs) (handle_fetch o (facts_op o fs) fs parent) (push_by_kind o fs parent)
      (cond_fits fs (is_nil (facts_op o fs).order || compatible (facts_op o fs) parent (facts_op o fs).order) (child_required o fs parent) stop h tt) k

  fetch_fits : (o : Op) (own : Option ℕ) (n : ℕ)
      → Fitting o (cond (through_fetch o own n fs) (handle_fetch o (facts_op o fs) fs parent) (push_by_kind o fs parent))
  fetch_fits (source s) own n e h = no_fetch_lem own _ _ _ refl tt
  fetch_fits filter own n e h = through filter own n (same_columns (one filter refl e) (at0 fs) refl h) (kind_fits filter e h)
  fetch_fits (projection cols) own n e h = through (projection cols) own n (project_goes cols e h) (kind_fits (projection cols) e h)
  fetch_fits union own n e h = through union own n (union-goes e h) (kind_fits union e h)
  fetch_fits (repartition p m q ks) own n e h = through (repartition p m q ks) own n (same_columns (one (repartition p m q ks) refl e) (at0 fs) refl h) tt
  fetch_fits (coalesce f) own n e h = through (coalesce f) own n (same_columns (one (coalesce f) refl e) (at0 fs) refl h) tt
  fetch_fits (sort_op p ks f) own n e h = through (sort_op p ks f) own n (same_columns (one (sort_op p ks f) refl e) (at0 fs) refl h)
      (kind_fits (sort_op p ks f) e h)
  fetch_fits (merge_op ks f) own n e h = through (merge_op ks f) own n (same_columns (one (merge_op ks f) refl e) (at0 fs) refl h)
      (kind_fits (merge_op ks f) e h)
  fetch_fits (global_limit s f note) own n e h = through (global_limit s f note) own n (same_columns (one (global_limit s f note) refl e) (at0 fs) refl h)
      (kind_fits (global_limit s f note) e h)
  fetch_fits (local_limit f note) own n e h = through (local_limit f note) own n (same_columns (one (local_limit f note) refl e) (at0 fs) refl h)
      (kind_fits (local_limit f note) e h)
  fetch_fits (sort_merge_join t on) own n e h = no_fetch_lem own _ _ _ refl (kind_fits (sort_merge_join t on) e h)
  fetch_fits (hash_join t on) own n e h = no_fetch_lem own _ _ _ refl (kind_fits (hash_join t on) e h)
  fetch_fits (output_requirement ks d f) own n e h = through (output_requirement ks d f) own n
      (same_columns (one (output_requirement ks d f) refl e) (at0 fs) refl h) (kind_fits (output_requirement ks d f) e h)
  fetch_fits (partial_sort p ks m f) own n e h = through (partial_sort p ks m f) own n (same_columns (one (partial_sort p ks m f) refl e) (at0 fs) refl h) tt
  fetch_fits (aggregate ks m) own n e h = no_fetch_lem own _ _ _ refl (kind_fits (aggregate ks m) e h)

  pub pushed_fits : (o : Op) (own : Option ℕ) (n : ℕ) (f : Option ℕ) → Fitting o (pushdown_requirement_to_children o own n fs parent f)
  pushed_fits o own n f e h = cond_fits fs (fetch_blocks o f) stop (cond (through_fetch o own n fs) (handle_fetch o (facts_op o fs) fs parent)
      (push_by_kind o fs parent)) tt (fetch_fits o own n e h)
