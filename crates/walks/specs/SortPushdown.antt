-- sort_pushdown.rs, first part: what is required of a node, and how a requirement goes past it: min_fetch, stronger_distribution,
-- expr_source_side, try_pushdown_requirements_to_join, handle_hash_join, handle_custom_pushdown, handle_projection_pushdown,
-- handle_aggregate_pushdown, pushdown_would_violate_requirements, pushdown_requirement_to_children. These are definitions.
use Rattle.std.specs.Prelude.{Bool, true, false, cond, not, ◌&&◌, ◌||◌, List, [], ◌∷◌, map, ℕ, zero, suc, ◌+◌, ◌-◌, min, eqb, ltb, leb, length, get_or, Option, Some, None, is_some}
use Rattle.row_order.specs.Iso.{Key}
use Rattle.plan.specs.Forest.{roots}
use Rattle.plan.specs.Op.{Op, source, filter, projection, union, repartition, coalesce, sort_op, merge_op, global_limit, local_limit, sort_merge_join, hash_join, output_requirement, partial_sort, aggregate, Plan}
use Rattle.plan.specs.Numbers.{code}
use Rattle.plan.specs.WellFormed.{every, columns_of}
use Rattle.plan.specs.declared.JoinType.{JoinType}
use Rattle.plan.specs.declared.JoinType.TheVariants.{Inner, Left, Right, Full, LeftSemi, LeftAnti, RightSemi, RightAnti}
use Rattle.plan.specs.declared.Distribution.{Distribution}
use Rattle.plan.specs.declared.Distribution.TheVariants.{Unspecified, Single, Keyed}
use Rattle.semantics.specs.Facts.{Facts, cl, with_column, eq_key, met, compatible, drop_repeats, ordered, reorder, lowest, is_nil, smj_kept, join_order, at0, at1, facts_op, known_order}
use Rattle.semantics.specs.Properties.{wanted, maintains, cardinality_equal, supports_limit_pushdown}
use Rattle.walks.specs.Marks.{any_below}

-- ---- ParentRequirements; no order is the empty list

pub record ParentRequirements : Type 0 where
  pub order : List Key
  pub fetch : Option ℕ
  pub dist : Distribution

-- 01: "Default of ParentRequirements: no order, no fetch, no distribution."
abbrev pub default_requirements : ParentRequirements
default_requirements = record { order = []; fetch = None; dist = Unspecified }

-- 01, 'Worked on paper': "fetch 3 with 5: 3; 3 with none: 3; none with none: none"
abbrev pub min_fetch : Option ℕ → Option ℕ → Option ℕ
min_fetch None g = g
min_fetch (Some m) None = Some m
min_fetch (Some m) (Some n) = Some (min m n)

-- "keyed {1} with keyed {2}: {1}; with single: single"
abbrev pub stronger_distribution : Distribution → Distribution → Distribution
stronger_distribution d Unspecified = d
stronger_distribution d Single = Single
stronger_distribution Unspecified (Keyed s) = Keyed s
stronger_distribution Single (Keyed s) = Single
stronger_distribution (Keyed r) (Keyed s) = Keyed r

-- "If this node already outputs single partition, don't push SinglePartition requirement to children"
abbrev pub effective_dist : Facts → Distribution → Distribution
effective_dist F d = cond (eqb F.streams 1) Unspecified d

-- ---- how many children stand below a node, from their plans

abbrev pub child_count : Plan → ℕ
child_count c = length (roots c)

-- ---- what goes to the children: nothing, the Rust's None; or an order for each child by its number, the empty list being none

pub data Pushed : Type 0 where
  stop : Pushed
  goes : (ℕ → List Key) → Pushed

abbrev pub go_if : Bool → (ℕ → List Key) → Pushed
go_if true g = goes g
go_if false g = stop

-- ---- remap_requirement_through_projection: "A list that a rewrite puts into a node or a requirement drops a column's later repeats"

abbrev pub at_column : (ℕ → ℕ) → Key → Key
at_column g k = with_column (g k.col) k

abbrev pub remap_requirement_through_projection : List ℕ → List Key → List Key
remap_requirement_through_projection cols ks = drop_repeats [] (map (at_column (λ c. get_or cols c 0)) ks)

-- ---- expr_source_side

pub data JoinSide : Type 0 where
  no_side : JoinSide
  left_side : List Key → JoinSide
  right_side : List Key → JoinSide

-- An ordering whose columns are all on one side; or not
pub data Valid : Type 0 where
  invalid : Valid
  valid : List Key → Valid

abbrev pub and_key : Key → Valid → Valid
and_key k invalid = invalid
and_key k (valid ks) = valid (k ∷ ks)

-- Each column if it is in [lo, lo + n), else "the lowest equal column on the side it looks for"
abbrev pub on_side : Facts → ℕ → ℕ → List Key → Valid
on_side F lo n [] = valid []
on_side F lo n (k ∷ ks) =
    let i : ℕ = lowest (λ j. eqb (cl F (lo + j)) (cl F k.col)) n in
    cond (leb lo k.col && ltb k.col (lo + n)) (and_key k (on_side F lo n ks))
    (cond (ltb i n) (and_key (with_column (lo + i) k) (on_side F lo n ks)) invalid)

abbrev pub or_right : Valid → JoinSide
or_right invalid = no_side
or_right (valid ks) = right_side ks

abbrev pub left_first : Valid → Valid → JoinSide
left_first invalid r = or_right r
left_first (valid ks) r = left_side ks

abbrev pub either_side : Facts → List Key → ℕ → JoinSide
either_side F ks left = left_first (on_side F 0 left ks) (on_side F left (F.width - left) ks)

-- left: how many columns the left child has
abbrev pub expr_source_side : Facts → List Key → JoinType → ℕ → JoinSide
expr_source_side F ks Inner left = either_side F ks left
expr_source_side F ks Left left = either_side F ks left
expr_source_side F ks Right left = either_side F ks left
expr_source_side F ks Full left = either_side F ks left
expr_source_side F ks LeftSemi left = left_side ks
expr_source_side F ks LeftAnti left = left_side ks
expr_source_side F ks RightSemi left = right_side ks
expr_source_side F ks RightAnti left = right_side ks

-- ---- try_pushdown_requirements_to_join: a join o of type t with facts F over L and R, the ordering ks pushed to side s

-- reorder, if there is an order to put
abbrev pub reorder_to : Facts → List Key → Facts
reorder_to F [] = F
reorder_to F (k ∷ ks) = reorder F (k ∷ ks)

-- The join's order once the side's child has the order ks: calculate_join_output_ordering
abbrev pub new_output_ordering : JoinType → Facts → Facts → List Key → ℕ → List Key
new_output_ordering t L R ks zero = join_order t (smj_kept t) (ordered L 0 (drop_repeats [] ks)) R
new_output_ordering t L R ks (suc s) = join_order t (smj_kept t) L (ordered R 0 (drop_repeats [] ks))

abbrev pub side_order : ℕ → List Key → (ℕ → List Key) → ℕ → List Key
side_order s ks g i = cond (eqb i s) ks (g i)

abbrev pub try_pushdown_requirements_to_join : Op → JoinType → Facts → Facts → Facts → List Key → List Key → ℕ → Pushed
try_pushdown_requirements_to_join o t F L R parent ks s =
    go_if (met (reorder (cond (eqb s 0) L R) ks) (wanted o s) && met (reorder_to F (new_output_ordering t L R ks s)) parent)
    (side_order s (drop_repeats [] ks) (wanted o))

-- 01: "isize offsets for the right side"; here off is taken off, and every column of the right side is at or above it
abbrev pub add_offset_to_physical_sort_exprs : ℕ → List Key → List Key
add_offset_to_physical_sort_exprs off ks = map (at_column (λ c. c - off)) ks

abbrev pub push_to_side : Op → JoinType → Facts → Facts → Facts → List Key → JoinSide → Pushed
push_to_side o t F L R parent no_side = stop
push_to_side o t F L R parent (left_side ks) = try_pushdown_requirements_to_join o t F L R parent ks 0
push_to_side o t F L R parent (right_side ks) = try_pushdown_requirements_to_join o t F L R parent (add_offset_to_physical_sort_exprs (F.width - R.width) ks) 1

-- ---- pushdown_would_violate_requirements

-- No key equals its counterpart: compared as they stand (reading 6)
abbrev pub none_equal : List Key → List Key → Bool
none_equal [] ps = true
none_equal (k ∷ ks) [] = true
none_equal (k ∷ ks) (p ∷ ps) = not (eq_key k p) && none_equal ks ps

-- o has n children
abbrev pub pushdown_would_violate_requirements : Op → ℕ → List Key → Bool
pushdown_would_violate_requirements o n parent = any_below n (λ i. not (is_nil (wanted o i)) && none_equal (wanted o i) parent)

-- ---- handle_hash_join: to the right child, if the join maintains it and all columns are the right child's

abbrev pub on_right : List Key → ℕ → List Key
on_right ks zero = []
on_right ks (suc i) = ks

-- build_join_column_index, of it the side: column c of the join's output is the right child's. off: how many columns stand before those,
-- the left child's of an inner or a right join, none of a right semi or anti join; no other type maintains its right child
abbrev pub build_join_column_index : ℕ → ℕ → Bool
build_join_column_index off c = leb off c

abbrev pub handle_hash_join : Op → Facts → List Facts → List Key → Pushed
handle_hash_join o F fs parent =
    let off : ℕ = F.width - (at1 fs).width in
    let all_from_right_child : Bool = every (λ k. build_join_column_index off k.col) parent in
    go_if (maintains o fs 1 && all_from_right_child) (on_right (add_offset_to_physical_sort_exprs off parent))

-- ---- handle_custom_pushdown: limits and kind 13 are left, whose one child is maintained and has the same columns

abbrev pub handle_custom_pushdown : List Key → Pushed
handle_custom_pushdown parent = goes (λ i. parent)

-- ---- handle_projection_pushdown: keys are columns, and so are a projection's

abbrev pub handle_projection_pushdown : List ℕ → List Key → Pushed
handle_projection_pushdown cols parent = goes (λ i. remap_requirement_through_projection cols parent)

-- ---- handle_aggregate_pushdown: "rewrites the parent required ordering in terms of the aggregate input if possible"; to the child, if the
-- aggregate maintains it, every column is a group column, and "input ordering already satisfies the mapped requirement". Grouping sets are
-- left out. groups: for each group column its child column. The requirement is mapped as through a projection to them. (Of an empty list the Rust
-- answers None; pushing asks of none.)

abbrev pub handle_aggregate_pushdown : Op → List ℕ → List Facts → List Key → Pushed
handle_aggregate_pushdown o groups fs parent =
    let child_requirement : List Key = remap_requirement_through_projection groups parent in
    go_if (maintains o fs 0 && (every (λ k. ltb k.col (length groups)) parent && met (at0 fs) child_requirement)) (λ i. child_requirement)

-- ---- a merge: "To reorder is to put a list's normal form in the known order's place; no change if they are equal. A merge without a
-- fetch whose keys are all constant lets no order be pushed past it: the Rust panics there."

abbrev pub handle_merge : Facts → List Key → Pushed
handle_merge F parent = go_if (not (is_nil (known_order F)) && met (reorder F parent) (known_order F)) (λ i. parent)

-- ---- pushdown_requirement_to_children

-- The branches by kind. A sort is handled before it comes here, and has an order then
abbrev pub push_by_kind : Op → List Facts → List Key → Pushed
push_by_kind (source s) fs parent = stop
push_by_kind filter fs parent = stop
push_by_kind (projection cols) fs parent = handle_projection_pushdown cols parent
push_by_kind union fs parent = goes (λ i. parent)
push_by_kind (repartition p n h ks) fs parent = stop
push_by_kind (coalesce f) fs parent = stop
push_by_kind (sort_op p ks f) fs parent = go_if (compatible (at0 fs) parent ks) (λ i. parent)
push_by_kind (merge_op ks f) fs parent = cond (pushdown_would_violate_requirements (merge_op ks f) 1 parent) stop (handle_merge (facts_op (merge_op ks f) fs) parent)
push_by_kind (global_limit s f note) fs parent = handle_custom_pushdown parent
push_by_kind (local_limit f note) fs parent = handle_custom_pushdown parent
push_by_kind (sort_merge_join t on) fs parent =
    let F : Facts = facts_op (sort_merge_join t on) fs in
    push_to_side (sort_merge_join t on) t F (at0 fs) (at1 fs) parent (expr_source_side F parent t (at0 fs).width)
push_by_kind (hash_join t on) fs parent = handle_hash_join (hash_join t on) (facts_op (hash_join t on) fs) fs parent
push_by_kind (output_requirement ks d f) fs parent = cond (pushdown_would_violate_requirements (output_requirement ks d f) 1 parent) stop
    (handle_custom_pushdown parent)
push_by_kind (partial_sort p ks n f) fs parent = stop
push_by_kind (aggregate ks n) fs parent = handle_aggregate_pushdown (aggregate ks n) (columns_of ks) fs parent

abbrev pub all_below : ℕ → (ℕ → Bool) → Bool
all_below n p = not (any_below n (λ i. not (p i)))

-- "If there is a limit on the parent plan we cannot push it down through operators that change the cardinality."
abbrev pub fetch_blocks : Op → Option ℕ → Bool
fetch_blocks o f = is_some f && not (supports_limit_pushdown o && cardinality_equal o)

-- "Push down through operator with fetch when: requirement is aligned with output ordering, it preserves ordering during execution";
-- own: the plan's own fetch; n: its children
abbrev pub through_fetch : Op → Option ℕ → ℕ → List Facts → Bool
through_fetch o own n fs = is_some own && (supports_limit_pushdown o && all_below n (maintains o fs))

-- child_required, the requirement in the child's columns: remapped past a projection
abbrev pub child_required : Op → List Facts → List Key → Pushed
child_required o fs parent = cond (eqb (code o) 3) (push_by_kind o fs parent) (goes (λ i. parent))

abbrev pub handle_fetch : Op → Facts → List Facts → List Key → Pushed
handle_fetch o F fs parent = cond (is_nil (known_order F) || compatible F parent (known_order F)) (child_required o fs parent) stop

abbrev pub pushdown_requirement_to_children : Op → Option ℕ → ℕ → List Facts → List Key → Option ℕ → Pushed
pushdown_requirement_to_children o own n fs parent f =
    cond (fetch_blocks o f) stop (cond (through_fetch o own n fs) (handle_fetch o (facts_op o fs) fs parent) (push_by_kind o fs parent))
