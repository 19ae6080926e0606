-- In a plan that 01's rules accept, known orders are key lists that they accept, and so are the nodes that a walk makes of them.
use Rattle.std.specs.Prelude.{◌≡◌, refl, Bool, true, false, cond, not, ◌&&◌, ◌||◌, List, [], ◌∷◌, map, ℕ, zero, suc, ◌≤◌, eqb, ltb, leb, length, get_or, take, Option, Some, None}
use Rattle.std.proofs.Common.{sym, ap, ap₂, ◌∙◌, subst, arith, eqb-true, leb-true, le-leb}
use Rattle.std.proofs.lemmas.Bool.{not-true}
use Rattle.row_order.specs.Iso.{Key}
use Rattle.row_order.proofs.Order.{no_bool}
use Rattle.row_order.specs.Lists.{All, all_cons, all_nil}
use Rattle.row_order.specs.ListLaws.{all_head}
use Rattle.plan.specs.Forest.{none, tree}
use Rattle.plan.specs.Op.{coalesce, filter, global_limit, hash_join, local_limit, merge_op, On, Op, output_requirement, partial_sort, aggregate, Plan, projection, repartition, sort_merge_join, sort_op, source, union}
use Rattle.plan.specs.Numbers.{code}
use Rattle.plan.specs.WellFormed.{columns_fit, columns_ok, distinct, distribution_fits, fetch_ok, few, fields_ok, keys_fit, member, node_ok, on_fit, some, columns_of}
use Rattle.plan.specs.declared.JoinType.{JoinType}
use Rattle.plan.specs.declared.JoinType.TheVariants.{Full, Inner, Left, LeftAnti, LeftSemi, Right, RightAnti, RightSemi}
use Rattle.semantics.specs.Facts.{at0, at1, carried, cl, common, eq_key, Facts, facts, facts_op, hash_kept, is_c, join_base, join_order, keeps_order, Kept, k_left, k_none, k_right, left_order, moved, nf, nothing, proj_order, right_order, smj_kept, source_facts, union_facts, with_column, within}
use Rattle.semantics.specs.Properties.{cuts, fetches, fetch_op, right_key, wanted}
use Rattle.semantics.specs.Canonical.{Canon}
use Rattle.semantics.proofs.Theorems.Common.Bools.{and_left, and_right, or_false}
use Rattle.semantics.proofs.Theorems.Canonical.EveryNode.{canon}
use Rattle.semantics.proofs.Theorems.Common.Streams.{all_take}
use Rattle.semantics.proofs.Theorems.Facts.Fits.{Fits, fits, op_width}
use Rattle.walks.specs.Marks.{fact, fetch_t, known, op_t, strip, Tree}
use Rattle.walks.specs.Terms.{easing}
use Rattle.walks.proofs.Theorems.Common.Lists.{all_nth, map-length}
use Rattle.walks.specs.Trees.{Ok, OkT}
use Rattle.walks.proofs.Theorems.Common.Trees.{ok_to}
use Rattle.walks.proofs.Theorems.Common.Keys.{keys_of_lem, keys_to, KeysFit, keys_ok, nf-length, normal_distinct}

-- ---- known orders have at most 8 keys
abbrev Short : Facts → Type 0
Short F = length F.order ≤ 8

none_short : Short nothing
none_short = omega arith

common-length : (p q : List Key) → length (common p q) ≤ length p
common-length [] q = omega arith
common-length (k ∷ p) [] = omega arith
common-length (k ∷ p) (l ∷ q) = go (eq_key k l) (common-length p q)
  where
    go : (b : Bool) → length (common p q) ≤ length p → length (cond b (k ∷ common p q) []) ≤ suc (length p)
    go true h = omega arith
    go false h = omega arith

union_short : (fs : List Facts) → All Short fs → Short (union_facts fs)
union_short [] hs = omega arith
union_short (F ∷ []) hs = all_head hs
union_short (F ∷ G ∷ fs) hs = omega (arith, common-length F.order (union_facts (G ∷ fs)).order, all_head hs)

proj_length : (F : Facts) (cols : List ℕ) (ks : List Key) → length (proj_order F cols ks) ≤ length ks
proj_length F cols [] = omega arith
proj_length F cols (k ∷ ks) = go (ltb (carried F cols k.col) (length cols)) (proj_length F cols ks)
  where
    go : (b : Bool) → length (proj_order F cols ks) ≤ length ks → length (cond b (with_column (carried F cols k.col) k ∷ proj_order F cols ks) []) ≤ suc
        (length ks)
    go true h = omega arith
    go false h = omega arith

if_short : (b : Bool) (F : Facts) → Short F → length (cond b F.order []) ≤ 8
if_short true F h = h
if_short false F h = omega arith

within-length : (w : ℕ) (ks : List Key) → length (within w ks) ≤ length ks
within-length w [] = omega arith
within-length w (k ∷ ks) = go (ltb k.col w) (within-length w ks)
  where
    go : (b : Bool) → length (within w ks) ≤ length ks → length (cond b (k ∷ within w ks) []) ≤ suc (length ks)
    go true h = omega arith
    go false h = omega arith

left_length : (t : JoinType) (w : ℕ) (ks : List Key) → length (left_order t w ks) ≤ length ks
left_length Inner w ks = within-length w ks
left_length Left w ks = within-length w ks
left_length Right w ks = omega arith
left_length Full w ks = omega arith
left_length LeftSemi w ks = omega arith
left_length LeftAnti w ks = omega arith
left_length RightSemi w ks = omega arith
left_length RightAnti w ks = omega arith

right_length : (t : JoinType) (w : ℕ) (ks : List Key) → length (right_order t w ks) ≤ length ks
right_length Inner w ks = omega (arith, map-length (moved w) ks)
right_length Left w ks = omega arith
right_length Right w ks = omega (arith, map-length (moved w) ks)
right_length Full w ks = omega arith
right_length LeftSemi w ks = omega arith
right_length LeftAnti w ks = omega arith
right_length RightSemi w ks = omega arith
right_length RightAnti w ks = omega arith

join_length : (t : JoinType) (k : Kept) (F G : Facts) → Short F → Short G → length (join_order t k F G) ≤ 8
join_length t k_left F G f g = omega (arith, left_length t F.width F.order)
join_length t k_right F G f g = omega (arith, right_length t F.width G.order)
join_length t k_none F G f g = omega arith

nf_short : (F : Facts) (ks : List Key) → length ks ≤ 8 → length (nf F [] ks) ≤ 8
nf_short F ks h = omega (arith, nf-length (is_c F) (cl F) [] ks)

few_short : {A : Type 0} (l : List A) → few l ≡ true → length l ≤ 8
few_short l e = leb-true (length l) 8 (search (and_left, and_right))

some_short : {A : Type 0} (l : List A) → some l ≡ true → length l ≤ 8
some_short l e = leb-true (length l) 8 (search (and_left, and_right))

op_short : (o : Op) (fs : List Facts) → fields_ok o ≡ true → All Short fs → Short (facts_op o fs)
op_short (source s) fs e hs = nf_short (source_facts s.width s.streams s.constants) s.keys (few_short s.keys (search (and_left, and_right)))
op_short filter fs e hs = all_nth nothing none_short hs 0
op_short (projection cols) fs e hs = omega (arith, proj_length (at0 fs) cols (at0 fs).order, all_nth nothing none_short hs 0)
op_short union fs e hs = union_short fs hs
op_short (repartition p n h ks) fs e hs = if_short (keeps_order p (at0 fs)) (at0 fs) (all_nth nothing none_short hs 0)
op_short (coalesce f) fs e hs = omega arith
op_short (sort_op p ks f) fs e hs = nf_short (at0 fs) ks (some_short ks (search and_left))
op_short (merge_op ks f) fs e hs = nf_short (at0 fs) ks (some_short ks (search and_left))
op_short (global_limit s f note) fs e hs = if_short (eqb (at0 fs).streams 1) (at0 fs) (all_nth nothing none_short hs 0)
op_short (local_limit f note) fs e hs = all_nth nothing none_short hs 0
op_short (sort_merge_join t on) fs e hs = nf_short (join_base t on (at0 fs) (at1 fs)) (join_order t (smj_kept t) (at0 fs) (at1 fs))
    (join_length t (smj_kept t) (at0 fs) (at1 fs) (all_nth nothing none_short hs 0) (all_nth nothing none_short hs 1))
op_short (hash_join t on) fs e hs = nf_short (join_base t on (at0 fs) (at1 fs)) (join_order t (hash_kept t) (at0 fs) (at1 fs))
    (join_length t (hash_kept t) (at0 fs) (at1 fs) (all_nth nothing none_short hs 0) (all_nth nothing none_short hs 1))
op_short (output_requirement ks d f) fs e hs = all_nth nothing none_short hs 0
op_short (partial_sort p ks n f) fs e hs = nf_short (at0 fs) ks (some_short ks (search (and_left, and_right)))
op_short (aggregate ks n) fs e hs = omega (arith, proj_length (at0 fs) (columns_of ks) (at0 fs).order, all_nth nothing none_short hs 0)

shorts : (f : Plan) → Ok f → All Short (facts f)
shorts none h = all_nil
shorts (tree o c r) h = all_cons (op_short o (facts c) (search (and_left, and_right)) (shorts c h.1)) (shorts r h.2)

-- ---- known orders fit
abbrev pub OrderFits : Facts → Type 0
OrderFits F = KeysFit F.width F.order

each_order : {fs : List Facts} → All Short fs → All Fits fs → All Canon fs → All OrderFits fs
each_order all_nil all_nil all_nil = all_nil
each_order (all_cons s ss) (all_cons f fs) (all_cons c cs) = all_cons (record { short = s; inside = f; apart = normal_distinct c.normal })
    (each_order ss fs cs)

pub orders_fit : (f : Plan) → Ok f → All OrderFits (facts f)
orders_fit f h = each_order (shorts f h) (fits f (ok_to f h)) (canon f)

pub order_fits : (t : Tree) → OkT t → OrderFits (fact t)
order_fits t h = all_head (orders_fit (tree (op_t t) (strip t.kids) none) (h.0, h.1, tt))

-- ---- fetches are four bytes
op_fetch_ok : (o : Op) → fields_ok o ≡ true → fetch_ok (cuts o).fetch ≡ true
op_fetch_ok (source s) e = refl
op_fetch_ok filter e = refl
op_fetch_ok (projection cols) e = refl
op_fetch_ok union e = refl
op_fetch_ok (repartition p n h ks) e = refl
op_fetch_ok (coalesce f) e = e
op_fetch_ok (sort_op p ks f) e = search and_right
op_fetch_ok (merge_op ks f) e = search and_right
op_fetch_ok (global_limit s f note) e = search (and_left, and_right)
op_fetch_ok (local_limit f note) e = search (and_left, and_right)
op_fetch_ok (sort_merge_join t on) e = refl
op_fetch_ok (hash_join t on) e = refl
op_fetch_ok (output_requirement ks d f) e = search (and_left, and_right)
op_fetch_ok (partial_sort p ks n f) e = search (and_left, and_right)
op_fetch_ok (aggregate ks n) e = refl

pub node_fetch : (o : Op) (ws : List ℕ) → node_ok o ws ≡ true → fetch_ok (cuts o).fetch ≡ true
node_fetch o ws e = op_fetch_ok o (search (and_left, and_right))

pub fetch_op_ok : (o : Op) (ws : List ℕ) (fs : List (Option ℕ)) → node_ok o ws ≡ true → All (λ f. fetch_ok f ≡ true) fs → fetch_ok (fetch_op o fs) ≡ true
fetch_op_ok o ws fs e h = go (eqb (code o) 3)
  where
    go : (b : Bool) → fetch_ok (cond b (get_or fs 0 None) (cuts o).fetch) ≡ true
    go true = all_nth None refl h 0
    go false = node_fetch o ws e

pub fetches_ok : (f : Plan) → Ok f → All (λ x. fetch_ok x ≡ true) (fetches f)
fetches_ok none h = all_nil
fetches_ok (tree o c r) h = all_cons (fetch_op_ok o (map (λ F. F.width) (facts c)) (fetches c) h.0 (fetches_ok c h.1)) (fetches_ok r h.2)

pub fetch_ok_lem : (t : Tree) → OkT t → fetch_ok (fetch_t t) ≡ true
fetch_ok_lem t h = fetch_op_ok (op_t t) (map (λ F. F.width) (known t.kids)) (fetches (strip t.kids)) h.0 (fetches_ok (strip t.kids) h.1)

-- ---- at most 32 columns
pub narrow : (o : Op) (fs : List Facts) → node_ok o (map (λ F. F.width) fs) ≡ true → leb (facts_op o fs).width 32 ≡ true
narrow o fs e = ap (λ (w : ℕ). leb w 32) (op_width o fs) ∙ search (and_left, and_right)

pub narrow_t : (t : Tree) → OkT t → leb (fact t).width 32 ≡ true
narrow_t t h = narrow (op_t t) (known t.kids) h.0

-- ---- new nodes over one child: ws its width
abbrev pub Over : List ℕ → Type 0
Over ws = (eqb (length ws) 1 ≡ true) × (leb (get_or ws 0 0) 32 ≡ true)

some-keys : (k : Key) (ks : List Key) → length (k ∷ ks) ≤ 8 → some (k ∷ ks) ≡ true
some-keys k ks h = ap₂ ◌&&◌ (le-leb 1 (length (k ∷ ks)) (omega arith)) (le-leb (length (k ∷ ks)) 8 h)

pub sort_ok : (p : Bool) (k : Key) (ks : List Key) (f : Option ℕ) (ws : List ℕ) → KeysFit (get_or ws 0 0) (k ∷ ks) → fetch_ok f ≡ true → Over ws
    → node_ok (sort_op p (k ∷ ks) f) ws ≡ true
sort_ok p k ks f ws h e n =
    ap₂ ◌&&◌ (ap₂ ◌&&◌ (ap₂ ◌&&◌ (some-keys k ks h.short) e) n.0) (ap₂ ◌&&◌ (and_right (few (k ∷ ks)) (keys_fit (get_or ws 0 0) (k ∷ ks)) (keys_to h))
    n.1)

pub merge_ok : (k : Key) (ks : List Key) (f : Option ℕ) (ws : List ℕ) → KeysFit (get_or ws 0 0) (k ∷ ks) → fetch_ok f ≡ true → Over ws
    → node_ok (merge_op (k ∷ ks) f) ws ≡ true
merge_ok k ks f ws h e n = sort_ok true k ks f ws h e n

pub coalesce_ok : (f : Option ℕ) (ws : List ℕ) → fetch_ok f ≡ true → Over ws → node_ok (coalesce f) ws ≡ true
coalesce_ok f ws e n = ap₂ ◌&&◌ (ap₂ ◌&&◌ e n.0) n.1

pub local_ok : (m : ℕ) (note : List Key) (ws : List ℕ) → KeysFit (get_or ws 0 0) note → fetch_ok (Some m) ≡ true → Over ws
    → node_ok (local_limit (Some m) note) ws ≡ true
local_ok m note ws h e n =
    let k : keys_ok (get_or ws 0 0) note ≡ true = keys_to h in
    ap₂ ◌&&◌ (ap₂ ◌&&◌ (ap₂ ◌&&◌ (and_left (few note) (keys_fit (get_or ws 0 0) note) k) e) n.0)
    (ap₂ ◌&&◌ (and_right (few note) (keys_fit (get_or ws 0 0) note) k) n.1)

pub global_ok : (m : ℕ) (note : List Key) (ws : List ℕ) → KeysFit (get_or ws 0 0) note → fetch_ok (Some m) ≡ true → Over ws
    → node_ok (global_limit 0 (Some m) note) ws ≡ true
global_ok m note ws h e n = local_ok m note ws h e n

-- A kind of one child has one of at most 32 columns
pub over_of : (o : Op) (ws : List ℕ) → easing o ≡ true → node_ok o ws ≡ true → Over ws
over_of (source s) ws e h = no_bool e
over_of filter ws e h = no_bool e
over_of (projection cols) ws e h = no_bool e
over_of union ws e h = no_bool e
over_of (repartition p n q ks) ws e h = (search (and_left, and_right), search (and_left, and_right))
over_of (coalesce f) ws e h = (search (and_left, and_right), search (and_left, and_right))
over_of (sort_op p ks f) ws e h = (search (and_left, and_right), search (and_left, and_right))
over_of (merge_op ks f) ws e h = (search (and_left, and_right), search (and_left, and_right))
over_of (global_limit s f note) ws e h = (search (and_left, and_right), search (and_left, and_right))
over_of (local_limit f note) ws e h = (search (and_left, and_right), search (and_left, and_right))
over_of (sort_merge_join t on) ws e h = no_bool e
over_of (hash_join t on) ws e h = no_bool e
over_of (output_requirement ks d f) ws e h = no_bool e
over_of (partial_sort p ks n f) ws e h = no_bool e
over_of (aggregate ks n) ws e h = no_bool e

-- ---- what a node wants of a child fits that child
on_keys : (w v : ℕ) (on : List On) → some on ≡ true → on_fit w v on ≡ true → KeysFit w (map (λ k. k.key) on) × KeysFit v (map right_key on)
on_keys w v on s e =
    let l : columns_fit w (map (λ k. k.key.col) on) ≡ true = search and_left in
    let r : columns_fit v (map (λ k. k.other) on) ≡ true = search and_right in (
      keys_of_lem w (map (λ k. k.key) on) (ap₂ ◌&&◌ (small (λ k. k.key)) (ap (columns_fit w) (columns (λ k. k.key) on) ∙ l)),
      keys_of_lem v (map right_key on) (ap₂ ◌&&◌ (small right_key) (ap (columns_fit v) (columns right_key on) ∙ r)),
    )
  where
    small : (g : On → Key) → few (map g on) ≡ true
    small g = ap₂ ◌&&◌ (le-leb 0 (length (map g on)) (omega arith)) (le-leb (length (map g on)) 8 (omega (arith, map-length g on, some_short on s)))

    columns : (g : On → Key) (m : List On) → map (λ k. k.col) (map g m) ≡ map (λ k. (g k).col) m
    columns g [] = refl
    columns g (k ∷ m) = ap (λ (x : List ℕ). (g k).col ∷ x) (columns g m)

take_keys : (n w : ℕ) (ks : List Key) → KeysFit w ks → KeysFit w (take n ks)
take_keys n w ks h = record { short = omega (arith, take-length n ks, h.short); inside = all_take n h.inside; apart = taken n ks h.apart }
  where
    take-length : (m : ℕ) (l : List Key) → length (take m l) ≤ length l
    take-length zero l = omega arith
    take-length (suc m) [] = omega arith
    take-length (suc m) (k ∷ l) = omega (arith, take-length m l)

    out : (c : ℕ) (m : ℕ) (l : List Key) → member c (map (λ k. k.col) l) ≡ false → member c (map (λ k. k.col) (take m l)) ≡ false
    out c zero l e = refl
    out c (suc m) [] e = refl
    out c (suc m) (k ∷ l) e = let f = or_false (eqb c k.col) (member c (map (λ k. k.col) l)) e in ap₂ ◌||◌ f.0 (out c m l f.1)

    taken : (m : ℕ) (l : List Key) → distinct (map (λ k. k.col) l) ≡ true → distinct (map (λ k. k.col) (take m l)) ≡ true
    taken zero l e = refl
    taken (suc m) [] e = refl
    taken (suc m) (k ∷ l) e = ap₂ (λ (x y : Bool). not x && y) (out k.col m l (not-true (member k.col (map (λ k. k.col) l)) (search and_left)))
        (taken m l (search and_right))

-- Each wanted list fits its child
abbrev pub wants_fit : (ℕ → List Key) → List Facts → Bool
wants_fit w [] = true
wants_fit w (F ∷ fs) = keys_ok F.width (w 0) && wants_fit (λ i. w (suc i)) fs

nothing-wanted : (fs : List Facts) → wants_fit (λ i. []) fs ≡ true
nothing-wanted [] = refl
nothing-wanted (F ∷ fs) = nothing-wanted fs

only_first : (w : ℕ → List Key) (fs : List Facts) → length fs ≡ 1 → KeysFit (at0 fs).width (w 0) → wants_fit w fs ≡ true
only_first w [] n h = refl
only_first w (F ∷ []) n h = ap₂ ◌&&◌ (keys_to h) refl
only_first w (F ∷ G ∷ fs) n h = absurd (omega arith)

first_two : (w : ℕ → List Key) (fs : List Facts) → length fs ≡ 2 → KeysFit (at0 fs).width (w 0) → KeysFit (at1 fs).width (w 1) → wants_fit w fs ≡ true
first_two w [] n h k = refl
first_two w (F ∷ []) n h k = absurd (omega arith)
first_two w (F ∷ G ∷ []) n h k = ap₂ ◌&&◌ (keys_to h) (ap₂ ◌&&◌ (keys_to k) refl)
first_two w (F ∷ G ∷ H ∷ fs) n h k = absurd (omega arith)

pub nth_width : (fs : List Facts) (n : ℕ) → get_or (map (λ F. F.width) fs) n 0 ≡ (get_or fs n nothing).width
nth_width [] n = refl
nth_width (F ∷ fs) zero = refl
nth_width (F ∷ fs) (suc n) = nth_width fs n

sort_keys : (ks : List Key) (fs : List Facts) → length ks ≤ 8 → keys_fit (get_or (map (λ F. F.width) fs) 0 0) ks ≡ true → KeysFit (at0 fs).width ks
sort_keys ks fs h e = keys_of_lem (at0 fs).width ks (ap₂ ◌&&◌ (ap₂ ◌&&◌ (le-leb 0 (length ks) (omega arith)) (le-leb (length ks) 8 h))
    (ap (λ (w : ℕ). keys_fit w ks) (sym (nth_width fs 0)) ∙ e))

pub one_child : (fs : List Facts) → eqb (length (map (λ F. F.width) fs)) 1 ≡ true → length fs ≡ 1
one_child fs e = sym (map-length (λ F. F.width) fs) ∙ eqb-true (length (map (λ F. F.width) fs)) 1 e

two-children : (fs : List Facts) → eqb (length (map (λ F. F.width) fs)) 2 ≡ true → length fs ≡ 2
two-children fs e = sym (map-length (λ F. F.width) fs) ∙ eqb-true (length (map (λ F. F.width) fs)) 2 e

pub wanted-fits : (o : Op) (fs : List Facts) → node_ok o (map (λ F. F.width) fs) ≡ true → wants_fit (wanted o) fs ≡ true
wanted-fits (source s) fs e = nothing-wanted fs
wanted-fits filter fs e = nothing-wanted fs
wanted-fits (projection cols) fs e = nothing-wanted fs
wanted-fits union fs e = nothing-wanted fs
wanted-fits (repartition p n h ks) fs e = nothing-wanted fs
wanted-fits (coalesce f) fs e = nothing-wanted fs
wanted-fits (sort_op p ks f) fs e = nothing-wanted fs
wanted-fits (merge_op ks f) fs e = only_first (wanted (merge_op ks f)) fs (one_child fs (search (and_left, and_right)))
    (sort_keys ks fs (some_short ks (search (and_left, and_right))) (search (and_left, and_right)))
wanted-fits (global_limit s f note) fs e = nothing-wanted fs
wanted-fits (local_limit f note) fs e = nothing-wanted fs
wanted-fits (sort_merge_join t on) fs e =
    let k = on_keys (get_or (map (λ F. F.width) fs) 0 0) (get_or (map (λ F. F.width) fs) 1 0) on (search (and_left, and_right))
    (search (and_left, and_right)) in
    first_two (wanted (sort_merge_join t on)) fs (two-children fs (search (and_left, and_right)))
    (subst (λ (w : ℕ). KeysFit w (map (λ k. k.key) on)) (nth_width fs 0) k.0)
    (subst (λ (w : ℕ). KeysFit w (map right_key on)) (nth_width fs 1) k.1)
wanted-fits (hash_join t on) fs e = nothing-wanted fs
wanted-fits (output_requirement ks d f) fs e =
    let c : columns_ok (output_requirement ks d f) (map (λ F. F.width) fs) ≡ true = search (and_left, and_right) in
    only_first (wanted (output_requirement ks d f)) fs (one_child fs (search (and_left, and_right)))
    (sort_keys ks fs (few_short ks (search (and_left, and_right)))
    (and_left (keys_fit (get_or (map (λ F. F.width) fs) 0 0) ks) (distribution_fits (get_or (map (λ F. F.width) fs) 0 0) d) c))
wanted-fits (partial_sort p ks n f) fs e = only_first (wanted (partial_sort p ks n f)) fs (one_child fs (search (and_left, and_right)))
    (take_keys n (at0 fs).width ks (sort_keys ks fs (some_short ks (search (and_left, and_right))) (search (and_left, and_right))))
wanted-fits (aggregate ks n) fs e = nothing-wanted fs
