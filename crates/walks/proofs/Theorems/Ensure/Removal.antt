-- Removing sorts keeps the order check, for any marks of which each is right: a marked node is a sort; or it is no limit, has a marked
-- child, and is a merge or wants no order.
use Rattle.std.specs.Prelude.{◌≡◌, refl, Bool, true, false, cond, ◌&&◌, ◌||◌, ◌⊎◌, List, [], ◌∷◌, ℕ, zero, suc, ◌≤◌, ◌<◌, eqb, ltb, length, Option, Some, None}
use Rattle.std.proofs.Common.{sym, ap, ap₂, ◌∙◌, subst, inl, inr, arith, eqb-true}
use Rattle.row_order.specs.Iso.{Key}
use Rattle.row_order.proofs.Order.{no_bool}
use Rattle.plan.specs.Forest.{Forest, none, roots, tree}
use Rattle.plan.specs.Op.{coalesce, filter, global_limit, hash_join, local_limit, merge_op, Op, output_requirement, partial_sort, aggregate, projection, repartition, sort_merge_join, sort_op, source, union}
use Rattle.plan.specs.Numbers.{code}
use Rattle.semantics.specs.Facts.{Facts, facts, is_nil, met}
use Rattle.semantics.specs.Properties.{is_limit, maintains, singles, wanted}
use Rattle.semantics.specs.Check.{wants_met}
use Rattle.semantics.specs.Canonical.{Canon}
use Rattle.semantics.proofs.Theorems.Common.Bools.{and_left, and_right, or_cases}
use Rattle.walks.specs.Marks.{a_coalesce, a_merge, another, any_below, any_mark, a_repartition, a_sort, at, fact, fetch_t, kid0, known, Marked, node, op_t, over, plant, rebuild, set_mark, Shape, shape, strip, Tree, unmark}
use Rattle.walks.specs.EnsureSorting.{connected, connected_each, drop_sort, with_single_stream, single_stream_op, loosen, remove_by, remove_corresponding_sort_from_sub_plan, remove_kids, remove_top, updated_after_removal, update_child_to_remove_unnecessary_sort, update_sort_ctx_children_data}
use Rattle.walks.proofs.Theorems.Common.ConstantSorts.{fact-canon}
use Rattle.walks.specs.Trees.{arity, count, Fit, FitsA, FitT}
use Rattle.walks.proofs.Theorems.Common.Trees.{facts-count}
use Rattle.walks.proofs.Theorems.Common.Keeps.{shape_ind}
use Rattle.walks.proofs.Theorems.Ensure.Kept.{strip_connected}
use Rattle.walks.proofs.Theorems.Common.OrderMet.{met_own, nil_zero, no_orders_met, wants_remark}

-- ---- the marks: what a connected node is
pub record Link (o : Op) (c : Forest Marked) : Type 0 where
  pub open_end : is_limit o ≡ false
  pub below : any_mark c ≡ true
  pub free : (eqb (code o) 8 ≡ true) ⊎ ((i : ℕ) × (i < count c) × (is_nil (wanted o i) ≡ true))

abbrev pub MarkOK : Op → Forest Marked → Type 0
MarkOK o c = (eqb (code o) 7 ≡ true) ⊎ Link o c

abbrev pub MarksOK : Forest Marked → Type 0
MarksOK none = Unit {0}
MarksOK (tree m c r) = (m.mark ≡ true → MarkOK m.op c) × MarksOK r

-- wanted orders met, and marks right where no limit stands above
abbrev pub Checked : Forest Marked → Type 0
Checked none = Unit {0}
Checked (tree m c r) = (wants_met m.op (known c) ≡ true) × (is_limit m.op ≡ false → MarksOK c) × Checked c × Checked r

abbrev pub CheckedT : Tree → Type 0
CheckedT t = (wants_met (op_t t) (known t.kids) ≡ true) × (is_limit (op_t t) ≡ false → MarksOK t.kids) × Checked t.kids

-- before its children's marks are put right
abbrev pub BareT : Tree → Type 0
BareT t = (wants_met (op_t t) (known t.kids) ≡ true) × Checked t.kids

pub good_plant : (t : Tree) (r : Forest Marked) → CheckedT t → Checked r → Checked (plant t r)
good_plant t r h k = (h.0, h.1, h.2, k)

any_below_lem : (n : ℕ) (p : ℕ → Bool) → any_below n p ≡ true → (i : ℕ) × (i < n) × (p i ≡ true)
any_below_lem zero p e = no_bool e
any_below_lem (suc n) p e = go (or_cases (p 0) (any_below n (λ i. p (suc i))) e) (λ h. any_below_lem n (λ i. p (suc i)) h)
  where
    go : (p 0 ≡ true) ⊎ (any_below n (λ i. p (suc i)) ≡ true) → (any_below n (λ i. p (suc i)) ≡ true → (i : ℕ) × (i < n) × (p (suc i) ≡ true)) → (i : ℕ)
        × (i < suc n) × (p i ≡ true)
    go (inl h) f = (0, omega arith, h)
    go (inr h) f = let w = f h in (suc w.0, omega (arith, w.1), w.2)

connected-ok : (o : Op) (c : Forest Marked) → connected o c ≡ true → MarkOK o c
connected-ok o c = go (eqb (code o) 7) refl (is_limit o) refl
  where
    p : ℕ → Bool
    p i = (maintains o (known c) i && is_nil (wanted o i)) || eqb (code o) 8

    free : (i : ℕ) → i < count c → (maintains o (known c) i && is_nil (wanted o i) ≡ true) ⊎ (eqb (code o) 8 ≡ true) → (eqb (code o) 8 ≡ true) ⊎
        ((j : ℕ) × (j < count c) × (is_nil (wanted o j) ≡ true))
    free i l (inl h) = inr (i, l, and_right (maintains o (known c) i) (is_nil (wanted o i)) h)
    free i l (inr h) = inl h

    go : (a : Bool) → eqb (code o) 7 ≡ a → (b : Bool) → is_limit o ≡ b → cond a true (cond b false (any_mark c && any_below (length (roots c)) p)) ≡ true
        → MarkOK o c
    go true q b l e = inl q
    go false q true l e = no_bool e
    go false q false l e =
        let w = any_below_lem (length (roots c)) p (and_right (any_mark c) (any_below (length (roots c)) p) e) in
        inr (record {
          open_end = l;
          below = and_left (any_mark c) (any_below (length (roots c)) p) e;
          free = free w.0 w.1 (or_cases (maintains o (known c) w.0 && is_nil (wanted o w.0)) (eqb (code o) 8) w.2);
        })

pub connected_marks : (c : Forest Marked) → MarksOK (connected_each c)
connected_marks none = tt
connected_marks (tree m c r) = (connected-ok m.op c, connected_marks r)

pub connected_kids : (c : Forest Marked) → Checked c → Checked (connected_each c)
connected_kids none h = tt
connected_kids (tree m c r) h = (h.0, h.1, h.2, connected_kids r h.3)

pub known-connected : (c : Forest Marked) → known (connected_each c) ≡ known c
known-connected c = ap facts (strip_connected c)

pub connected_good : (b : Bool) (t : Tree) → BareT t → CheckedT (update_sort_ctx_children_data b t)
connected_good b t h = (ap (wants_met (op_t t)) (known-connected t.kids) ∙ h.0, λ e. connected_marks t.kids, connected_kids t.kids h.1)

pub unmark_marks : (c : Forest Marked) → MarksOK (unmark c)
unmark_marks none = tt
unmark_marks (tree m c r) = (λ e. no_bool e, unmark_marks r)

pub unmark_kids : (c : Forest Marked) → Checked c → Checked (unmark c)
unmark_kids none h = tt
unmark_kids (tree m c r) h = (h.0, h.1, h.2, unmark_kids r h.3)

pub kid_good : (d : Tree) (c : Forest Marked) → count c ≡ 1 → Checked c → CheckedT (kid0 d c)
kid_good d none e h = absurd (omega arith)
kid_good d (tree m c r) e h = (h.0, h.1, h.2)

kid_or : (d : Tree) (c : Forest Marked) → CheckedT d → Checked c → CheckedT (kid0 d c)
kid_or d none g h = g
kid_or d (tree m c r) g h = (h.0, h.1, h.2)

-- ---- counts
pub strip-count : (c : Forest Marked) → count (strip c) ≡ count c
strip-count none = refl
strip-count (tree m c r) = ap suc (strip-count r)

pub known-count : (c : Forest Marked) → length (known c) ≡ count c
known-count c = facts-count (strip c) ∙ strip-count c

remove_count : (q : ℕ → Bool) (c : Forest Marked) → count (remove_kids q c) ≡ count c
remove_count q none = refl
remove_count q (tree m c r) = ap suc (remove_count (λ i. q (suc i)) r)

-- ---- removing
single_stream_wants : (F : Facts) (f : Option ℕ) → Canon F → wants_met (single_stream_op F.order f) (F ∷ []) ≡ true
single_stream_wants F f h = go F.order refl
  where
    go : (ks : List Key) → F.order ≡ ks → wants_met (single_stream_op ks f) (F ∷ []) ≡ true
    go [] e = refl
    go (k ∷ ks) e = ap₂ ◌&&◌ (ap (met F) (sym e) ∙ met_own F h) refl

single_stream_good : (s : Bool) (t : Tree) → CheckedT t → CheckedT (with_single_stream s t)
single_stream_good s t h = go (s && ltb 1 (fact t).streams)
  where
    go : (b : Bool) → CheckedT (cond b (update_sort_ctx_children_data false (over (single_stream_op (fact t).order (fetch_t t)) false t)) t)
    go true = connected_good false (over (single_stream_op (fact t).order (fetch_t t)) false t) (
      single_stream_wants (fact t) (fetch_t t) (fact-canon t),
      (h.0, h.1, h.2, tt),
    )
    go false = h

updated_is : (m : Marked) (c d : Forest Marked) → any_mark c ≡ true → updated_after_removal m c d ≡ update_sort_ctx_children_data false
    (rebuild m.op m.mark d)
updated_is m c d e = ap (λ (x : Bool). cond (x || is_nil (roots c)) (update_sort_ctx_children_data false (rebuild m.op m.mark d))
    (rebuild m.op m.mark d)) e

-- a connected node that is no sort has children
some_kid : (c : Forest Marked) → any_mark c ≡ true → 1 ≤ count c
some_kid none e = no_bool e
some_kid (tree m c r) e = omega arith

first_good : (b : Bool) (u : Tree) (d : Forest Marked) → 1 ≤ count d → Checked d → CheckedT (set_mark b (kid0 u (connected_each d)))
first_good b u none l h = absurd (omega arith)
first_good b u (tree m c r) l h = (h.0, h.1, h.2)

abbrev pub is_other : Shape → Bool
is_other (a_sort p ks f) = false
is_other (a_merge ks f) = false
is_other (a_repartition p n hash part) = false
is_other (a_coalesce f) = false
is_other another = true

-- neither sort nor merge
pub other_code : (o : Op) → is_other (shape o) ≡ true → (eqb (code o) 7 ≡ false) × (eqb (code o) 8 ≡ false)
other_code = shape_ind (λ o. is_other (shape o) ≡ true → (eqb (code o) 7 ≡ false) × (eqb (code o) 8 ≡ false)) (λ p ks f e. no_bool e) (λ ks f e. no_bool e)
    (λ p n h ks e. (refl, refl)) (λ f e. (refl, refl)) last
  where
    last : (o : Op) → shape o ≡ another → is_other (shape o) ≡ true → (eqb (code o) 7 ≡ false) × (eqb (code o) 8 ≡ false)
    last (source s) e h = (refl, refl)
    last filter e h = (refl, refl)
    last (projection cols) e h = (refl, refl)
    last union e h = (refl, refl)
    last (repartition p n hash part) e h = (refl, refl)
    last (coalesce f) e h = (refl, refl)
    last (sort_op p ks f) e h = no_bool h
    last (merge_op ks f) e h = no_bool h
    last (global_limit s f note) e h = (refl, refl)
    last (local_limit f note) e h = (refl, refl)
    last (sort_merge_join t on) e h = (refl, refl)
    last (hash_join t on) e h = (refl, refl)
    last (output_requirement ks dist most) e h = (refl, refl)
    last (partial_sort p ks n f) e h = (refl, refl)
    last (aggregate ks n) e h = (refl, refl)

-- a node that wants nothing, over any children
free_good : (b : Bool) (o : Op) (x : Bool) (d : Forest Marked) → is_nil (wanted o 0) ≡ true → Checked d
    → CheckedT (update_sort_ctx_children_data b (rebuild o x d))
free_good b o x d e h = connected_good b (rebuild o x d) (wants_remark _ o (known d) ∙ no_orders_met o (known d) e, h)

abbrev Removal : Bool → Forest Marked → Forest Marked → Op → Type 0
Removal x c d o = FitsA (arity o) (count c) → CheckedT (node o x c) → MarkOK o c → count d ≡ count c → Checked d
    → CheckedT (remove_by (shape o) (record { op = o; mark = x }) c d)

-- the connection of a node that is no sort
link_of : (o : Op) (c : Forest Marked) → eqb (code o) 7 ≡ false → MarkOK o c → Link o c
link_of o c e (inl h) = no_bool (sym e ∙ h)
link_of o c e (inr l) = l

drop_good : (f : Option ℕ) (t : Tree) → CheckedT t → CheckedT (drop_sort f t)
drop_good None t h = kid_or t t.kids h h.2
drop_good (Some n) t h = h

remove_by_good : (x : Bool) (c d : Forest Marked) (o : Op) → Removal x c d o
remove_by_good x c d =
    shape_ind (Removal x c d)
    (λ p ks f a h k n g. drop_good f (node (sort_op p ks f) x c) h)
    (λ ks f a h k n g.
    let l : Link (merge_op ks f) c = link_of (merge_op ks f) c refl k in
    subst (λ (t : Tree). CheckedT (loosen (a_merge ks f) t)) (sym (updated_is (record { op = merge_op ks f; mark = x }) c d l.below))
    (first_good false (update_sort_ctx_children_data false (rebuild (merge_op ks f) x d)) d (omega (arith, some_kid c l.below)) g))
    (λ p m q ks a h k n g.
    let l : Link (repartition p m q ks) c = link_of (repartition p m q ks) c refl k in
    subst (λ (t : Tree). CheckedT (loosen (a_repartition p m q ks) t)) (sym (updated_is (record { op = repartition p m q ks; mark = x }) c d l.below))
    (refl, λ e. connected_marks d, connected_kids d g))
    (λ f a h k n g.
    let l : Link (coalesce f) c = link_of (coalesce f) c refl k in
    subst (λ (t : Tree). CheckedT t) (sym (updated_is (record { op = coalesce f; mark = x }) c d l.below)) (free_good false (coalesce f) x d refl g))
    (λ o e a h k n g.
    let codes = other_code o (ap is_other e) in
    let l : Link o c = link_of o c codes.0 k in
    subst (λ (s : Shape). CheckedT (remove_by s (record { op = o; mark = x }) c d)) (sym e)
    (subst (λ (t : Tree). CheckedT t) (sym (updated_is (record { op = o; mark = x }) c d l.below))
    (free_good false o x d (nil_of o c a codes.1 l.free) g)))
  where
    nil_of : (o : Op) (c : Forest Marked) → FitsA (arity o) (count c) → eqb (code o) 8 ≡ false → (eqb (code o) 8 ≡ true) ⊎
        ((i : ℕ) × (i < count c) × (is_nil (wanted o i) ≡ true)) → is_nil (wanted o 0) ≡ true
    nil_of o c a e (inl h) = no_bool (sym e ∙ h)
    nil_of o c a e (inr h) = nil_zero o (count c) h.0 a h.1 h.2

-- marks of the children of a node that is removed: a sort's are not looked at
remove_top_good : (s : Bool) (m : Marked) (c d : Forest Marked) → FitsA (arity m.op) (count c) → CheckedT (at m c) → MarkOK m.op c → count d ≡ count c
    → Checked d → CheckedT (remove_top s m c d)
remove_top_good s m c d a h k n g = single_stream_good s (remove_by (shape m.op) m c d) (remove_by_good m.mark c d m.op a h k n g)

open_of : (o : Op) (c : Forest Marked) → MarkOK o c → is_limit o ≡ false
open_of o c (inl h) = ap (λ (n : ℕ). eqb n 9 || eqb n 10) (eqb-true (code o) 7 h)
open_of o c (inr l) = l.open_end

-- removing keeps the check, whatever the marks are, if each is right
pub remove_kids_good : (q : ℕ → Bool) (c : Forest Marked) → Fit (strip c) → Checked c → MarksOK c → Checked (remove_kids q c)
remove_kids_good q none a h k = tt
remove_kids_good q (tree m c r) a h k =
    good_plant (cond m.mark (remove_top (q 0) m c (remove_kids (singles m.op) c)) (at m c)) (remove_kids (λ i. q (suc i)) r)
    (go m.mark refl (λ ok. remove_kids_good (singles m.op) c a.1 h.2 ok))
    (remove_kids_good (λ i. q (suc i)) r a.2 h.3 k.1)
  where
    go : (b : Bool) → m.mark ≡ b → (MarksOK c → Checked (remove_kids (singles m.op) c))
        → CheckedT (cond b (remove_top (q 0) m c (remove_kids (singles m.op) c)) (at m c))
    go true e ih =
        let ok : MarkOK m.op c = k.0 e in
        remove_top_good (q 0) m c (remove_kids (singles m.op) c) (subst (FitsA (arity m.op)) (strip-count c) a.0) (h.0, h.1, h.2) ok
        (remove_count (singles m.op) c) (ih (h.1 (open_of m.op c ok)))
    go false e ih = (h.0, h.1, h.2)

pub remove_good : (s : Bool) (t : Tree) → FitT t → CheckedT t → MarkOK (op_t t) t.kids → CheckedT (remove_corresponding_sort_from_sub_plan s t)
remove_good s t a h ok =
    remove_top_good s t.top t.kids (remove_kids (singles (op_t t)) t.kids) (subst (FitsA (arity (op_t t))) (strip-count t.kids) a.0) h ok
    (remove_count (singles (op_t t)) t.kids) (remove_kids_good (singles (op_t t)) t.kids a.1 h.2 (h.1 (open_of (op_t t) t.kids ok)))

pub update_child_good : (s : Bool) (t : Tree) → FitT t → CheckedT t → (t.top.mark ≡ true → MarkOK (op_t t) t.kids)
    → CheckedT (update_child_to_remove_unnecessary_sort s t)
update_child_good s t a h k = go t.top.mark refl
  where
    go : (b : Bool) → t.top.mark ≡ b → CheckedT (cond b (remove_corresponding_sort_from_sub_plan s t) t)
    go true e = remove_good s t a h (k e)
    go false e = h
