-- What a visit reads from the arena is what the decision asks. Assumes nothing.
use Rattle.std.specs.Prelude.{◌≡◌, refl, true, List, [], ◌∷◌, ℕ, suc, ◌*◌, ◌/◌, ◌≤◌, ◌<◌, eqb, length, get_or, Option}
use Rattle.std.proofs.Common.{sym, ap, ap₂, ◌∙◌, subst, arith, eqb-true}
use Rattle.row_order.specs.Lists.{All}
use Rattle.plan.specs.Forest.{none, tree, roots}
use Rattle.plan.specs.Op.{Op, source, filter, projection, union, repartition, coalesce, sort_op, merge_op, global_limit, local_limit, sort_merge_join, hash_join, output_requirement, partial_sort, aggregate, Plan}
use Rattle.plan.specs.WellFormed.{children_ok, width, join_width}
use Rattle.plan.specs.declared.JoinType.{JoinType}
use Rattle.plan_codec.specs.Decode.{decode}
use Rattle.record_fields.specs.Proper.{Proper, pairs_of}
use Rattle.record_fields.specs.Encoded.{proper}
use Rattle.semantics.specs.Facts.{Facts, at0, at1, facts, facts_op, nothing}
use Rattle.semantics.proofs.Theorems.Facts.Fits.{join_width_lem}
use Rattle.semantics.specs.Properties.{remark, fetches, fetch_op}
use Rattle.key_lists.specs.Keys.{order_of}
use Rattle.asked_facts.specs.Asked.{told, FactRow}
use Rattle.arena.specs.Arena.{index, slot, kept_part}
use Rattle.arena.specs.Laws.{index_even, below_at}
use Rattle.walks.specs.Marks.{strip, known, fact, fetch_t}
use Rattle.walks.specs.SortPushdown.{child_count}
use Rattle.walks.specs.PushdownSorts as walk
use Rattle.plan_context.specs.View.{tree_in, tree_of, forest, Arena}
use Rattle.plan_context.specs.Laws.{here, facts_at, length_facts}
use Rattle.plan_context.specs.Facts.{Tells, tells}
use Rattle.plan_context.specs.Nodes.{Counts, counts_of}
use Rattle.plan_context.specs.Nodes as nodes
use Rattle.plan_updates.specs.ProperRecords.{record_proper}
use Rattle.push_requirements.specs.Pushing.{JoinRows, SeenNode}
use Rattle.sort_pushdown.specs.declared.Visit.{Visit}
use Rattle.sort_pushdown.specs.Decisions.{Visited}
use Rattle.push_visits.specs.Carried.{RowOf, Visits}

-- ---- rows

module _ (a : List ℕ) (ua i : ℕ) (g : Arena a ua) (l : i < ua) where
  abbrev ks : List ℕ
  ks = (slot a i).kids

  pub shown : nodes.Seen a i
  shown = nodes.seen a i (g.all i l).proper

  module _ (j : ℕ) (r : List ℕ) where
    pub row_child : (k : ℕ) → j < length (slot a i).kids → k ≡ get_or (slot a i).kids j 0 → r ≡ kept_part a (k / 2) → RowOf a i j r
    row_child k h e f =
        let b = below_at (2 * i) ks j shown.below h in
        let t : Tells (tree_of a k) r = tells a k (here a ua k g (omega arith)) r f in
        record { row = t.row; usable = t.usable; is = λ z. t.is ∙ ap (λ x. fact (tree_of a x)) e ∙ sym (facts_at a ks j h) }

    pub row_none : length (slot a i).kids ≤ j → r ≡ kept_part a i → RowOf a i j r
    row_none h f =
        let t : Tells (tree_of a (2 * i)) r = tells a (2 * i) (here a ua (2 * i) g (omega arith)) r (f ∙ ap (kept_part a) (sym (index_even i))) in
        record { row = t.row; usable = t.usable; is = λ z. absurd (omega arith) }

-- ---- a node's facts and its operator

pub roots_long : (c : Plan) → length (facts c) ≡ length (roots c)
roots_long none = refl
roots_long (tree o c r) = ap suc (roots_long r)

pub first_of : (fs : List Facts) → at0 fs ≡ get_or fs 0 nothing
first_of [] = refl
first_of (F ∷ fs) = refl

second_of : (fs : List Facts) → at1 fs ≡ get_or fs 1 nothing
second_of [] = refl
second_of (F ∷ []) = refl
second_of (F ∷ G ∷ fs) = refl

same_mark : (o : Op) → o ≡ remark (λ p. p) o
same_mark (source s) = refl
same_mark filter = refl
same_mark (projection cols) = refl
same_mark union = refl
same_mark (repartition p n h ks) = refl
same_mark (coalesce f) = refl
same_mark (sort_op p ks f) = refl
same_mark (merge_op ks f) = refl
same_mark (global_limit s f note) = refl
same_mark (local_limit f note) = refl
same_mark (sort_merge_join t on) = refl
same_mark (hash_join t on) = refl
same_mark (output_requirement ks d f) = refl
same_mark (partial_sort p ks n f) = refl
same_mark (aggregate ks n) = refl

-- the record of node i
module _ (a : List ℕ) (ua i : ℕ) (g : Arena a ua) (l : i < ua) where
  rule : Counts (decode (slot a i).rec) (length (slot a i).kids)
  rule = subst (Counts (decode (slot a i).rec)) (length_facts a (slot a i).kids)
      (counts_of (decode (slot a i).rec) (known (forest a (slot a i).kids)) (shown a ua i g l).ok.0)

  pub proper_at : Proper (slot a i).rec
  proper_at = let s = shown a ua i g l in record_proper (slot a i).rec (length (slot a i).kids) (forest a (slot a i).kids) s.canon s.ok

  pub own_tells : (r : List ℕ) → r ≡ kept_part a i → FactRow r × (told r ≡ facts_op (decode (slot a i).rec) (known (forest a (slot a i).kids)))
  own_tells r f =
      let t : Tells (tree_of a (2 * i)) r = tells a (2 * i) (here a ua (2 * i) g (omega arith)) r (f ∙ ap (kept_part a) (sym (index_even i))) in
      (t.row, t.is ∙ ap (λ x. fact (tree_in a x)) (index_even i) ∙ ap fact (shown a ua i g l).tree)

  pub count_at : children_ok (decode (slot a i).rec) (child_count (strip (forest a (slot a i).kids))) ≡ true
  count_at = subst (λ n. children_ok (decode (slot a i).rec) n ≡ true)
      (sym (length_facts a (slot a i).kids) ∙ roots_long (strip (forest a (slot a i).kids))) rule.count

  module _ (own f s : List ℕ) (eo : own ≡ kept_part a i) (rf : RowOf a i 0 f) (rs : RowOf a i 1 s) where
    two : children_ok (decode (slot a i).rec) (length (slot a i).kids) ≡ eqb (length (slot a i).kids) 2 → length (slot a i).kids ≡ 2
    two e = eqb-true (length (slot a i).kids) 2 (sym e ∙ rule.count)

    join_wide : (t : JoinType) → length (slot a i).kids ≡ 2 → (facts_op (decode (slot a i).rec) (known (forest a (slot a i).kids))).width ≡ join_width t
        (at0 (known (forest a (slot a i).kids))).width (at1 (known (forest a (slot a i).kids))).width
        → (told own).width ≡ join_width t (told f).width (told s).width
    join_wide t n e =
        ap (λ F. F.width) (own_tells own eo).1 ∙ e
        ∙ ap₂ (λ F G. join_width t F.width G.width) (first_of (known (forest a (slot a i).kids)) ∙ sym (rf.is (omega arith)))
        (second_of (known (forest a (slot a i).kids)) ∙ sym (rs.is (omega arith)))

    merged_at : (t : JoinType) → decode (slot a i).rec ≡ sort_merge_join t (pairs_of (slot a i).rec) → JoinRows t (slot a i).rec own f s
    merged_at t e =
        let n = two (ap (λ o. children_ok o (length (slot a i).kids)) e) in
        let w = join_wide t n (ap (λ o. (facts_op o (known (forest a (slot a i).kids))).width) e ∙ join_width_lem t (pairs_of (slot a i).rec)
        (at0 (known (forest a (slot a i).kids))) (at1 (known (forest a (slot a i).kids)))) in
        let o = (own_tells own eo).0 in let z = o.fine.wide in
        record {
          proper = proper_at;
          here = o;
          first = rf.row;
          second = rs.row;
          sides = record {
            left = rf.usable.fine;
            right = rs.usable.fine;
            left_fits = rf.usable.fits;
            right_fits = rs.usable.fits;
            wide = omega arith;
          };
          width = w;
        }

    hashed_at : (t : JoinType) → decode (slot a i).rec ≡ hash_join t (pairs_of (slot a i).rec) → (told own).width ≡ join_width t (told f).width
        (told s).width
    hashed_at t e =
        join_wide t (two (ap (λ o. children_ok o (length (slot a i).kids)) e))
        (ap (λ o. (facts_op o (known (forest a (slot a i).kids))).width) e ∙ join_width_lem t (pairs_of (slot a i).rec) (at0 (known (forest a (slot a i).kids)))
        (at1 (known (forest a (slot a i).kids))))

    pub seen_at : SeenNode (decode (slot a i).rec) (decode (slot a i).rec) (facts (strip (forest a (slot a i).kids)))
        (child_count (strip (forest a (slot a i).kids))) (told own) (told f) (told s)
    seen_at =
        let c = roots_long (strip (forest a (slot a i).kids)) in let n = length_facts a (slot a i).kids in
        record {
          mark = λ p. p;
          like = same_mark (decode (slot a i).rec);
          facts = (own_tells own eo).1;
          same = refl;
          first = λ l. rf.is (omega arith) ∙ sym (first_of (known (forest a (slot a i).kids)));
          second = λ l. rs.is (omega arith) ∙ sym (second_of (known (forest a (slot a i).kids)));
          count = count_at;
          long = c;
        }

    pub visited_at : (v : Visit) (h : ℕ) → Visits a ua h v → i ≡ index h → Visited (slot a i).rec own f s v.req.order
    visited_at v h x e =
        let w : (fact (tree_of a h)).width ≡ (told own).width = ap (λ F. F.width) (ap (λ j. fact (tree_in a j)) (sym e) ∙ ap fact (shown a ua i g l).tree
        ∙ sym (own_tells own eo).1) in
        record {
          proper = proper_at;
          here = (own_tells own eo).0;
          first = rf.row;
          second = rs.row;
          real = x.real;
          inside = subst (λ n. All (λ k. k.col < n) (order_of v.req.order)) w x.fits.keys.inside;
          merged = merged_at;
          hashed = hashed_at;
        }

-- the fetch, of the node in the slot
pub fetch_in_lem : (a : List ℕ) (ua i : ℕ) (g : Arena a ua) (l : i < ua) (h : ℕ) → i ≡ index h → (f : Option ℕ) → f ≡ fetch_t (tree_of a h)
    → f ≡ fetch_op (decode (slot a i).rec) (fetches (strip (forest a (slot a i).kids)))
fetch_in_lem a ua i g l h e f x = x ∙ ap (λ j. fetch_t (tree_in a j)) (sym e) ∙ ap fetch_t (shown a ua i g l).tree
