-- A node's slot over its children's slots: what storing its facts and its summary asks and leaves.
use Rattle.std.specs.Prelude.{◌≡◌, refl, Bool, true, false, List, [], map, ℕ, suc, ◌+◌, ◌*◌, ◌-◌, ◌≤◌, ◌<◌, length, get_or, take}
use Rattle.std.proofs.Math.Path.{sym}
use Rattle.std.proofs.Common.{ap, ◌∙◌, subst, append-nil, arith, length-take-le}
use Rattle.std.proofs.Math.Decide.{ℕ_discrete}
use borrow.Author.Tests.{eqb-true}
use Rattle.row_order.specs.Packed.{key_of}
use Rattle.scan.specs.Bytes.{le32}
use Rattle.scan.specs.Parts.{splice, part_same}
use Rattle.plan.specs.Op.{Op, source, filter, projection, union, repartition, coalesce, sort_op, merge_op, global_limit, local_limit, sort_merge_join, hash_join, output_requirement, partial_sort, aggregate, kind}
use Rattle.plan.specs.Numbers.{kind_of, kind_number}
use Rattle.plan.specs.WellFormed.{set_fits, children_ok}
use Rattle.plan.specs.declared.Kind.{Kind}
use Rattle.plan.specs.declared.Kind.TheVariants.{Source, Union}
use Rattle.plan_format.specs.Record.{children}
use Rattle.plan_codec.specs.Decode.{from_bytes, operator_of, decode}
use Rattle.semantics.specs.Facts.{nothing, facts, facts_op, reorder, source_facts}
use Rattle.semantics.specs.Check.{wants_met}
use Rattle.record_fields.specs.Fields.{tail_columns}
use Rattle.facts.specs.declared.Facts.{Facts as Coded}
use Rattle.facts.specs.Known.{Says}
use Rattle.fact_slots.specs.Slots.{loaded}
use Rattle.node_facts.specs.Ready.{kids_of, count, lent_keys, Ready}
use Rattle.node_facts.specs.Rules.{few, small}
use Rattle.node_facts.specs.Kinds.{source_set, source_says}
use Rattle.node_facts.specs.Wants.{no_want}
use Rattle.fact_slots.specs.Copies.{loaded_kept}
use Rattle.row_facts.specs.Over.{OverRows as Rows}
use Rattle.walks.specs.Marks.{known, node, fact}
use Rattle.arena.specs.Arena.{slot_size, kept_from, kept_size, index, marked, slot, held, kept_part}
use Rattle.arena.specs.Keeping.{with_kept, kept_front, slot_kept, held_kept, kept_here, kept_long}
use Rattle.tree_summary.specs.declared.Summary.{Summary}
use Rattle.plan_context.specs.View.{newest, trees, tree_in, tree_of, forest, summary_in, Sums, SettledSlot, Arena, Same, Here, Over, Settles, Settled}
use Rattle.plan_context.specs.Laws.{theres, holds_same, moved_proper}
use Rattle.plan_context.specs.Facts.{Shows, shows, usable_of, Child, child_is, coded_nothing, nothing-usable, no_child}
use Rattle.tree_summary.specs.Own.{own}
use Rattle.plan_context.specs.Summaries.{sums_mark, SumsEach, own-sums}
use Rattle.plan_context.specs.Nodes.{Seen, seen, rule, proper}
use Rattle.settling.specs.OtherKinds.{same_kids, ready, own_says}
use Rattle.record_fields.specs.Kinds.{kind_is}

-- ---- one slot stored

-- the tree in a slot is settled by the nodes
pub in_held : (m m' : List ℕ) (i : ℕ) → held m' (suc i) ≡ held m (suc i) → tree_in m' i ≡ tree_in m i
unfolding tree_in
in_held m m' i e = ap (λ ns. newest (trees ns)) e

module _ (m : List ℕ) (i : ℕ) (s : Settles m i) where
  pub shown : Seen m i
  shown = seen m i s.proper

  pub over_kids : Over m (slot m i).rec (slot m i).kids
  over_kids = record { there = theres m i (slot m i).kids s.arena shown.below; canon = shown.canon; ok = shown.ok; few = shown.small }

  -- what reading child j's handle asks, and that the child is there
  pub child_asks : (j : ℕ) → j < length (slot m i).kids → ((i + 1) * slot_size ≤ length m) × (j < children (slot m i).rec) × (children (slot m i).rec ≤ 8)
  child_asks j h = let x = shown.count in let y = shown.few in (s.room, omega arith, omega arith)

  pub child_here : (j : ℕ) → j < length (slot m i).kids → (k : ℕ) → k ≡ get_or (slot m i).kids j 0 → Here m k
  child_here j h k e = subst (Here m) (sym e) (over_kids.there j h)

  module _ (j : ℕ) (h : j < length (slot m i).kids) (k : ℕ) (e : k ≡ get_or (slot m i).kids j 0) where
    -- its facts and its summary
    pub child_shows : (f : Coded) → f ≡ loaded (kept_part m (index k)) → Child (known (forest m (slot m i).kids)) j f
    child_shows f q = child_is m (slot m i).kids j h f (subst (λ x. Shows (tree_of m x) f) e (shows m k (child_here j h k e) f q))

    pub child_sums : (x : Summary) → x ≡ summary_in (kept_part m (index k)) → Sums (tree_of m (get_or (slot m i).kids j 0)) x
    child_sums x q =
        subst (λ n. Sums (tree_of m n) x) e
        (sums_mark (marked k) (tree_in m (index k)) x (subst (Sums (tree_in m (index k))) (sym q) (child_here j h k e).holds.summary))

  module _ (b : List ℕ) (l : length b ≡ kept_size) (f : Says (facts_op (decode (slot m i).rec) (known (forest m (slot m i).kids))) (loaded b))
      (q : Sums (node (decode (slot m i).rec) false (forest m (slot m i).kids)) (summary_in b)) where
    abbrev m' : List ℕ
    m' = with_kept m i b

    stored : SettledSlot (with_kept m i b) i
    stored =
        let t : tree_in m' i ≡ tree_in m i = in_held m m' i (held_kept m i b s.room l (suc i)) in
        let u = t ∙ shown.tree in
        let k = kept_here m i b s.room l in
        record {
          proper = moved_proper m m' i (slot_kept m i b s.room l i) t s.proper;
          facts = subst (λ x. Says (fact x) (loaded (kept_part m' i))) (sym u)
              (subst (λ x. Says (facts_op (decode (slot m i).rec) (known (forest m (slot m i).kids))) (loaded x)) (sym k) f);
          summary = subst (λ x. Sums x (summary_in (kept_part m' i))) (sym u)
              (subst (λ x. Sums (node (decode (slot m i).rec) false (forest m (slot m i).kids)) (summary_in x)) (sym k) q);
        }

    -- as the code lends the part
    pub settled_by : Settled m i (splice m (i * slot_size + kept_from) (i * slot_size + kept_from + kept_size - (i * slot_size + kept_from)) b)
    settled_by =
        let z : i * slot_size + kept_from + kept_size - (i * slot_size + kept_from) ≡ kept_size = omega arith in
        rw z (record { holds = stored; rest = ap (with_kept m i) (sym (kept_here m i b s.room l)) })

  -- what the code asks of facts and summaries on the way
  module _ (s' : Summary) (q : SumsEach (forest m (slot m i).kids) s') where
    pub few_below : s'.nodes < 65535
    few_below = let n = q.nodes in let l = shown.small in omega arith

    pub few_streams : (f : Coded) → Says (facts_op (decode (slot m i).rec) (known (forest m (slot m i).kids))) f → f.streams < 65536
    few_streams f p = let z = (usable_of (node (decode (slot m i).rec) false (forest m (slot m i).kids)) shown.ok shown.small f p).few in omega arith

    -- w: the wanted orders are met; as the code computes the summary x
    pub settled_with : (r : List ℕ) → r ≡ (slot m i).rec → (w : Bool) → w ≡ wants_met (decode (slot m i).rec) (known (forest m (slot m i).kids))
        → (x : Summary) → x ≡ own r w s' → (b : List ℕ) → length b ≡ kept_size
        → Says (facts_op (decode (slot m i).rec) (known (forest m (slot m i).kids))) (loaded b) → summary_in b ≡ x
        → Settled m i (splice m (i * slot_size + kept_from) (i * slot_size + kept_from + kept_size - (i * slot_size + kept_from)) b)
    settled_with r e w v x y b l f z =
        settled_by b l f
        (subst (Sums (node (decode (slot m i).rec) false (forest m (slot m i).kids))) (sym (z ∙ y ∙ ap (λ a. own a w s') e))
        (own-sums (slot m i).rec (length (slot m i).kids) w s' (forest m (slot m i).kids) shown.canon v q))

-- ---- what a settled slot gives

module _ (m : List ℕ) (i : ℕ) (s : Settles m i) (m' : List ℕ) (d : Settled m i m') where
  module _ (l : length m' ≡ length m) where
    long : length (kept_part m' i) ≡ kept_size
    long = let r = s.room in let e = l in kept_long m' i (omega arith)

    pub settled_nodes : (v : ℕ) → held m' v ≡ held m v
    settled_nodes v = ap (λ x. held x v) d.rest ∙ held_kept m i (kept_part m' i) s.room long v

    pub settled_slot : (j : ℕ) → slot m' j ≡ slot m j
    settled_slot j = ap (λ x. slot x j) d.rest ∙ slot_kept m i (kept_part m' i) s.room long j

    pub settled_front : Same i m m'
    settled_front =
        ap (take (i * slot_size)) d.rest ∙ part_same 0 (i * slot_size + kept_from) (i * slot_size) (with_kept m i (kept_part m' i)) m (omega arith)
        (kept_front m i (kept_part m' i) s.room long)

    pub settled_arena : Arena m' (i + 1)
    settled_arena =
        let r = s.room in let w = s.small in
        record { slots = omega arith; small = omega arith; all = λ j h. go j h (ℕ_discrete j i) }
      where
        go : (j : ℕ) → j < i + 1 → Dec (j ≡ i) → SettledSlot m' j
        go j h (yes e) = subst (SettledSlot m') (sym e) d.holds
        go j h (no n) = let g : j < i = omega arith in holds_same i m m' settled_front j g (s.arena.all j g)

    pub settled_tree : tree_in m' i ≡ tree_in m i
    settled_tree = in_held m m' i (settled_nodes (suc i))

-- ---- the three ways to a node's facts

pub not_union : {k : Kind} → k ≡ Source → k ≡ Union → ⊥
not_union e f = let z : ◌≡◌ {A = ℕ} 1 4 = ap kind_number (sym e ∙ f) in omega arith

some_kid : (o : Op) (n : ℕ) → (kind o ≡ Union → ⊥) → (kind o ≡ Source → ⊥) → children_ok o n ≡ true → 0 < n
some_kid (source s) n f g e = absurd (g refl)
some_kid filter n f g e = omega (arith, eqb-true n 1 e)
some_kid (projection cols) n f g e = omega (arith, eqb-true n 1 e)
some_kid union n f g e = absurd (f refl)
some_kid (repartition p k h ks) n f g e = omega (arith, eqb-true n 1 e)
some_kid (coalesce t) n f g e = omega (arith, eqb-true n 1 e)
some_kid (sort_op p ks t) n f g e = omega (arith, eqb-true n 1 e)
some_kid (merge_op ks t) n f g e = omega (arith, eqb-true n 1 e)
some_kid (global_limit s t note) n f g e = omega (arith, eqb-true n 1 e)
some_kid (local_limit t note) n f g e = omega (arith, eqb-true n 1 e)
some_kid (sort_merge_join t on) n f g e = omega (arith, eqb-true n 2 e)
some_kid (hash_join t on) n f g e = omega (arith, eqb-true n 2 e)
some_kid (output_requirement ks d t) n f g e = omega (arith, eqb-true n 1 e)
some_kid (partial_sort p ks k t) n f g e = omega (arith, eqb-true n 1 e)
some_kid (aggregate ks k) n f g e = omega (arith, eqb-true n 1 e)

module _ (m r ks : List ℕ) (a : Over m r ks) where
  -- a union wants no order
  pub union_wants : kind_of (get_or r 0 0) ≡ Union → true ≡ wants_met (decode r) (known (forest m ks))
  unfolding decode
  union_wants e = sym (ap (λ k. wants_met (operator_of k (from_bytes r)) (known (forest m ks))) e)

  module _ (n : kind_of (get_or r 0 0) ≡ Union → ⊥) where
    pub inner_some : (kind_of (get_or r 0 0) ≡ Source → ⊥) → 0 < length ks
    inner_some g = some_kid (decode r) (length ks) (λ e. n (kind_is r ∙ e)) (λ e. g (kind_is r ∙ e)) (rule m r ks a).count

    -- a source
    module _ (e : kind_of (get_or r 0 0) ≡ Source) where
      abbrev z : Coded
      z = coded_nothing.0

      w : Says nothing z
      w = coded_nothing.1

      no_kid_lem : length ks ≤ 0
      unfolding decode
      no_kid_lem = omega (arith, eqb-true (length ks) 0 (ap (λ k. children_ok (operator_of k (from_bytes r)) (length ks)) (sym e) ∙ (rule m r ks a).count))

      first : Child (known (forest m ks)) 0 z
      first = no_child m ks 0 z no_kid_lem (nothing-usable z w)

      second : Child (known (forest m ks)) 1 z
      second = let l = no_kid_lem in no_child m ks 1 z (omega arith) (nothing-usable z w)

      h : Ready r z z
      h = ready m r ks a n z z first second

      pub source_asks : (length r ≡ 64) × (count r ≤ 8) × (get_or r 13 0 ≤ 32) × (set_fits (get_or r 13 0) (le32 (tail_columns r) 0) ≡ true)
      source_asks = (h.long, few r h.rules, small r h.rules, source_set r z z h e)

      pub source-fact : (s : Coded) → Says (reorder (source_facts (get_or r 13 0) (get_or r 2 0) (le32 (tail_columns r) 0)) (map key_of (lent_keys r (count r)))) s
          → Says (facts_op (decode r) (known (forest m ks))) s
      source-fact s p = own_says m r ks a n z z first second s (source_says r z z h e s p)

      pub source_wants : true ≡ wants_met (decode r) (known (forest m ks))
      source_wants = no_want r z z h Source e refl ∙ ap (wants_met (decode r)) (same_kids m r ks a n z z first second)

    -- a node with children, their facts copied
    module _ (b c : List ℕ) (k : length b ≡ 48) (l : length c ≡ 48) (f : Child (known (forest m ks)) 0 (loaded b))
        (g : Child (known (forest m ks)) 1 (loaded c)) where
      pub inner_ready : Ready r (loaded b) (loaded c)
      inner_ready = ready m r ks a n (loaded b) (loaded c) f g

      pub inner_rows : (own : List ℕ) → length own ≡ kept_size → (kind_of (get_or r 0 0) ≡ Source → ⊥) → Rows own r b c
      inner_rows own d s =
          let x = f.usable.few in let y = g.usable.few in
          record { room = d; first = omega arith; second = omega arith; ready = inner_ready; few = omega arith; fewer = omega arith; child = s; inner = n }

      pub inner_says : (o : Coded) → Says (facts_op (decode r) (kids_of r (loaded b) (loaded c))) o → Says (facts_op (decode r) (known (forest m ks))) o
      inner_says o p = own_says m r ks a n (loaded b) (loaded c) f g o p

      pub inner_wants : (w : Bool) → w ≡ wants_met (decode r) (kids_of r (loaded b) (loaded c)) → w ≡ wants_met (decode r) (known (forest m ks))
      inner_wants w x = x ∙ ap (wants_met (decode r)) (same_kids m r ks a n (loaded b) (loaded c) f g)

-- the bytes that a child's slot keeps, copied
pub row_is : (x b r : List ℕ) → r ≡ take 48 x → x ≡ b → length b ≡ kept_size → (length r ≡ 48) × (loaded r ≡ loaded b)
row_is x b r e q l =
    let h : 48 ≤ length b = omega arith in let y = ap (take 48) q in
    (ap length (e ∙ y) ∙ length-take-le 48 b h, ap loaded (e ∙ y) ∙ ap loaded (sym (append-nil (take 48 b))) ∙ loaded_kept b [] h)
