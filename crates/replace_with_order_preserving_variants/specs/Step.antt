-- The step: a sort whose path is marked, and the alternative that makes it unnecessary or not.
use Rattle.std.specs.Prelude.{◌≡◌, Bool, ◌&&◌, ◌||◌, ℕ, suc, ◌+◌, ◌*◌, ◌≤◌, ◌<◌, eqb, length, get_or, take, Option}
use Rattle.std.proofs.Math.Path.{refl, sym, ap, ap₂}
use Rattle.std.proofs.Common.{◌∙◌, subst, arith, length-take-le}
use Rattle.std.proofs.Math.Bool.{true, false, cond, not}
use mathlib.Core.List.{List, [], ◌∷◌, map}
use borrow.Author.Tests.{eqb-true}
use Rattle.plan.specs.Forest.{Forest, tree, size}
use Rattle.plan.specs.Op.{Op, sort_op}
use Rattle.plan.specs.Numbers.{code, kind_of}
use Rattle.plan.specs.WellFormed.{fetch_ok, children_ok}
use Rattle.plan_codec.specs.Decode.{from_bytes, operator_of, decode}
use Rattle.plan_codec.specs.Encode.{encode}
use Rattle.semantics.specs.Facts.{facts_op, nf, met, known_order}
use Rattle.semantics.specs.Properties.{cuts}
use Rattle.record_fields.specs.Proper.{Proper}
use Rattle.key_lists.specs.Keys.{keys_of, Keyed}
use Rattle.key_lists.specs.declared.Keys.{Keys}
use Rattle.asked_facts.specs.Asked.{told}
use Rattle.arena.specs.Arena.{slot_size, marked}
use Rattle.arena.specs.declared.At.{At}
use Rattle.walks.specs.Marks.{Marked, Tree, strip, known, node, op_t, fact, size_t, unmark, kid0, head_mark, shape}
use Rattle.walks.specs.Trees.{OkT}
use Rattle.walks.proofs.Theorems.Common.NewNodes.{node_fetch}
use Rattle.walks.specs.OrderPreserving as walk
use Rattle.walks.specs.OrderPreserving.{alternate_plan, accepted, replace_by, use_order_preserving_variant, plan_with_order_preserving_variants, replace_with_order_preserving_variants}
use Rattle.walks.proofs.Theorems.Preserve.Kept.{strip_carry}
use Rattle.tree_summary.specs.declared.Summary.{Summary}
use Rattle.plan_context.specs.View.{tree_of, forest, most_slots, Sums, Grown, Here, Puts}
use Rattle.plan_context.specs.Laws.{here, fewer, same_trans, forest_same, length_facts}
use Rattle.plan_updates.specs.Opened.{step_room, Opened}
use Rattle.plan_updates.specs.Opening.{grown_then}
use Rattle.plan_context.specs.Facts.{Tells}
use Rattle.plan_context.specs.Nodes.{counts_of, few_any}
use Rattle.plan_updates.specs.Covering.{one}
use Rattle.walk_settings.specs.declared.Settings.{Settings}
use Rattle.plan_updates.specs.ProperRecords.{record_proper}
use Rattle.order_preservation_marks.specs.Kinds.{op_ind, one_kid_lem, treated_7}
use Rattle.order_preservation_marks.specs.Marking.{Carrying, Updating, Updated, marks_ok_lem, carry_size}
use Rattle.order_preserving_plans.specs.Preserving.{Preserves}
use Rattle.order_preservation_marks.specs.Replacing.{grown_as, made_then}
use Rattle.walk_settings.specs.Settings.{settings_of}

-- "for child in alternate_plan.children.iter_mut() { child.data = false; }"
abbrev pub accept_one : Tree → Tree
accept_one t = node (op_t t) t.top.mark (unmark t.kids)

-- The record r of a sort, over the tree at h
pub record Sorts (m r : List ℕ) (h : ℕ) : Type 0 where
  pub here : Here m h
  pub proper : Proper r
  pub sort : eqb (code (decode r)) 7 ≡ true

module _ (m r : List ℕ) (h : ℕ) (p : Sorts m r h) where
  pub is_sort_lem : decode r ≡ sort_op (from_bytes r).preserve (from_bytes r).keys (from_bytes r).fetch
  unfolding decode kind_of
  is_sort_lem = ap (λ k. operator_of (kind_of k) (from_bytes r)) (p.proper.kind ∙ eqb-true (code (decode r)) 7 p.sort)

  -- the test of the code
  pub variant_is : (s : Settings) (x : Summary) → Sums (tree_of m h) x → (b : List ℕ) → Tells (tree_of m h) b → (k : Keys) → Keyed (from_bytes r).keys k
      → (y : Bool) → y ≡ met (told b) (keys_of k)
      → s.prefer || (x.endless && not y)
      ≡ use_order_preserving_variant (settings_of s) (from_bytes r).keys (node (decode r) false (forest m (h ∷ []))) (tree_of m h)
  unfolding forest
  variant_is s x e b t k q y v = ap₂ (λ z w. s.prefer || (z && not w)) (e.endless ∙ right _) (v ∙ ap₂ met t.is q.is)
    where
      right : (z : Bool) → z ≡ z || false
      right true = refl
      right false = refl

  -- the sort's own order
  pub sort_order : (b : List ℕ) → Tells (tree_of m h) b → (k : Keys) → Keyed (from_bytes r).keys k → (o : Keys) → Keyed (nf (told b) [] (keys_of k)) o
      → keys_of o ≡ known_order (fact (node (decode r) false (forest m (h ∷ []))))
  unfolding forest
  sort_order b t k q o v = v.is ∙ ap₂ (λ F l. nf F [] l) t.is q.is ∙ sym (ap (λ z. known_order (facts_op z (known (forest m (h ∷ []))))) is_sort_lem)

-- What a sort asks whose path is marked
pub record Sorting (m : List ℕ) (u : ℕ) (r : List ℕ) (h i : ℕ) : Type 0 where
  pub puts : Puts m u r (h ∷ [])
  pub room : (u + size_t (tree_of m h) + 1) * slot_size ≤ length m
  pub small : u + size_t (tree_of m h) + 1 ≤ most_slots
  pub sort : eqb (code (decode r)) 7 ≡ true
  pub path : marked h ≡ true
  pub hint : i < u

module _ (m : List ℕ) (u : ℕ) (r : List ℕ) (h i : ℕ) (p : Sorting m u r h i) where
  abbrev T : Tree
  T = node (decode r) false (forest m (h ∷ []))

  low : h < 2 * u
  low = p.puts.below.0

  pub sorting : Sorts m r h
  sorting = record { here = here m u h p.puts.arena low; proper = record_proper r 1 (forest m (h ∷ [])) p.puts.canon p.puts.ok; sort = p.sort }

  module _ (s : Settings) (f : Option ℕ) (ef : f ≡ (cuts (decode r)).fetch) where
    pub sorting_asks : Preserves m u h f
    sorting_asks =
        let x = p.room in let y = p.small in
        record {
          enters = record { arena = p.puts.arena; here = low; room = omega arith; small = omega arith };
          fetch = ap fetch_ok ef ∙ node_fetch (decode r) (map (λ F. F.width) (known (forest m (h ∷ [])))) p.puts.ok.0;
        }

    module _ (b : Bool) (eb : b ≡ use_order_preserving_variant (settings_of s) (from_bytes r).keys (node (decode r) false (forest m (h ∷ [])))
        (tree_of m h)) where
      abbrev A : Tree
      A = plan_with_order_preserving_variants (s.spr || b) (s.spm || b) f (tree_of m h)

      -- what the definition takes apart
      step_is : replace_by (shape (decode r)) (settings_of s) (node (decode r) false (forest m (h ∷ [])))
          ≡ accepted (node (decode r) false (forest m (h ∷ []))) (plan_with_order_preserving_variants (s.spr || b) (s.spm || b) f (tree_of m h))
      unfolding forest
      step_is =
          ap (λ o. replace_by (shape o) (settings_of s) T) (is_sort_lem m r h sorting)
          ∙ ap (λ x. cond x (accepted T (alternate_plan (settings_of s) (from_bytes r).keys (from_bytes r).fetch T (tree_of m h))) T) p.path
          ∙ ap₂ (λ x g. accepted T (plan_with_order_preserving_variants (s.spr || x) (s.spm || x) g (tree_of m h))) (sym eb)
          (sym (ef ∙ ap (λ o. (cuts o).fetch) (is_sort_lem m r h sorting)))

      module _ (m₁ : List ℕ) (lm : length m₁ ≡ length m) (a : At)
          (g : Grown m u m₁ a (plan_with_order_preserving_variants (s.spr || b) (s.spm || b) f (tree_of m h)) (u + size_t (tree_of m h)))
          (v : List ℕ) (t : Tells (tree_of m₁ a.root) v) (o : Keys) (eo : keys_of o ≡ known_order (fact (node (decode r) false (forest m (h ∷ [])))))
          (x : Bool) (ex : x ≡ met (told v) (keys_of o)) where
        met_is : x
            ≡ met (fact (plan_with_order_preserving_variants (s.spr || b) (s.spm || b) f (tree_of m h)))
            (known_order (fact (node (decode r) false (forest m (h ∷ [])))))
        met_is = ex ∙ ap₂ met (t.is ∙ ap fact g.tree) eo

        by_met : (y : Bool) → x ≡ y
            → cond y (accept_one (plan_with_order_preserving_variants (s.spr || b) (s.spm || b) f (tree_of m h))) (node (decode r) false (forest m (h ∷ [])))
            ≡ replace_by (shape (decode r)) (settings_of s) (node (decode r) false (forest m (h ∷ [])))
        by_met y e = ap (λ z. cond z (accept_one A) T) (sym e ∙ met_is) ∙ sym step_is

        pub accept_asks : Carrying m₁ a.used a.root
        accept_asks =
            let c = g.room in let y = p.room in let z = p.small in record { arena = g.arena; here = g.here; room = omega arith; small = omega arith }

        pub sort_gone : x ≡ true → (m₂ : List ℕ) (z : At) → Grown m₁ a.used m₂ z (accept_one (tree_of m₁ a.root)) (a.used + 1)
            → Grown m u m₂ z (replace_by (shape (decode r)) (settings_of s) (node (decode r) false (forest m (h ∷ [])))) (u + size_t (tree_of m h) + 1)
        sort_gone e m₂ z k =
            let c = g.room in
            grown_as (ap accept_one g.tree ∙ by_met true e)
            (grown_then m u m₁ a A (u + size_t (tree_of m h)) m₂ z (accept_one (tree_of m₁ a.root)) (a.used + 1) (u + size_t (tree_of m h) + 1) g k
            (omega arith))

        -- the sort stays
        same_kids : forest m₁ (h ∷ []) ≡ forest m (h ∷ [])
        same_kids = forest_same u m m₁ g.old (h ∷ []) p.puts.below

        pub stay_puts : Puts m₁ u r (h ∷ [])
        stay_puts =
            let q = p.puts in let y = g.more in let c = q.room in let l = q.few in let z = ap size same_kids in
            record {
              arena = fewer m₁ a.used u y g.arena;
              room = omega arith;
              small = q.small;
              below = q.below;
              canon = q.canon;
              ok = subst (λ d. OkT (node (decode r) false d)) (sym same_kids) q.ok;
              few = omega arith;
            }

        pub sort_stays : x ≡ false → (m₂ : List ℕ) (z : At) → Grown m₁ u m₂ z (node (decode r) false (forest m₁ (h ∷ []))) (u + 1)
            → Grown m u m₂ z (replace_by (shape (decode r)) (settings_of s) (node (decode r) false (forest m (h ∷ [])))) (u + size_t (tree_of m h) + 1)
        sort_stays e m₂ z k =
            let n = k.room in
            grown_as (by_met false e)
            (record {
              arena = k.arena;
              old = same_trans u u m m₁ m₂ (omega arith) g.old k.old;
              more = k.more;
              here = k.here;
              tree = k.tree ∙ ap (node (decode r) false) same_kids;
              room = omega arith;
            })

-- ---- the open node

kids_few : (m ks : List ℕ) → length ks ≤ size (forest m ks)
unfolding forest
kids_few m [] = omega arith
kids_few m (h ∷ ks) = let x = kids_few m ks in omega arith

-- no sort, or no path below it
replace_not : (s : walk.Settings) (c : Forest Marked) (o : Op) (x y : Bool) → x ≡ eqb (code o) 7 → x && y ≡ false → (x ≡ true → y ≡ head_mark c)
    → replace_by (shape o) s (node o false c) ≡ node o false c
replace_not s c =
    op_ind (λ o. (x y : Bool) → x ≡ eqb (code o) 7 → x && y ≡ false → (x ≡ true → y ≡ head_mark c) → replace_by (shape o) s (node o false c) ≡ node o false c)
    (λ p ks f x y e z q. let t = node (sort_op p ks f) false c in
    ap (λ w. cond w (accepted t (alternate_plan s ks f t (kid0 t c))) t) (sym (q e) ∙ sym (ap (λ w. w && y) e) ∙ z))
    (λ ks f x y e z q. refl) (λ p n h ks x y e z q. refl) (λ f x y e z q. refl) (λ o a x y e z q. ap (λ w. replace_by w s (node o false c)) a.0)

module _ (m : List ℕ) (u : ℕ) (r ks : List ℕ) (i : ℕ) (p : Opened m u r ks i) where
  pub few : length ks ≤ 8
  few =
      few_any (decode r) (length ks)
      (subst (λ n. children_ok (decode r) n ≡ true) (length_facts m ks) (counts_of (decode r) (known (forest m ks)) p.ok.0).count)

  pub step_updating : Updating m u ks
  step_updating =
      let x = kids_few m ks in let y = p.room in let z = p.small in
      record { arena = p.arena; below = p.below; room = omega arith; small = omega arith; few = few }

  pub step_proper : Proper r
  step_proper = record_proper r (length ks) (forest m ks) p.canon p.ok

  module _ (s : Settings) (m₁ : List ℕ) (w : ℕ) (kids : List ℕ) (c : Updated m u ks m₁ w kids) where
    pub counted : length (take (length ks) kids) ≡ length ks
    counted = let f = few in let z = c.made.wide in length-take-le (length ks) kids (omega arith)

    marked-size : size (forest m₁ (take (length ks) kids)) ≡ size (forest m ks)
    marked-size = ap size c.is ∙ carry_size (forest m ks)

    -- what the definition works on
    step_def : replace_by (shape (decode r)) (settings_of s) (node (decode r) false (forest m₁ (take (length ks) kids)))
        ≡ replace_with_order_preserving_variants (settings_of s) (node (decode r) false (forest m ks))
    step_def = ap (λ d. replace_by (shape (decode r)) (settings_of s) (node (decode r) false d)) c.is

    pub step_puts : Puts m₁ w r (take (length ks) kids)
    step_puts =
        let x = kids_few m ks in let y = p.room in let z = p.small in let l = c.made.long in let t = c.room in let f = p.few in let n = marked-size in
        record {
          arena = c.made.arena;
          room = omega arith;
          small = omega arith;
          below = c.made.below;
          canon = p.canon ∙ ap (λ n. encode n (decode r)) (sym counted);
          ok = marks_ok_lem (decode r) (forest m ks) (forest m₁ (take (length ks) kids)) (ap strip c.is ∙ strip_carry (forest m ks)) p.ok;
          few = omega arith;
        }

    pub step_hint : i < w
    step_hint = let x = c.made.more in let y = p.hint in omega arith

    -- one child
    module _ (e : eqb (code (decode r)) 7 ≡ true) where
      single_kid : length ks ≡ 1
      single_kid =
          one_kid_lem (length ks) (decode r) (treated_7 (decode r) e)
          (subst (λ n. children_ok (decode r) n ≡ true) (length_facts m ks) (counts_of (decode r) (known (forest m ks)) p.ok.0).count)

      taken_one : take (length ks) kids ≡ get_or kids 0 0 ∷ []
      taken_one = ap (λ n. take n kids) single_kid ∙ go kids c.made.wide
        where
          go : (l : List ℕ) → length l ≡ 8 → take 1 l ≡ get_or l 0 0 ∷ []
          go [] n = absurd (omega arith)
          go (x ∷ l) n = refl

      head_marked : marked (get_or kids 0 0) ≡ head_mark (forest m₁ (take (length ks) kids))
      unfolding forest
      head_marked = sym (ap (λ l. head_mark (forest m₁ l)) taken_one)

      first_size : size_t (tree_of m₁ (get_or kids 0 0)) ≡ size (forest m ks)
      first_size = let x = ap size (sym (ap (forest m₁) taken_one)) in let y = ap size (one m₁ (get_or kids 0 0)) in let z = marked-size in omega arith

      pub step_sorting : marked (get_or kids 0 0) ≡ true → Sorting m₁ w r (get_or kids 0 0) i
      step_sorting t =
          let x = kids_few m ks in let y = p.room in let z = p.small in let l = c.made.long in let n = c.room in let v = first_size in
          record { puts = subst (Puts m₁ w r) taken_one step_puts; room = omega arith; small = omega arith; sort = e; path = t; hint = step_hint }

      pub step_sort : (m₂ : List ℕ) (a : At)
          → Grown m₁ w m₂ a (replace_by (shape (decode r)) (settings_of s) (node (decode r) false (forest m₁ (get_or kids 0 0 ∷ []))))
          (w + size_t (tree_of m₁ (get_or kids 0 0)) + 1)
          → Grown m u m₂ a (replace_with_order_preserving_variants (settings_of s) (node (decode r) false (forest m ks)))
          (u + step_room (suc (size (forest m ks))))
      step_sort m₂ a g =
          let x = kids_few m ks in let n = c.room in let v = first_size in
          grown_as (ap (λ l. replace_by (shape (decode r)) (settings_of s) (node (decode r) false (forest m₁ l))) (sym taken_one) ∙ step_def)
          (made_then (u + step_room (suc (size (forest m ks)))) c.made g (omega arith))

    pub step_other : (x y : Bool) → x ≡ eqb (code (decode r)) 7 → y ≡ marked (get_or kids 0 0) → x && y ≡ false → (m₂ : List ℕ) (a : At)
        → Grown m₁ w m₂ a (node (decode r) false (forest m₁ (take (length ks) kids))) (w + 1)
        → Grown m u m₂ a (replace_with_order_preserving_variants (settings_of s) (node (decode r) false (forest m ks))) (u + step_room (suc (size (forest m ks))))
    step_other x y ex ey e m₂ a g =
        let n = c.room in let q = kids_few m ks in
        grown_as (sym (replace_not (settings_of s) (forest m₁ (take (length ks) kids)) (decode r) x y ex e (λ t. ey ∙ head_marked (sym ex ∙ t))) ∙ step_def)
        (made_then (u + step_room (suc (size (forest m ks)))) c.made g (omega arith))
