-- update_order_preservation_ctx_children_data in the arena: the marks of a node's children, and of theirs.
use Rattle.std.specs.Prelude.{◌≡◌, Bool, true, cond, ◌&&◌, ◌||◌, get_or, take, drop, set, is_some}
use Rattle.std.specs.List.{list_any}
use Rattle.std.proofs.Math.Path.{refl, sym, ap, ap₂}
use Rattle.std.proofs.Common.{◌∙◌, subst, add-one, drop_of_length-le, drop-cons, length-take-le}
use Rattle.std.proofs.Math.Bool.{false}
use mathlib.Core.List.{List, [], ◌∷◌, map}
use Prim.Native.Nat.{ℕ, suc, ◌+◌, ◌*◌, ◌≤◌, ◌<◌}
use native.Mathlib.Omega.{arith}
use Rattle.std.proofs.Math.ListN.{length}
use Rattle.plan.specs.Forest.{Forest, none, tree, roots, size}
use Rattle.plan.specs.Op.{Op, Plan}
use Rattle.plan.specs.WellFormed.{node_ok}
use Rattle.plan_codec.specs.Decode.{decode}
use Rattle.plan_codec.specs.Encode.{encode}
use Rattle.semantics.specs.Facts.{facts, is_nil}
use Rattle.semantics.specs.Properties.{cuts}
use Rattle.arena.specs.Arena.{slot_size, index, marked, slot, Below}
use Rattle.arena.specs.declared.At.{At}
use Rattle.arena.specs.Laws.{below_at, below_more}
use Rattle.walks.specs.Marks.{Marked, Tree, strip, known, node, plant, op_t, set_mark, unmark, any_mark}
use Rattle.walks.specs.Terms.{◌⊕◌}
use Rattle.walks.specs.Trees.{Ok, OkT}
use Rattle.walks.specs.Utils.{is_coalesce_partitions}
use Rattle.walks.specs.OrderPreserving.{inspect_child, masked, inspected, initiates, carries, carry_each}
use Rattle.walks.proofs.Theorems.Preserve.Kept.{strip-masked}
use Rattle.plan_context.specs.View.{tree_of, forest, most_slots, Arena, Grown, Puts}
use Rattle.plan_context.specs.Laws.{fewer, tree_same}
use Rattle.plan_context.specs.Handles.{Marks}
use Rattle.plan_updates.specs.Kids.{Kids, kids_none, kids_more, kids_forest}
use Rattle.plan_updates.specs.From.{from, from_first, from_next}
use Rattle.plan_updates.specs.ChildLoop.{no_more}
use Rattle.order_preservation_marks.specs.Nodes.{shown, kid_below}

-- ---- marks of handles

abbrev pub any_marked : List ℕ → Bool
any_marked hs = list_any marked hs

any_is : (m ks : List ℕ) → any_marked ks ≡ any_mark (forest m ks)
unfolding forest
any_is m [] = refl
any_is m (h ∷ hs) = ap (λ x. marked h || x) (any_is m hs)

roots_some : (m ks : List ℕ) → 0 < length ks → is_nil (roots (forest m ks)) ≡ false
unfolding forest
roots_some m [] l = absurd (omega arith)
roots_some m (h ∷ hs) l = refl

-- ---- "A fetched coalesce selects rows in arrival order"

abbrev pub is_fetched_coalesce : Op → Bool
is_fetched_coalesce o = is_coalesce_partitions o && is_some (cuts o).fetch

pub nothing_left : (x : Bool) → x && false ≡ false
nothing_left true = refl
nothing_left false = refl

-- ---- the children of node i, the mark of each that p does not ask for cut

pub record Cut (m : List ℕ) (i : ℕ) (p : ℕ → Bool) (kids : List ℕ) : Type 0 where
  pub wide : length kids ≡ 8
  pub below : Below (2 * (i + 1)) (take (length (slot m i).kids) kids)
  pub is : forest m (take (length (slot m i).kids) kids) ≡ masked p (forest m (slot m i).kids)

pub record Cutting (m : List ℕ) (i : ℕ) (p : ℕ → Bool) (j : ℕ) (kids : List ℕ) : Type 0 where
  pub low : j ≤ length (slot m i).kids
  pub made : Kids m (i + 1) j (i + 1) kids m
  pub is : forest m (take j kids) ⊕ masked (from p j) (forest m (drop j (slot m i).kids)) ≡ masked p (forest m (slot m i).kids)

module _ (m : List ℕ) (i : ℕ) (p : ℕ → Bool) (a : Arena m (i + 1)) where
  abbrev hs : List ℕ
  hs = (slot m i).kids

  pub cutting_none : (kids : List ℕ) → length kids ≡ 8 → Cutting m i p 0 kids
  unfolding forest
  cutting_none kids l = record { low = omega arith; made = kids_none m (i + 1) kids a l; is = refl }

  module _ (j : ℕ) (kids : List ℕ) (q : Cutting m i p j kids) where
    pub cutting_room : j < length (slot m i).kids → j < 8
    cutting_room l = let f = (shown m i a).few in omega arith

    module _ (l : j < length (slot m i).kids) (k : ℕ) (e : k ≡ get_or (slot m i).kids j 0) (x : Bool) (hx : x ≡ marked k && p j) (r : ℕ)
        (c : Marks k x r) where
      grown : Grown m (i + 1) m (record { used = i + 1; root = r }) (set_mark (marked k && p j) (tree_of m k)) (i + 1)
      grown =
          let s = c.slot in let b = kid_below m i a j l k e in
          record {
            arena = a;
            old = refl;
            more = omega arith;
            here = omega arith;
            tree = c.tree m ∙ ap (λ z. set_mark z (tree_of m k)) hx;
            room = omega arith;
          }

      split : masked (from p j) (forest m (drop j (slot m i).kids))
          ≡ plant (set_mark (marked k && p j) (tree_of m k)) (masked (from p (suc j)) (forest m (drop (suc j) (slot m i).kids)))
      unfolding forest
      split =
          ap (λ z. masked (from p j) (forest m z)) (drop-cons hs j 0 l)
          ∙ ap (λ z. masked (from p j) (plant (tree_of m z) (forest m (drop (suc j) hs)))) (sym e)
          ∙ ap₂ (λ z w. plant (set_mark (marked k && z) (tree_of m k)) (masked w (forest m (drop (suc j) hs)))) (from_first p j) (from_next p j)

      pub cutting_more : Cutting m i p (j + 1) (set kids j r)
      cutting_more =
          let f = cutting_room l in
          record {
            low = omega arith;
            made = kids_more m (i + 1) j (i + 1) kids m q.made f m refl (record { used = i + 1; root = r }) _ (i + 1) grown;
            is =
                kids_forest m (i + 1) j (i + 1) kids m q.made f m refl (record { used = i + 1; root = r }) _ (i + 1) grown
                (masked (from p (j + 1)) (forest m (drop (j + 1) hs)))
                ∙ rw (add-one j) (ap (λ z. forest m (take j kids) ⊕ z) (sym split)) ∙ q.is;
          }

    pub cutting_all : length (slot m i).kids ≤ j → Cut m i p kids
    cutting_all l =
        let o = q.low in
        let n : length (slot m i).kids ≡ j = omega arith in
        record {
          wide = q.made.wide;
          below = subst (λ z. Below (2 * (i + 1)) (take z kids)) (sym n) q.made.below;
          is = ap (λ z. forest m (take z kids)) n ∙ no_more m hs m (take j kids) j (masked (from p j)) (masked p (forest m hs)) l refl q.is;
        }

-- ---- the mark of node i over them

module _ (m : List ℕ) (i : ℕ) (ks : List ℕ) (e : forest m ks ≡ inspected (decode (slot m i).rec) (forest m (slot m i).kids)) where
  abbrev o : Op
  o = decode (slot m i).rec

  pub count_same : length ks ≡ length (slot m i).kids
  unfolding forest
  count_same =
      counted ks ∙ ap (λ c. length (roots c)) e ∙ roots-masked (inspect_child o (known (forest m (slot m i).kids))) (forest m (slot m i).kids)
      ∙ sym (counted (slot m i).kids)
    where
      counted : (l : List ℕ) → length l ≡ length (roots (forest m l))
      counted [] = refl
      counted (h ∷ l) = ap suc (counted l)

      roots-masked : (p : ℕ → Bool) (c : Forest Marked) → length (roots (masked p c)) ≡ length (roots c)
      roots-masked p none = refl
      roots-masked p (tree n c r) = ap suc (roots-masked (λ k. p (suc k)) r)

  known_same : known (forest m ks) ≡ known (forest m (slot m i).kids)
  known_same = ap known e ∙ ap facts (strip-masked (inspect_child o (known (forest m (slot m i).kids))) (forest m (slot m i).kids))

  pub carries-none : length ks ≡ 0 → false ≡ carries (decode (slot m i).rec) (forest m ks)
  unfolding forest
  carries-none n = go ks n
    where
      go : (l : List ℕ) → length l ≡ 0 → false ≡ carries o (forest m l)
      go [] q = refl
      go (h ∷ l) q = absurd (omega arith)

  module _ (l : 0 < length ks) where
    by_tests : (f : Bool) → is_fetched_coalesce (decode (slot m i).rec) ≡ f
        → cond f false (any_mark (forest m ks) || initiates (decode (slot m i).rec) (known (forest m ks))) ≡ carries (decode (slot m i).rec) (forest m ks)
    by_tests f p =
        sym (ap₂ (λ x y. cond (x || y) false (any_mark (forest m ks) || initiates o (known (forest m ks)))) (roots_some m ks l) p)

    pub carries_fetched : (x : Bool) → x ≡ is_fetched_coalesce (decode (slot m i).rec) → x ≡ true → false ≡ carries (decode (slot m i).rec) (forest m ks)
    carries_fetched x p t = by_tests true (sym p ∙ t)

    module _ (x : Bool) (p : x ≡ is_fetched_coalesce (decode (slot m i).rec)) (t : x ≡ false) (a : Bool) (ha : a ≡ any_marked ks) where
      or_initiates : a || initiates (decode (slot m i).rec) (known (forest m ks)) ≡ carries (decode (slot m i).rec) (forest m ks)
      or_initiates = ap (λ y. y || initiates o (known (forest m ks))) (ha ∙ any_is m ks) ∙ by_tests false (sym p ∙ t)

      pub carries_any : a ≡ true → true ≡ carries (decode (slot m i).rec) (forest m ks)
      carries_any s = ap (λ y. y || initiates o (known (forest m ks))) (sym s) ∙ or_initiates

      pub carries-initiates : a ≡ false → (b : Bool) → b ≡ initiates (decode (slot m i).rec) (known (forest m (slot m i).kids))
          → b ≡ carries (decode (slot m i).rec) (forest m ks)
      carries-initiates s b e = e ∙ ap (initiates o) (sym known_same) ∙ ap (λ y. y || initiates o (known (forest m ks))) (sym s) ∙ or_initiates

-- ---- one root of carry_each

abbrev pub carry_one : Tree → Tree
carry_one t = node (op_t t) (carries (op_t t) (inspected (op_t t) t.kids)) (inspected (op_t t) t.kids)

masked-size : (p : ℕ → Bool) (c : Forest Marked) → size (masked p c) ≡ size c
masked-size p none = refl
masked-size p (tree m c r) = let x = masked-size (λ i. p (suc i)) r in omega arith

-- 01's rules do not see marks
pub marks_ok_lem : (o : Op) (c d : Forest Marked) → strip d ≡ strip c → OkT (node o false c) → OkT (node o false d)
marks_ok_lem o c d e k = subst (λ (f : Plan). (node_ok o (map (λ F. F.width) (facts f)) ≡ true) × Ok f) (sym e) k

-- no mark is asked for
mask_none : (c : Forest Marked) → masked (λ j. false) c ≡ unmark c
mask_none none = refl
mask_none (tree m c r) = ap₂ (λ x d. tree (record { op = m.op; mark = x }) c d) (nothing_left m.mark) (mask_none r)

pub carry_size : (c : Forest Marked) → size (carry_each c) ≡ size c
carry_size none = refl
carry_size (tree m c r) = let x = masked-size (inspect_child m.op (known c)) c in let y = carry_size r in omega arith

pub record Carrying (m : List ℕ) (u h : ℕ) : Type 0 where
  pub arena : Arena m u
  pub here : h < 2 * u
  pub room : (u + 1) * slot_size ≤ length m
  pub small : u < most_slots

module _ (m : List ℕ) (u h : ℕ) (p : Carrying m u h) where
  pub half : index h < u
  half = let l = p.here in omega arith

  pub carry_arena : Arena m (index h + 1)
  carry_arena = let l = half in fewer m u (index h + 1) (omega arith) p.arena

  -- over its children with the marks that q does not ask for cut, put again
  module _ (q : ℕ → Bool) (kids : List ℕ) (c : Cut m (index h) q kids) (n : ℕ) (en : n ≡ length (slot m (index h)).kids) where
    pub cut_is : forest m (take n kids) ≡ masked q (forest m (slot m (index h)).kids)
    cut_is = ap (λ z. forest m (take z kids)) en ∙ c.is

    pub cut_puts : Puts m u (slot m (index h)).rec (take n kids)
    cut_puts =
        let s = shown m (index h) carry_arena in let w = c.wide in let f = s.few in let g = s.small in
        let z = ap size cut_is ∙ masked-size q (forest m (slot m (index h)).kids) in let l = half in
        record {
          arena = p.arena;
          room = p.room;
          small = p.small;
          below = below_more (take n kids) (omega arith) (subst (λ z. Below (2 * (index h + 1)) (take z kids)) (sym en) c.below);
          canon = s.canon ∙ ap (λ z. encode z (decode (slot m (index h)).rec)) (sym (length-take-le n kids (omega arith) ∙ en));
          ok = marks_ok_lem (decode (slot m (index h)).rec) (forest m (slot m (index h)).kids) (forest m (take n kids))
              (ap strip cut_is ∙ strip-masked q (forest m (slot m (index h)).kids)) s.ok;
          few = omega arith;
        }

    pub cut_grown : (b : Bool) (m' : List ℕ) (a : At) → Grown m u m' a (node (decode (slot m (index h)).rec) false (forest m (take n kids))) (u + 1)
        → (r : ℕ) → Marks a.root b r
        → Grown m u m' (record { used = a.used; root = r }) (node (decode (slot m (index h)).rec) b (masked q (forest m (slot m (index h)).kids)))
        (u + 1)
    cut_grown b m' a g r k =
        let s = k.slot in let x = g.here in
        record {
          arena = g.arena;
          old = g.old;
          more = g.more;
          here = omega arith;
          tree = k.tree m' ∙ ap (set_mark b) g.tree ∙ ap (node (decode (slot m (index h)).rec) b) cut_is;
          room = g.room;
        }

  -- with the mark that they carry
  pub carry_is : (kids : List ℕ) → Cut m (index h) (inspect_child (decode (slot m (index h)).rec) (known (forest m (slot m (index h)).kids))) kids
      → (n : ℕ) → n ≡ length (slot m (index h)).kids → (b : Bool) → b ≡ carries (decode (slot m (index h)).rec) (forest m (take n kids))
      → node (decode (slot m (index h)).rec) b (inspected (decode (slot m (index h)).rec) (forest m (slot m (index h)).kids)) ≡ carry_one (tree_of m h)
  carry_is kids c n en b hb =
      let o = decode (slot m (index h)).rec in
      let d = inspected o (forest m (slot m (index h)).kids) in
      ap (λ z. node o z d) (hb ∙ ap (carries o) (ap (λ z. forest m (take z kids)) en ∙ c.is)) ∙ sym (ap carry_one (shown m (index h) carry_arena).tree)

  -- with its own mark and none on its children
  pub unmarked_is : node (decode (slot m (index h)).rec) (marked h) (masked (λ j. false) (forest m (slot m (index h)).kids))
      ≡ node (op_t (tree_of m h)) (tree_of m h).top.mark (unmark (tree_of m h).kids)
  unmarked_is =
      ap (node (decode (slot m (index h)).rec) (marked h)) (mask_none (forest m (slot m (index h)).kids))
      ∙ sym (ap (λ t. node (op_t t) (marked h) (unmark t.kids)) (shown m (index h) carry_arena).tree)

-- ---- child by child

pub record Updating (m : List ℕ) (u : ℕ) (ks : List ℕ) : Type 0 where
  pub arena : Arena m u
  pub below : Below (2 * u) ks
  pub room : (u + length ks) * slot_size ≤ length m
  pub small : u + length ks ≤ most_slots
  pub few : length ks ≤ 8

pub record Updated (m : List ℕ) (u : ℕ) (ks m' : List ℕ) (used : ℕ) (kids : List ℕ) : Type 0 where
  pub made : Kids m u (length ks) used kids m'
  pub is : forest m' (take (length ks) kids) ≡ carry_each (forest m ks)
  pub room : used ≤ u + length ks

pub record Going (m₀ : List ℕ) (u : ℕ) (ks : List ℕ) (j w : ℕ) (kids m : List ℕ) : Type 0 where
  pub low : j ≤ length ks
  pub made : Kids m₀ u j w kids m
  pub is : forest m (take j kids) ⊕ carry_each (forest m₀ (drop j ks)) ≡ carry_each (forest m₀ ks)
  pub left : w ≤ u + j

module _ (m₀ : List ℕ) (u : ℕ) (ks : List ℕ) (p : Updating m₀ u ks) where
  pub going-none : (kids : List ℕ) → length kids ≡ 8 → Going m₀ u ks 0 u kids m₀
  unfolding forest
  going-none kids l = record { low = omega arith; made = kids_none m₀ u kids p.arena l; is = refl; left = omega arith }

  module _ (j w : ℕ) (kids m : List ℕ) (q : Going m₀ u ks j w kids m) where
    module _ (l : j < length ks) where
      kid_low : get_or ks j 0 < 2 * u
      kid_low = below_at (2 * u) ks j p.below l

      pub going_asks : Carrying m w (get_or ks j 0)
      going_asks =
          let x = q.made.more in let y = kid_low in let z = q.left in let r = p.room in let s = p.small in let o = q.made.long in
          record { arena = q.made.arena; here = omega arith; room = omega arith; small = omega arith }

      split_first : carry_each (forest m₀ (drop j ks)) ≡ plant (carry_one (tree_of m (get_or ks j 0))) (carry_each (forest m₀ (drop (suc j) ks)))
      unfolding forest
      split_first =
          ap (λ z. carry_each (forest m₀ z)) (drop-cons ks j 0 l)
          ∙ ap (λ t. plant (carry_one t) (carry_each (forest m₀ (drop (suc j) ks)))) (sym (tree_same u m₀ m q.made.old (get_or ks j 0) kid_low))

      pub going_more : (m' : List ℕ) → length m' ≡ length m → (r : At) → Grown m w m' r (carry_one (tree_of m (get_or ks j 0))) (w + 1)
          → Going m₀ u ks (j + 1) r.used (set kids j r.root) m'
      going_more m' lm r g =
          let f = p.few in let z = q.left in let top = g.room in
          record {
            low = omega arith;
            made = kids_more m₀ u j w kids m q.made (omega arith) m' lm r (carry_one (tree_of m (get_or ks j 0))) (w + 1) g;
            is =
                kids_forest m₀ u j w kids m q.made (omega arith) m' lm r (carry_one (tree_of m (get_or ks j 0))) (w + 1) g
                (carry_each (forest m₀ (drop (j + 1) ks)))
                ∙ rw (add-one j) (ap (λ z. forest m (take j kids) ⊕ z) (sym split_first)) ∙ q.is;
            left = omega arith;
          }

    pub going_all : length ks ≤ j → Updated m₀ u ks m w kids
    going_all l =
        let o = q.low in let z = q.left in
        let n : j ≡ length ks = omega arith in
        record {
          made = subst (λ x. Kids m₀ u x w kids m) n q.made;
          is = ap (λ x. forest m (take x kids)) (sym n) ∙ no_more m₀ ks m (take j kids) j carry_each (carry_each (forest m₀ ks)) l refl q.is;
          room = omega arith;
        }
