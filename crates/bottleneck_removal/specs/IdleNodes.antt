-- A node put back over opened children: an idle repartition gives its place to its child.
use Rattle.std.specs.Prelude.{◌≡◌, refl, Bool, true, false, cond, not, ◌&&◌, ◌||◌, List, [], ◌∷◌, ◌++◌, ℕ, zero, suc, ◌+◌, ◌*◌, ◌≤◌, ◌<◌, eqb, length, get_or, take, set}
use Rattle.std.proofs.Common.{sym, ap, ap₂, ◌∙◌, subst, arith, add-one, length-set, take-suc, take-suc-set}
use Rattle.std.proofs.Math.Seq.{take-set-lt}
use Rattle.row_order.proofs.Order.{no_bool}
use Rattle.plan.specs.Forest.{Forest, none, tree, size}
use Rattle.plan.specs.Op.{Op, repartition}
use Rattle.plan.specs.Numbers.{code}
use Rattle.plan.specs.declared.Kind.TheVariants.{Repartition}
use Rattle.plan_format.specs.Record.{children}
use Rattle.plan_codec.specs.Decode.{decode, from_bytes}
use Rattle.plan_codec.specs.Encode.{encode}
use Rattle.semantics.specs.Facts.{at0}
use Rattle.semantics.specs.Properties.{singles}
use Rattle.facts.specs.Known.{known as told}
use Rattle.fact_slots.specs.Slots.{loaded}
use Rattle.record_fields.specs.Proper.{Proper}
use Rattle.record_fields.specs.Kinds.{op_of, code-kind}
use Rattle.arena.specs.Arena.{slot_size, index, slot, Below}
use Rattle.arena.specs.Laws.{below_at, below_more, below_set}
use Rattle.arena.specs.declared.At.{At}
use Rattle.walks.specs.Marks.{Marked, Tree, strip, known, node, op_t, fact, set_mark, kid0, rebuild, shape}
use Rattle.walks.specs.Trees.{OkT, arity, FitsA}
use Rattle.walks.proofs.Theorems.Common.Trees.{ok_fit, children_fit}
use Rattle.walks.proofs.Theorems.Common.Keeps.{kept_node, like_refl, KeepsAll, all_kept_refl, shape_ind}
use Rattle.walks.proofs.Theorems.Parallelize.Kept.{first_removed_kept}
use Rattle.walks.specs.ParallelizeSorts.{bottleneck, first_is, idle, lift_first, same_partitioning, without_idle, skip_same}
use Rattle.plan_context.specs.View.{tree_of, forest, most_nodes, most_slots, Arena, Grown, Here, Over, Puts}
use Rattle.plan_context.specs.Facts.{Tells}
use Rattle.plan_context.specs.Handles.{Marks, kid_is}
use Rattle.plan_context.specs.Laws.{facts_at, fewer}
use Rattle.plan_context.specs.Nodes.{seen, rule}
use Rattle.plan_updates.specs.ProperRecords.{record_proper}
use Rattle.plan_updates.specs.Opening.{grown_none}
use Rattle.plan_updates.specs.Putting.{put_over}
use Rattle.bottleneck_removal.specs.Shown.{view, node_proper, tree_of_lem, kid_asks, kid_low, kid_older}
use Rattle.bottleneck_removal.specs.Skipping.{Skips}
use Rattle.bottleneck_removal.specs.Sizes.{lift_size}
use Rattle.scan.specs.Below.{and_true, and_false}

-- ---- the first child

first-is : (p : Op → Bool) (m hs : List ℕ) → 0 < length hs → first_is p (forest m hs) ≡ p (op_t (tree_of m (get_or hs 0 0)))
unfolding forest
first-is p m [] l = absurd (omega arith)
first-is p m (h ∷ hs) l = refl

first-none : (p : Op → Bool) (m hs : List ℕ) → length hs ≡ 0 → first_is p (forest m hs) ≡ false
unfolding forest
first-none p m [] l = refl
first-none p m (h ∷ hs) l = absurd (omega arith)

-- ---- a node whose first child can be taken out

module _ (m : List ℕ) (i : ℕ) (a : Arena m (i + 1)) (o : Op) where
  abbrev hs : List ℕ
  hs = (slot m i).kids

  pub no_first : children (slot m i).rec ≡ 0 → false ≡ first_is bottleneck (forest m (slot m i).kids) && not (singles o 0)
  no_first e = let n = (view m i a).count in sym (ap (λ x. x && not (singles o 0)) (first-none bottleneck m hs (omega arith)))

  pub single_first : singles o 0 ≡ true → false ≡ first_is bottleneck (forest m (slot m i).kids) && not (singles o 0)
  single_first e = sym (ap (λ x. first_is bottleneck (forest m hs) && not x) e ∙ and_false (first_is bottleneck (forest m hs)) false refl)

  module _ (n : children (slot m i).rec ≡ 0 → ⊥) where
    pub some_kid : 0 < length (slot m i).kids
    some_kid = let c = (view m i a).count in pos (length hs) (λ e. n (c ∙ e))
      where
        pos : (k : ℕ) → (k ≡ 0 → ⊥) → 0 < k
        pos zero e = absurd (e refl)
        pos (suc k) e = omega arith

    first_op : (k : ℕ) → k ≡ get_or (slot m i).kids 0 0 → op_t (tree_of m (get_or (slot m i).kids 0 0)) ≡ decode (slot m (index k)).rec
    first_op k e =
        ap (λ h. op_t (tree_of m h)) (sym e) ∙ ap op_t (tree_of_lem m k (kid_older m i a 0 some_kid k e))

    pub looks_first : singles o 0 ≡ false → (k : ℕ) → k ≡ get_or (slot m i).kids 0 0 → (b : Bool) → b ≡ bottleneck (decode (slot m (index k)).rec)
        → b ≡ first_is bottleneck (forest m (slot m i).kids) && not (singles o 0)
    looks_first s k e b q =
        q ∙ ap bottleneck (sym (first_op k e)) ∙ sym (first-is bottleneck m hs some_kid) ∙ sym (and_true (first_is bottleneck (forest m hs)))
        ∙ ap (λ x. first_is bottleneck (forest m hs) && not x) (sym s)

-- ---- the children's handles

module _ (hs : List ℕ) where
  pub copied_more : (kids : List ℕ) (j k : ℕ) → length kids ≡ 8 → j < 8 → j < length hs → take j kids ≡ take j hs → k ≡ get_or hs j 0
      → take (j + 1) (set kids j k) ≡ take (j + 1) hs
  copied_more kids j k w l h e q = rw (add-one j) (take-suc-set kids j k (omega arith) ∙ ap₂ (λ x y. x ++ (y ∷ [])) e q ∙ sym (take-suc hs j 0 h))

-- ---- idle repartitions

pub not-idle : (o : Op) (d : Forest Marked) → eqb (code o) 5 ≡ false → false ≡ idle (shape o) o d
not-idle o d =
    shape_ind (λ p. eqb (code p) 5 ≡ false → false ≡ idle (shape p) p d)
    (λ p ks f e. refl)
    (λ ks f e. refl)
    (λ p n h ks e. no_bool (sym e))
    (λ f e. refl)
    (λ p s e. sym (ap (λ z. idle z p d) s))
    o

module _ (m r ks : List ℕ) (a : Over m r ks) (p : eqb (code (decode r)) 5 ≡ true) where
  is_repartition_lem : decode r ≡ repartition (from_bytes r).preserve (from_bytes r).streams (from_bytes r).hash (from_bytes r).keys
  is_repartition_lem = op_of r Repartition (code-kind r Repartition p)

  pub one_child : length ks ≡ 1
  one_child = subst (λ o. FitsA (arity o) (length ks)) is_repartition_lem (children_fit (decode r) (length ks) (rule m r ks a).count)

  module _ (k : ℕ) (e : k ≡ get_or ks 0 0) where
    pub child_here : Here m k
    child_here = let n = one_child in subst (Here m) (sym e) (a.there 0 (omega arith))

    pub child_proper : Proper (slot m (index k)).rec
    child_proper = let s = seen m (index k) child_here.holds.proper in
        record_proper (slot m (index k)).rec (length (slot m (index k)).kids) (forest m (slot m (index k)).kids) s.canon s.ok

    child_op : op_t (tree_of m k) ≡ decode (slot m (index k)).rec
    child_op = ap op_t (seen m (index k) child_here.holds.proper).tree

    pub idle_is : (h : Bool) → h ≡ (from_bytes r).hash → (n s : ℕ) → n ≡ (from_bytes r).streams → (b : List ℕ) → Tells (tree_of m k) b
        → s ≡ (told (loaded b)).streams → (q : Bool) → q ≡ same_partitioning (decode r) (decode (slot m (index k)).rec)
        → ((not h && eqb n s) || q) ≡ idle (shape (decode r)) (decode r) (forest m ks)
    idle_is h eh n s en b t es q eq =
        let c = one_child in
        let f : s ≡ (at0 (known (forest m ks))).streams = es ∙ ap (λ F. F.streams) t.is ∙ ap (λ x. (fact (tree_of m x)).streams) e
        ∙ sym (ap (λ F. F.streams) (facts_at m ks 0 (omega arith))) in
        let g : q ≡ first_is (same_partitioning (decode r)) (forest m ks) = eq ∙ ap (same_partitioning (decode r))
        (sym child_op ∙ ap (λ x. op_t (tree_of m x)) e) ∙ sym (first-is (same_partitioning (decode r)) m ks (omega arith)) in
        ap₂ ◌||◌ (ap₂ (λ x y. not x && y) eh (ap₂ eqb en f)) g
        ∙ sym (ap (λ o. idle (shape o) (decode r) (forest m ks)) is_repartition_lem)

-- ---- the node put back

pub marked_grown : (m : List ℕ) (u : ℕ) (m' : List ℕ) (a : At) (t : Tree) (top : ℕ) → Grown m u m' a t top → (y : Bool) (r : ℕ) → Marks a.root y r
    → Grown m u m' (record { used = a.used; root = r }) (set_mark y t) top
marked_grown m u m' a t top g y r q =
    let h = g.here in let s = q.slot in
    record { arena = g.arena; old = g.old; more = g.more; here = omega arith; tree = q.tree m' ∙ ap (set_mark y) g.tree; room = g.room }

module _ (m : List ℕ) (u : ℕ) (r ks : List ℕ) (p : Puts m u r ks) (b : Bool) (e : b ≡ idle (shape (decode r)) (decode r) (forest m ks)) where
  repartitions : b ≡ true → eqb (code (decode r)) 5 ≡ true
  repartitions t = go (eqb (code (decode r)) 5) refl
    where
      go : (x : Bool) → eqb (code (decode r)) 5 ≡ x → x ≡ true
      go true q = refl
      go false q = no_bool (not-idle (decode r) (forest m ks) q ∙ sym e ∙ t)

  pub idle_some : b ≡ true → 0 < length ks
  idle_some t = let n = one_child m r ks (put_over m u r ks p) (repartitions t) in omega arith

  pub idle_grown : b ≡ true → (k : ℕ) → k ≡ get_or ks 0 0 → Grown m u m (record { used = u; root = k })
      (without_idle (record { op = decode r; mark = true }) (forest m ks)) (u + 1)
  idle_grown t k q =
      let l = below_at (2 * u) ks 0 p.below (idle_some t) in
      subst (λ x. Grown m u m (record { used = u; root = k }) x (u + 1))
      (ap (tree_of m) q ∙ kid_is m ks (rebuild (decode r) true (forest m ks)) (idle_some t)
      ∙ ap (λ x. cond x (kid0 (rebuild (decode r) true (forest m ks)) (forest m ks)) (rebuild (decode r) true (forest m ks))) (sym t ∙ e))
      (grown_none m u k (u + 1) p.arena (omega arith) (omega arith))

  pub back_grown : b ≡ false → (m' : List ℕ) (a : At) → Grown m u m' a (rebuild (decode r) false (forest m ks)) (u + 1) → (k : ℕ) → Marks a.root true k
      → Grown m u m' (record { used = a.used; root = k }) (without_idle (record { op = decode r; mark = true }) (forest m ks)) (u + 1)
  back_grown t m' a g k q =
      subst (λ x. Grown m u m' (record { used = a.used; root = k }) x (u + 1))
      (ap (λ x. cond x (kid0 (rebuild (decode r) true (forest m ks)) (forest m ks)) (rebuild (decode r) true (forest m ks))) (sym t ∙ e))
      (marked_grown m u m' a (rebuild (decode r) false (forest m ks)) (u + 1) g true k q)

pub root_small : (m : List ℕ) (u : ℕ) (m' : List ℕ) (a : At) (t : Tree) (top : ℕ) → Grown m u m' a t top → a.root < 65536
root_small m u m' a t top g = let h = g.here in let s = g.arena.small in omega arith

-- ---- the first child lifted

pub record Lifts (m : List ℕ) (u i : ℕ) (r : List ℕ) : Type 0 where
  pub arena : Arena m u
  pub low : i < u
  pub rec : r ≡ (slot m i).rec
  pub room : (u + 1) * slot_size ≤ length m
  pub small : u < most_slots
  pub first : first_is bottleneck (forest m (slot m i).kids) ≡ true

lifted : (o : Op) (m hs : List ℕ) (k : ℕ) → 0 < length hs → tree_of m k ≡ skip_same o (tree_of m (get_or hs 0 0)) (tree_of m (get_or hs 0 0)).kids
    → forest m (set hs 0 k) ≡ lift_first o (forest m hs)
unfolding forest
lifted o m [] k l e = absurd (omega arith)
lifted o m (h ∷ hs) k l e = ap (λ t. tree t.top t.kids (forest m hs)) e

module _ (m : List ℕ) (u i : ℕ) (r : List ℕ) (p : Lifts m u i r) where
  abbrev ls : List ℕ
  ls = (slot m i).kids

  abbrev c : Forest Marked
  c = forest m (slot m i).kids

  abbrev o : Op
  o = decode (slot m i).rec

  pub node_older : Arena m (i + 1)
  node_older = let l = p.low in fewer m u (i + 1) (omega arith) p.arena

  lift_some : 0 < length (slot m i).kids
  lift_some = go (length ls) refl
    where
      go : (n : ℕ) → length (slot m i).kids ≡ n → 0 < n
      go zero e = no_bool (sym (first-none bottleneck m ls e) ∙ p.first)
      go (suc n) e = omega arith

  pub lift_asks : ((i + 1) * slot_size ≤ length m) × (0 < children (slot m i).rec) × (children (slot m i).rec ≤ 8)
  lift_asks = kid_asks m i node_older 0 lift_some

  pub lift_proper : Proper r
  lift_proper = subst Proper (sym p.rec) (node_proper m i node_older)

  pub lift_skips : (k : ℕ) → k ≡ get_or (slot m i).kids 0 0 → Skips m k
  lift_skips k e =
      record {
        arena = kid_older m i node_older 0 lift_some k e;
        coalesce = ap (λ h. bottleneck (op_t (tree_of m h))) e
            ∙ sym (first-is bottleneck m ls lift_some) ∙ p.first;
      }

  -- the new children
  module _ (kids : List ℕ) (w : length kids ≡ 8) (q : take (length (slot m i).kids) kids ≡ (slot m i).kids) (h : ℕ) (eh : h ≡ get_or (slot m i).kids 0 0)
      (k : ℕ)
      (sk : (k < h) × (tree_of m k ≡ skip_same (decode r) (tree_of m h) (tree_of m h).kids)) (n : ℕ) (en : n ≡ children (slot m i).rec) where
    tally : n ≡ length (slot m i).kids
    tally = en ∙ (view m i node_older).count

    handles : take n (set kids 0 k) ≡ set (slot m i).kids 0 k
    handles = let z = lift_some in let y = tally in take-set-lt n kids 0 k (omega arith) ∙ ap (λ l. set l 0 k) (ap (λ j. take j kids) tally ∙ q)

    forest_is : forest m (take n (set kids 0 k)) ≡ lift_first (decode r) (forest m (slot m i).kids)
    forest_is = ap (forest m) handles ∙ lifted (decode r) m ls k lift_some (sk.1 ∙ ap (λ x. skip_same (decode r) (tree_of m x) (tree_of m x).kids) eh)

    pub few_wide : n ≤ length (set kids 0 k)
    few_wide = let y = tally in let z = (view m i node_older).few in let x = length-set kids 0 k in omega arith

    lift_ok : OkT (node (decode r) false (lift_first (decode r) (forest m (slot m i).kids)))
    lift_ok =
        rw p.rec
        (let v = (view m i node_older).ok in
        let f = ok_fit (tree o (strip c) none) (v.0, v.1, tt) in
        let k₁ : KeepsAll false true true c (lift_first o c) = subst (λ x. KeepsAll false true true c (cond (x && true) (lift_first o c) c)) p.first
        (first_removed_kept true o c c f.1 (all_kept_refl c f.1)) in
        (kept_node o o false false c (lift_first o c) (like_refl o) f.0 k₁).ok refl v)

    pub lift_puts : Puts m u r (take n (set kids 0 k))
    lift_puts =
        let v = view m i node_older in let s = v.small in let z = lift_size (decode r) c in let l = p.low in let f = sk.0 in
        let j = kid_low m i node_older 0 lift_some in
        let y : length (take n (set kids 0 k)) ≡ length (slot m i).kids = ap length handles ∙ length-set ls 0 k in
        record {
          arena = p.arena;
          room = p.room;
          small = p.small;
          below = subst (Below (2 * u)) (sym handles) (below_set (2 * u) ls 0 k (below_more ls (omega arith) v.below) (omega arith));
          canon = p.rec ∙ v.canon ∙ ap₂ (λ x t. encode x (decode t)) (sym y) (sym p.rec);
          ok = subst (λ f. OkT (node (decode r) false f)) (sym forest_is) lift_ok;
          few = subst (λ f. suc (size f) ≤ most_nodes) (sym forest_is) (omega arith);
        }

    pub lift_grown : (m' : List ℕ) (a : At) → Grown m u m' a (without_idle (record { op = decode r; mark = true }) (forest m (take n (set kids 0 k))))
        (u + 1)
        → Grown m u m' a (without_idle (record { op = decode r; mark = true }) (lift_first (decode r) (forest m (slot m i).kids))) (u + 1)
    lift_grown m' a g = subst (λ f. Grown m u m' a (without_idle (record { op = decode r; mark = true }) f) (u + 1)) forest_is g
