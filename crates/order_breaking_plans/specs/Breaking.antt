-- plan_with_order_breaking_variants in the arena.
use Rattle.std.specs.Prelude.{◌≡◌, refl, Bool, true, false, cond, not, ◌&&◌, ◌||◌, List, [], ◌∷◌, map, ℕ, zero, suc, ◌+◌, ◌≤◌, ◌<◌, eqb, length, get_or, take, drop, set, Option, Some, None}
use Rattle.std.proofs.Common.{sym, ap, ap₂, ◌∙◌, subst, arith}
use Rattle.row_order.proofs.Order.{no_bool}
use Rattle.plan.specs.Forest.{Forest, none, tree, size}
use Rattle.plan.specs.Op.{Op, repartition, coalesce, merge_op}
use Rattle.plan.specs.Numbers.{code}
use Rattle.plan.specs.WellFormed.{node_ok}
use Rattle.plan_codec.specs.Decode.{decode}
use Rattle.plan_codec.specs.Encode.{encode}
use Rattle.semantics.specs.Facts.{Facts, at0, is_nil, keeps_order, met, nothing}
use Rattle.semantics.specs.Properties.{maintains, wanted, cuts, remark}
use Rattle.key_lists.specs.Keys.{keys_in, keys_of, order_of, Real, Ordered}
use Rattle.key_lists.specs.declared.Keys.{Keys}
use Rattle.arena.specs.Arena.{index, marked, slot}
use Rattle.arena.specs.declared.At.{At}
use Rattle.walks.specs.Marks.{Marked, Tree, strip, known, at, node, plant, size_t, set_mark, Shape, a_sort, a_merge, a_repartition, a_coalesce, another, shape, rebuild}
use Rattle.walks.specs.Trees.{OkT}
use Rattle.walks.proofs.Theorems.Common.Trees.{ok_fit}
use Rattle.walks.proofs.Theorems.Common.NewNodes.{coalesce_ok, node_fetch, over_of}
use Rattle.walks.proofs.Theorems.Common.Keeps.{kept_node, like_refl}
use Rattle.walks.specs.Utils.{is_sort_preserving_merge}
use Rattle.walks.specs.OrderPreserving.{mark_first, enters, break_by, break_each, plan_with_order_breaking_variants}
use Rattle.walks.proofs.Theorems.Preserve.Kept.{strip_first, break_each_kept}
use Rattle.plan_context.specs.View.{tree_of, forest, Grown, Puts}
use Rattle.plan_context.specs.Handles.{Marks}
use Rattle.order_preservation_marks.specs.Kinds.{op_ind, treated_5, treated_8}
use Rattle.order_preservation_marks.specs.Marking.{marks_ok_lem}
use Rattle.plan_updates.specs.From.{from, from_first, from_next}
use Rattle.plan_updates.specs.ChildLoop.{view, same_slot, same_kids, split}
use Rattle.order_preservation_marks.specs.Entering.{Enters, Going, going_more, news, going_puts, going_end}
use Rattle.order_preservation_marks.specs.Replacing.{grown_as, first_size, single, remark_ok, replaced_puts, replaced_grown}
use Rattle.walks.proofs.Theorems.Calls.Counts.{cond_le}

-- ---- which children are entered

module _ (o : Op) (fs : List Facts) (j : ℕ) where
  tests : (x y z w : Bool) → x ≡ maintains o fs j → y ≡ is_sort_preserving_merge o → z ≡ is_nil (wanted o j) → w ≡ met (get_or fs j nothing) (wanted o j)
      → x && (y || (z || not w)) ≡ enters o fs j
  tests x y z w a b c d = ap₂ ◌&&◌ a (ap₂ ◌||◌ b (ap₂ (λ p q. p || not q) c d))

  pub enters_lost : (x : Bool) → x ≡ maintains o fs j → x ≡ false → false ≡ enters o fs j
  enters_lost x a e = tests false _ _ _ (sym e ∙ a) refl refl refl

  module _ (x : Bool) (a : x ≡ maintains o fs j) (ex : x ≡ true) (y : Bool) (b : y ≡ is_sort_preserving_merge o) where
    pub enters_merge : y ≡ true → true ≡ enters o fs j
    enters_merge e = tests true true _ _ (sym ex ∙ a) (sym e ∙ b) refl refl

    module _ (ey : y ≡ false) (v : Option Keys) (q : Ordered (wanted o j) v) where
      pub enters_unasked : v ≡ None → true ≡ enters o fs j
      enters_unasked e = tests true false true _ (sym ex ∙ a) (sym ey ∙ b) (ap (λ l. is_nil (order_of l)) (sym e) ∙ ap is_nil q.is) refl

      pub enters-asked : (k : Keys) → v ≡ Some k → (F : Facts) → F ≡ get_or fs j nothing → (w : Bool) → w ≡ met F (keys_of k) → not w ≡ enters o fs j
      enters-asked k e F ef w c =
          tests true false false w (sym ex ∙ a) (sym ey ∙ b)
          (some k.len k.word (subst Real e q.real).0 ∙ ap (λ l. is_nil (order_of l)) (sym e) ∙ ap is_nil q.is)
          (c ∙ ap₂ met ef (ap order_of (sym e) ∙ q.is))
        where
          some : (n v : ℕ) → 0 < n → false ≡ is_nil (keys_in n v)
          some zero v l = absurd (omega arith)
          some (suc n) v l = refl

-- ---- kinds: a node o over c, whose children became d

abbrev pub broken_repartition : Op → Forest Marked → Forest Marked → Tree
broken_repartition o c d = cond (maintains o (known c) 0) (node (remark (λ p. false) o) false (mark_first false d)) (rebuild o false d)

abbrev pub broken_merge : Op → Forest Marked → Tree
broken_merge o d = node (coalesce (cuts o).fetch) false (mark_first false d)

module _ (x : Bool) (c d : Forest Marked) where
  abbrev Broken : Op → Tree
  Broken o = break_by (shape o) (record { op = o; mark = x }) c d

  pub by_repartition : (o : Op) → eqb (code o) 5 ≡ true → break_by (shape o) (record { op = o; mark = x }) c d ≡ broken_repartition o c d
  by_repartition =
      op_ind (λ o. eqb (code o) 5 ≡ true → Broken o ≡ broken_repartition o c d) (λ p ks g e. no_bool e) (λ ks g e. no_bool e) (λ p n h ks e. refl)
      (λ g e. no_bool e)
      (λ o a e. no_bool (sym a.1 ∙ e))

  pub by_merge : (o : Op) → eqb (code o) 8 ≡ true → break_by (shape o) (record { op = o; mark = x }) c d ≡ broken_merge o d
  by_merge =
      op_ind (λ o. eqb (code o) 8 ≡ true → Broken o ≡ broken_merge o d) (λ p ks g e. no_bool e) (λ ks g e. refl) (λ p n h ks e. no_bool e) (λ g e. no_bool e)
      (λ o a e. no_bool (sym a.4 ∙ e))

  pub by_other : (o : Op) → eqb (code o) 5 ≡ false → eqb (code o) 8 ≡ false → break_by (shape o) (record { op = o; mark = x }) c d ≡ rebuild o false d
  by_other =
      op_ind (λ o. eqb (code o) 5 ≡ false → eqb (code o) 8 ≡ false → Broken o ≡ rebuild o false d) (λ p ks g e q. refl) (λ ks g e q. no_bool (sym q))
      (λ p n h ks e q. no_bool (sym e)) (λ g e q. refl)
      (λ o a e q. ap (λ s. break_by s (record { op = o; mark = x }) c d) a.0)

by_mark : (x y : Bool) (o : Op) (c d : Forest Marked) (s : Shape) → break_by s (record { op = o; mark = x }) c d ≡ break_by s
    (record { op = o; mark = y }) c d
by_mark x y o c d (a_sort p ks g) = refl
by_mark x y o c d (a_merge ks g) = refl
by_mark x y o c d (a_repartition p n h ks) = refl
by_mark x y o c d (a_coalesce g) = refl
by_mark x y o c d another = refl

-- a coalesce where a merge stood
merge_coalesce : (ws : List ℕ) (o : Op) → eqb (code o) 8 ≡ true → node_ok o ws ≡ true → node_ok (coalesce (cuts o).fetch) ws ≡ true
merge_coalesce ws =
    op_ind (λ o. eqb (code o) 8 ≡ true → node_ok o ws ≡ true → node_ok (coalesce (cuts o).fetch) ws ≡ true) (λ p ks g e. no_bool e)
    (λ ks g e u. coalesce_ok g ws (node_fetch (merge_op ks g) ws u) (over_of (merge_op ks g) ws refl u)) (λ p n h ks e. no_bool e) (λ g e. no_bool e)
    (λ o a e. no_bool (sym a.4 ∙ e))

-- ---- sizes: nothing is added

by_size : (s : Shape) (m : Marked) (c d : Forest Marked) → size d ≤ size c → size_t (break_by s m c d) ≤ suc (size c)
by_size (a_sort p ks g) m c d h = omega arith
by_size (a_merge ks g) m c d h = let x = first_size false d in omega arith
by_size (a_repartition p n q ks) m c d h =
    let x = first_size false d in
    cond_le (suc (size c)) (keeps_order p (at0 (known c))) (node (repartition false n q ks) false (mark_first false d)) (rebuild m.op false d)
    (omega arith)
    (omega arith)
by_size (a_coalesce g) m c d h = omega arith
by_size another m c d h = omega arith

each_size : (q : ℕ → Bool) (c : Forest Marked) → size (break_each q c) ≤ size c
each_size q none = omega arith
each_size q (tree m c r) =
    let d = break_each (enters m.op (known c)) c in
    let x = cond_le (suc (size c)) (q 0) (break_by (shape m.op) m c d) (at m c) (by_size (shape m.op) m c d (each_size (enters m.op (known c)) c))
    (omega arith) in
    let y = each_size (λ i. q (suc i)) r in omega arith

-- ---- a repartition

module _ (m : List ℕ) (w i : ℕ) (r ks : List ℕ) (p : Puts m w r ks) (er : r ≡ (slot m i).rec) (e : eqb (code (decode r)) 5 ≡ true) (b : Bool)
    (hb : b ≡ maintains (decode (slot m i).rec) (known (forest m (slot m i).kids)) 0) where
  parts : (y : Bool) → b ≡ y
      → cond y (node (remark (λ q. false) (decode r)) false (mark_first false (forest m ks))) (rebuild (decode r) false (forest m ks))
      ≡ broken_repartition (decode r) (forest m (slot m i).kids) (forest m ks)
  parts y q =
      ap (λ z. cond z (node (remark (λ q. false) (decode r)) false (mark_first false (forest m ks))) (rebuild (decode r) false (forest m ks)))
      (sym q ∙ hb ∙ ap (λ z. maintains (decode z) (known (forest m (slot m i).kids)) 0) (sym er))

  pub repartition_kept : b ≡ false → (m' : List ℕ) (a : At) → Grown m w m' a (rebuild (decode r) false (forest m ks)) (w + 1)
      → Grown m w m' a (broken_repartition (decode r) (forest m (slot m i).kids) (forest m ks)) (w + 1)
  repartition_kept q m' a g = grown_as (parts false q) g

  module _ (x : List ℕ) (hx : (n : ℕ) → r ≡ encode n (decode r) → x ≡ encode n (remark (λ q. false) (decode r))) (k : ℕ)
      (hk : Marks (get_or ks 0 0) false k) where
    one_child : length ks ≡ 1
    one_child = single m w r ks p (treated_5 (decode r) e)

    new_record : x ≡ encode 1 (remark (λ q. false) (decode r))
    new_record = hx 1 (p.canon ∙ ap (λ n. encode n (decode r)) one_child)

    pub repartition_puts : Puts m w x (k ∷ [])
    repartition_puts =
        replaced_puts m w r ks p one_child false k hk (remark (λ q. false) (decode r)) x new_record (remark_ok m w r ks p one_child false (λ q. false))

    pub repartition_broken : b ≡ true → (m' : List ℕ) (a : At) → Grown m w m' a (node (decode x) false (forest m (k ∷ []))) (w + 1)
        → Grown m w m' a (broken_repartition (decode r) (forest m (slot m i).kids) (forest m ks)) (w + 1)
    repartition_broken q m' a g =
        grown_as (parts true q)
        (replaced_grown m w r ks p one_child false k hk (remark (λ q. false) (decode r)) x new_record (remark_ok m w r ks p one_child false (λ q. false)) m'
        a (w + 1) g)

-- ---- a merge

module _ (m : List ℕ) (w : ℕ) (r ks : List ℕ) (p : Puts m w r ks) (e : eqb (code (decode r)) 8 ≡ true) where
  pub one_below : length ks ≡ 1
  one_below = single m w r ks p (treated_8 (decode r) e)

  module _ (x : List ℕ) (hx : x ≡ encode 1 (coalesce (cuts (decode r)).fetch)) (k : ℕ) (hk : Marks (get_or ks 0 0) false k) where
    coalesced_ok : OkT (broken_merge (decode r) (forest m ks))
    coalesced_ok =
        let d = mark_first false (forest m ks) in
        let y = marks_ok_lem (decode r) (forest m ks) d (strip_first false (forest m ks)) p.ok in
        (merge_coalesce (map (λ F. F.width) (known d)) (decode r) e y.0, y.1)

    pub merge_puts : Puts m w x (k ∷ [])
    merge_puts = replaced_puts m w r ks p one_below false k hk (coalesce (cuts (decode r)).fetch) x hx coalesced_ok

    pub merge_broken : (m' : List ℕ) (a : At) → Grown m w m' a (node (decode x) false (forest m (k ∷ []))) (w + 1)
        → Grown m w m' a (broken_merge (decode r) (forest m ks)) (w + 1)
    merge_broken m' a g = replaced_grown m w r ks p one_below false k hk (coalesce (cuts (decode r)).fetch) x hx coalesced_ok m' a (w + 1) g

-- ---- any node

abbrev pub Broke : List ℕ → ℕ → List ℕ → Tree
Broke m i ks = break_by (shape (decode (slot m i).rec)) (record { op = decode (slot m i).rec; mark = true }) (forest m (slot m i).kids) (forest m ks)

-- One root of break_each
abbrev pub break_one : Bool → Tree → Tree
break_one e t = cond e (plan_with_order_breaking_variants t) t

-- ---- the recursion

-- Which children of node i are entered
abbrev entering : List ℕ → ℕ → ℕ → Bool
entering m i = enters (decode (slot m i).rec) (known (forest m (slot m i).kids))

-- What its children become, from number j on
abbrev pub each_of : List ℕ → ℕ → ℕ → Forest Marked → Forest Marked
each_of m h j c = break_each (from (entering m (index h)) j) c

module _ (m₀ : List ℕ) (u h : ℕ) (p : Enters m₀ u h) where
  abbrev q₀ : ℕ → Bool
  q₀ = entering m₀ (index h)

  abbrev o : Op
  o = decode (slot m₀ (index h)).rec

  abbrev c₀ : Forest Marked
  c₀ = forest m₀ (slot m₀ (index h)).kids

  pub stays : (e : Bool) → e ≡ false → Grown m₀ u m₀ (record { used = u; root = h }) (break_one e (tree_of m₀ h)) (u + size_t (tree_of m₀ h))
  stays e z =
      record { arena = p.arena; old = refl; more = omega arith; here = p.here; tree = sym (ap (λ x. break_one x (tree_of m₀ h)) z); room = omega arith }

  module _ (j w : ℕ) (kids m : List ℕ) (q : Going (each_of m₀ h) m₀ u h j w kids m) where
    pub break_more : (l : j < length (slot m₀ (index h)).kids) (k : ℕ) → k ≡ get_or (slot m (index h)).kids j 0 → (b : Bool) → b ≡ entering m (index h) j
        → (m' : List ℕ) → length m' ≡ length m → (r : At)
        → Grown m w m' r (break_one b (tree_of m k)) (w + size_t (tree_of m k)) → Going (each_of m₀ h) m₀ u h (j + 1) r.used (set kids j r.root) m'
    break_more l k e b eb =
        let asked : b ≡ q₀ j =
        (eb ∙ (λ i. enters (decode (same_slot p.arena p.here q.made i).rec) (known (same_kids p.arena p.here q.made i)) j)) in
        going_more m₀ u h p (each_of m₀ h) j w kids m q l k e (break_one b (tree_of m k))
        (ap (break_each (from q₀ j)) (split p.arena p.here q.made l e)
        ∙ ap₂ (λ x g. plant (break_one x (tree_of m k)) (break_each g (forest m₀ (drop (suc j) (slot m₀ (index h)).kids)))) (from_first q₀ j ∙ sym asked)
        (from_next q₀ j))

    -- all children are done
    module _ (n : ℕ) (e : n ≡ j) (c : n ≡ length (slot m₀ (index h)).kids) where
      pub break_puts : Puts m w (slot m (index h)).rec (take n kids)
      break_puts =
          let x = (view p.arena p.here).ok in let y = ok_fit (tree o (strip c₀) none) (x.0, x.1, tt) in
          going_puts m₀ u h p (each_of m₀ h) j w kids m q n e c refl (each_size q₀ c₀)
          ((kept_node {a = false} {b = true} {h = true} o o false false c₀ (break_each q₀ c₀) (like_refl o) y.0 (break_each_kept q₀ c₀ y.1)).ok refl x)

      broke : Broke m (index h) (take n kids) ≡ plan_with_order_breaking_variants (tree_of m₀ h)
      broke =
          (λ i. break_by (shape (decode (same_slot p.arena p.here q.made i).rec))
          (record { op = decode (same_slot p.arena p.here q.made i).rec; mark = true })
          (same_kids p.arena p.here q.made i) (news m₀ u h p (each_of m₀ h) j w kids m q n e c refl i))
          ∙ by_mark true (marked h) o c₀ (break_each q₀ c₀) (shape o)
          ∙ sym (ap (λ t. plan_with_order_breaking_variants (set_mark (marked h) t)) (view p.arena p.here).tree)

      pub break_end : (b : Bool) → b ≡ true → (m' : List ℕ) (r : At) → Grown m w m' r (Broke m (index h) (take n kids)) (w + 1)
          → Grown m₀ u m' r (break_one b (tree_of m₀ h)) (u + size_t (tree_of m₀ h))
      break_end b eb m' r g =
          going_end m₀ u h p (each_of m₀ h) j w kids m q n e c (break_one b (tree_of m₀ h)) m' r
          (grown_as (broke ∙ sym (ap (λ z. break_one z (tree_of m₀ h)) eb)) g)
