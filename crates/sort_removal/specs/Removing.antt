-- remove_corresponding_sort_from_sub_plan at one node, over the children that its connected children became.
use Rattle.std.specs.Prelude.{◌≡◌, refl, Bool, true, false, cond, not, ◌||◌, List, [], ◌∷◌, map, ℕ, suc, ◌+◌, ◌*◌, ◌≤◌, ◌<◌, eqb, length, get_or, Option}
use Rattle.std.proofs.Common.{sym, ap, ap₂, ◌∙◌, subst, arith, ne_eqb}
use Rattle.row_order.specs.Iso.{Key}
use Rattle.plan.specs.Forest.{Forest, none, tree, roots, size}
use Rattle.plan.specs.Op.{Op, source, filter, projection, union, repartition, coalesce, sort_op, merge_op, global_limit, local_limit, sort_merge_join, hash_join, output_requirement, partial_sort, aggregate}
use Rattle.plan.specs.Numbers.{code}
use Rattle.plan.specs.WellFormed.{node_ok}
use Rattle.plan_codec.specs.Decode.{from_bytes, decode}
use Rattle.plan_codec.specs.Encode.{encode}
use Rattle.plan_codec.proofs.OneRecord.{decode-encode}
use Rattle.plan_codec.specs.NodeRecord.{NodeRecord}
use Rattle.semantics.specs.Facts.{facts, is_nil}
use Rattle.semantics.specs.Properties.{remark, rebuilt, singles}
use Rattle.arena.specs.Arena.{slot_size, index, slot, Below}
use Rattle.arena.specs.declared.At.{At}
use Rattle.arena.specs.Laws.{below_at}
use Rattle.walks.specs.Marks.{Marked, Tree, strip, known, node, plant, op_t, set_mark, kid0, any_mark, a_merge, a_repartition, shape, rebuild}
use Rattle.walks.specs.Trees.{Ok, OkT, Fit, FitsA, arity, count}
use Rattle.walks.proofs.Theorems.Common.Trees.{ok_fit}
use Rattle.walks.proofs.Theorems.Common.Keeps.{KeepsAll, kept_node, like_refl, remark_like}
use Rattle.walks.specs.EnsureSorting.{connected_each, update_sort_ctx_children_data, loosen, updated_after_removal, remove_by, remove_top, remove_kids}
use Rattle.walks.proofs.Theorems.Ensure.Kept.{remove_kids_kept, strip_connected}
use Rattle.plan_context.specs.View.{tree_of, forest, most_nodes, most_slots, Arena, Grown, Puts}
use Rattle.plan_context.specs.Nodes.{Seen, counts_of}
use Rattle.plan_context.specs.Handles.{Marks, kid_is}
use Rattle.sort_connection.specs.Standing.{Standing, view, tree_is, own_over, own_proper, merge_op_lem, part_op, one_kid_lem}
use Rattle.sort_connection.specs.Connection.{Connected}
use Rattle.sort_removal.specs.Sizes.{kids_size, connected_size}

-- One root of remove_kids
abbrev pub remove_one : Bool → Tree → Tree
remove_one s t = cond t.top.mark (remove_top s t.top t.kids (remove_kids (singles (op_t t)) t.kids)) t

-- ---- a tree stays as 01's rules want it

pub one_ok : (s : Bool) (t : Tree) → OkT t → OkT (remove_one s t)
one_ok s t h =
    let f = ok_fit (tree (op_t t) (strip t.kids) none) (h.0, h.1, tt) in
    let k : KeepsAll true true true (plant t none) (remove_kids (λ i. s) (plant t none)) = remove_kids_kept (λ i. s) (plant t none) f in
    let z = k.ok refl (h.0, h.1, tt) in
    (z.0, z.1)

-- ---- a node over children with their marks put right

abbrev pub needs : Forest Marked → Bool
needs c = any_mark c || is_nil (roots c)

abbrev pub updated_by : Bool → Forest Marked → Forest Marked
updated_by x d = cond x (connected_each d) d

pub strip_updated : (x : Bool) (d : Forest Marked) → strip (updated_by x d) ≡ strip d
strip_updated true d = strip_connected d
strip_updated false d = refl

updated_by_size : (x : Bool) (d : Forest Marked) → size (updated_by x d) ≡ size d
updated_by_size true d = connected_size d
updated_by_size false d = refl

updated_is : (o : Op) (c d : Forest Marked) → updated_after_removal (record { op = o; mark = true }) c d ≡ node (rebuilt o (known d)) (not (needs c))
    (updated_by (needs c) d)
updated_is o c d = go (needs c)
  where
    go : (x : Bool) → cond x (update_sort_ctx_children_data false (rebuild o true d)) (rebuild o true d) ≡ node (rebuilt o (known d)) (not x) (updated_by x d)
    go true = refl
    go false = refl

remark_twice : (o : Op) (g : Bool → Bool) → remark (λ q. false) (remark g o) ≡ remark (λ q. false) o
remark_twice (source s) g = refl
remark_twice filter g = refl
remark_twice (projection cols) g = refl
remark_twice union g = refl
remark_twice (repartition p n h ks) g = refl
remark_twice (coalesce f) g = refl
remark_twice (sort_op p ks f) g = refl
remark_twice (merge_op ks f) g = refl
remark_twice (global_limit s f note) g = refl
remark_twice (local_limit f note) g = refl
remark_twice (sort_merge_join t on) g = refl
remark_twice (hash_join t on) g = refl
remark_twice (output_requirement ks d f) g = refl
remark_twice (partial_sort p ks n f) g = refl
remark_twice (aggregate ks n) g = refl

-- ---- kind by kind: y says whether the marks were put right

module _ (c d : Forest Marked) where
  abbrev e : Forest Marked
  e = updated_by (needs c) d

  known_is : known (updated_by (needs c) d) ≡ known d
  known_is = ap facts (strip_updated (needs c) d)

  again : (o : Op) → updated_after_removal (record { op = o; mark = true }) c d ≡ rebuild o (not (needs c)) (updated_by (needs c) d)
  again o = updated_is o c d ∙ ap (λ fs. node (rebuilt o fs) (not (needs c)) e) (sym known_is)

  by_merge : (ks : List Key) (f : Option ℕ) → remove_by (shape (merge_op ks f)) (record { op = merge_op ks f; mark = true }) c d ≡ set_mark (not (needs c))
      (kid0 (rebuild (merge_op ks f) (not (needs c)) (updated_by (needs c) d)) (updated_by (needs c) d))
  by_merge ks f = ap (loosen (a_merge ks f)) (again (merge_op ks f))

  by_repartition : (p : Bool) (n : ℕ) (q : Bool) (ks : List Key) → remove_by (shape (repartition p n q ks))
      (record { op = repartition p n q ks; mark = true }) c d ≡ node (remark (λ z. false) (repartition p n q ks)) (not (needs c)) (updated_by (needs c) d)
  by_repartition p n q ks = ap (loosen (a_repartition p n q ks)) (again (repartition p n q ks))

  by_other : (o : Op) → (code o ≡ 5 → ⊥) → (code o ≡ 7 → ⊥) → (code o ≡ 8 → ⊥) → remove_by (shape o) (record { op = o; mark = true }) c d ≡ rebuild o
      (not (needs c)) (updated_by (needs c) d)
  by_other (source s) x y z = again (source s)
  by_other filter x y z = again filter
  by_other (projection cols) x y z = again (projection cols)
  by_other union x y z = again union
  by_other (repartition p n q ks) x y z = absurd (x refl)
  by_other (coalesce g) x y z = again (coalesce g)
  by_other (sort_op p ks g) x y z = absurd (y refl)
  by_other (merge_op ks g) x y z = absurd (z refl)
  by_other (global_limit s g note) x y z = again (global_limit s g note)
  by_other (local_limit g note) x y z = again (local_limit g note)
  by_other (sort_merge_join t on) x y z = again (sort_merge_join t on)
  by_other (hash_join t on) x y z = again (hash_join t on)
  by_other (output_requirement ks v g) x y z = again (output_requirement ks v g)
  by_other (partial_sort p ks n g) x y z = again (partial_sort p ks n g)
  by_other (aggregate ks n) x y z = again (aggregate ks n)

-- ---- the node at h, not a sort, over the children that became ks

-- before their marks are put right
pub record Rems (b : List ℕ) (w h : ℕ) (ks : List ℕ) : Type 0 where
  pub arena : Arena b w
  pub here : h < 2 * w
  pub room : (w + 1) * slot_size ≤ length b
  pub small : w < most_slots
  pub below : Below (2 * w) ks
  pub is : forest b ks ≡ remove_kids (singles (decode (slot b (index h)).rec)) (forest b (slot b (index h)).kids)
  pub count : length ks ≡ length (slot b (index h)).kids
  pub few : 2 * suc (size (forest b (slot b (index h)).kids)) ≤ most_nodes

-- after
pub record Overs (b : List ℕ) (w h : ℕ) (ks : List ℕ) (q : Bool) : Type 0 where
  pub arena : Arena b w
  pub here : h < 2 * w
  pub room : (w + 1) * slot_size ≤ length b
  pub small : w < most_slots
  pub below : Below (2 * w) ks
  pub is : forest b ks ≡ updated_by (needs (forest b (slot b (index h)).kids))
      (remove_kids (singles (decode (slot b (index h)).rec)) (forest b (slot b (index h)).kids))
  pub asked : q ≡ needs (forest b (slot b (index h)).kids)
  pub count : length ks ≡ length (slot b (index h)).kids
  pub few : 2 * suc (size (forest b (slot b (index h)).kids)) ≤ most_nodes

-- what it becomes
abbrev pub Removed : List ℕ → ℕ → Tree
Removed b h = remove_by (shape (decode (slot b (index h)).rec)) (record { op = decode (slot b (index h)).rec; mark = true })
    (forest b (slot b (index h)).kids) (remove_kids (singles (decode (slot b (index h)).rec)) (forest b (slot b (index h)).kids))

pub roots-none : (m hs : List ℕ) → is_nil (roots (forest m hs)) ≡ eqb (length hs) 0
unfolding forest
roots-none m [] = refl
roots-none m (h ∷ hs) = sym (ne_eqb (suc (length hs)) 0 (λ e. absurd (omega arith)))

module _ (b : List ℕ) (w h : ℕ) (ks : List ℕ) (p : Rems b w h ks) where
  abbrev c₁ : Forest Marked
  c₁ = forest b (slot b (index h)).kids

  pub rems_at : Standing b w h
  rems_at = record { arena = p.arena; here = p.here }

  pub asks : (x : Bool) → x ≡ any_mark (tree_of b h).kids → (n : ℕ) → n ≡ length ks → (x || eqb n 0) ≡ needs (forest b (slot b (index h)).kids)
  asks x e n l = ap₂ ◌||◌ (e ∙ ap (λ t. any_mark t.kids) (tree_is b w h rems_at))
      (ap (λ k. eqb k 0) (l ∙ p.count) ∙ sym (roots-none b (slot b (index h)).kids))

  pub update_none : (x : Bool) → x ≡ needs (forest b (slot b (index h)).kids) → x ≡ false → Overs b w h ks false
  update_none x e z =
      record {
        arena = p.arena;
        here = p.here;
        room = p.room;
        small = p.small;
        below = p.below;
        is = p.is ∙ ap (λ y. updated_by y (remove_kids (singles (decode (slot b (index h)).rec)) c₁)) (sym (sym e ∙ z));
        asked = sym z ∙ e;
        count = p.count;
        few = p.few;
      }

  pub update_all : (x : Bool) → x ≡ needs (forest b (slot b (index h)).kids) → x ≡ true → (ks' : List ℕ) → Connected b w ks ks' → Overs b w h ks' true
  update_all x e z ks' k =
      record {
        arena = p.arena;
        here = p.here;
        room = p.room;
        small = p.small;
        below = k.below;
        is = k.is ∙ ap connected_each p.is ∙ ap (λ y. updated_by y (remove_kids (singles (decode (slot b (index h)).rec)) c₁)) (sym (sym e ∙ z));
        asked = sym z ∙ e;
        count = k.count ∙ p.count;
        few = p.few;
      }

-- a handle with another mark
pub marked_grown : (b : List ℕ) (w : ℕ) (b' : List ℕ) (a : At) (t : Tree) (top : ℕ) → Grown b w b' a t top → (y : Bool) (r : ℕ) → Marks a.root y r
    → Grown b w b' (record { used = a.used; root = r }) (set_mark y t) top
marked_grown b w b' a t top g y r m =
    let h = g.here in let s = m.slot in
    record { arena = g.arena; old = g.old; more = g.more; here = omega arith; tree = m.tree b' ∙ ap (set_mark y) g.tree; room = g.room }

module _ (b : List ℕ) (w h : ℕ) (ks : List ℕ) (q : Bool) (p : Overs b w h ks q) where
  abbrev c : Forest Marked
  c = forest b (slot b (index h)).kids

  abbrev o : Op
  o = decode (slot b (index h)).rec

  abbrev d : Forest Marked
  d = remove_kids (singles o) c

  pub overs_at : Standing b w h
  overs_at = record { arena = p.arena; here = p.here }

  shown : Seen b (index h)
  shown = view b w h overs_at

  fit : FitsA (arity o) (count (strip c)) × Fit (strip c)
  fit = let x = shown.ok in let y = ok_fit (tree o (strip c) none) (x.0, x.1, tt) in (y.0, y.1)

  same-strip : strip (forest b ks) ≡ strip (remove_kids (singles (decode (slot b (index h)).rec)) (forest b (slot b (index h)).kids))
  same-strip = ap strip p.is ∙ strip_updated (needs c) d

  open_ok : OkT (node (decode (slot b (index h)).rec) false (forest b ks))
  open_ok =
      let k : OkT (node o false d) = (kept_node {a = true} {b = true} {h = true} o o false false c d (like_refl o) fit.0
      (remove_kids_kept (singles o) c fit.1)).ok refl shown.ok in
      subst (λ g. (node_ok o (map (λ F. F.width) (facts g)) ≡ true) × Ok g) (sym same-strip) k

  sized : size (forest b ks) ≤ 2 * size (forest b (slot b (index h)).kids)
  sized = let x = ap size p.is ∙ updated_by_size (needs c) d in let y = kids_size (singles o) c in omega arith

  canon : (slot b (index h)).rec ≡ encode (length ks) (decode (slot b (index h)).rec)
  canon = shown.canon ∙ ap (λ n. encode n o) (sym p.count)

  half : index h < w
  half = let l = p.here in omega arith

  pub overs_puts : (r : List ℕ) → r ≡ (slot b (index h)).rec → Puts b w r ks × (index h < w)
  overs_puts r e =
      let x = sized in let y = p.few in (
        subst (λ z. Puts b w z ks) (sym e) (record {
          arena = p.arena;
          room = p.room;
          small = p.small;
          below = p.below;
          canon = canon;
          ok = open_ok;
          few = omega arith;
        }),
        half,
      )

  -- any other kind
  pub other_grown : (code (decode (slot b (index h)).rec) ≡ 5 → ⊥) → (code (decode (slot b (index h)).rec) ≡ 7 → ⊥)
      → (code (decode (slot b (index h)).rec) ≡ 8 → ⊥)
      → (r : List ℕ) → r ≡ (slot b (index h)).rec → (b' : List ℕ) (a : At) → Grown b w b' a (rebuild (decode r) false (forest b ks)) (w + 1)
      → (y : Bool) → y ≡ not q → (k : ℕ) → Marks a.root y k → Grown b w b' (record { used = a.used; root = k }) (Removed b h) (w + 1)
  other_grown x v z r f b' a g y e k m =
      subst (λ t. Grown b w b' (record { used = a.used; root = k }) t (w + 1))
      (ap₂ (λ k f. rebuild o k f) (e ∙ ap not p.asked) p.is ∙ sym (by_other c d o x v z))
      (marked_grown b w b' a (rebuild o false (forest b ks)) (w + 1) (subst (λ s. Grown b w b' a (rebuild (decode s) false (forest b ks)) (w + 1)) f g) y k
      m)

  -- a merge
  module _ (e : code (decode (slot b (index h)).rec) ≡ 8) where
    abbrev x : NodeRecord
    x = from_bytes (slot b (index h)).rec

    merges : decode (slot b (index h)).rec ≡ merge_op (from_bytes (slot b (index h)).rec).keys (from_bytes (slot b (index h)).rec).fetch
    merges = merge_op_lem (slot b (index h)).rec (own_proper b w h overs_at (slot b (index h)).rec refl) e

    pub merge_some : 0 < length ks
    merge_some = let l = one_kid_lem b (slot b (index h)).rec (slot b (index h)).kids (own_over b w h overs_at) (merge_op x.keys x.fetch) merges
        (λ n. refl) in let n = p.count in omega arith

    pub merge_small : get_or ks 0 0 < 65536
    merge_small = let y = below_at (2 * w) ks 0 p.below merge_some in let s = p.small in omega arith

    pub merge_grown : (y : Bool) → y ≡ not q → (k : ℕ) → Marks (get_or ks 0 0) y k → Grown b w b (record { used = w; root = k }) (Removed b h) (w + 1)
    merge_grown y z k m =
        let v = below_at (2 * w) ks 0 p.below merge_some in let s = m.slot in
        record {
          arena = p.arena;
          old = refl;
          more = omega arith;
          here = omega arith;
          tree = m.tree b
              ∙ ap₂ set_mark (z ∙ ap not p.asked) (kid_is b ks (rebuild (merge_op x.keys x.fetch) (not (needs c)) (updated_by (needs c) d)) merge_some
              ∙ ap (kid0 (rebuild (merge_op x.keys x.fetch) (not (needs c)) (updated_by (needs c) d))) p.is)
              ∙ sym (ap (λ k. remove_by (shape k) (record { op = k; mark = true }) c d) merges ∙ by_merge c d x.keys x.fetch);
          room = omega arith;
        }

  -- a repartition: x is its record without the mark
  module _ (e : code (decode (slot b (index h)).rec) ≡ 5) (r : List ℕ) (f : r ≡ (slot b (index h)).rec) (x : List ℕ)
      (hx : (n : ℕ) → r ≡ encode n (decode r) → x ≡ encode n (remark (λ z. false) (decode r))) where
    abbrev v : NodeRecord
    v = from_bytes (slot b (index h)).rec

    parts : decode (slot b (index h)).rec ≡ repartition (from_bytes (slot b (index h)).rec).preserve (from_bytes (slot b (index h)).rec).streams
        (from_bytes (slot b (index h)).rec).hash (from_bytes (slot b (index h)).rec).keys
    parts = part_op (slot b (index h)).rec (own_proper b w h overs_at (slot b (index h)).rec refl) e

    bytes : x ≡ encode (length ks) (remark (λ z. false) (decode (slot b (index h)).rec))
    bytes = hx (length ks) (subst (λ y. y ≡ encode (length ks) (decode y)) (sym f) canon) ∙ ap (λ y. encode (length ks) (remark (λ z. false) (decode y))) f

    rule : node_ok (remark (λ z. false) o) (map (λ F. F.width) (known (forest b ks))) ≡ true
    rule = (remark_like (λ z. false) o).ok (map (λ F. F.width) (known (forest b ks))) open_ok.0

    decoded : decode x ≡ remark (λ z. false) (decode (slot b (index h)).rec)
    decoded = ap decode bytes ∙ decode-encode (length ks) (remark (λ z. false) o) (counts_of (remark (λ z. false) o) (known (forest b ks)) rule).fields

    pub part_puts : Puts b w x ks × (index h < w)
    part_puts =
        let y = sized in let z = p.few in (
          record {
            arena = p.arena;
            room = p.room;
            small = p.small;
            below = p.below;
            canon = bytes ∙ ap (encode (length ks)) (sym decoded);
            ok = subst (λ t. OkT (node t false (forest b ks))) (sym decoded) (rule, open_ok.1);
            few = omega arith;
          },
          half,
        )

    pub part_grown : (b' : List ℕ) (a : At) → Grown b w b' a (node (decode x) false (forest b ks)) (w + 1) → (y : Bool) → y ≡ not q → (k : ℕ)
        → Marks a.root y k → Grown b w b' (record { used = a.used; root = k }) (Removed b h) (w + 1)
    part_grown b' a g y z k m =
        subst (λ t. Grown b w b' (record { used = a.used; root = k }) t (w + 1))
        (ap (λ t. node t y (forest b ks)) decoded ∙ ap₂ (λ k f. node (remark (λ z. false) o) k f) (z ∙ ap not p.asked) p.is
        ∙ ap (λ k. node (remark (λ z. false) k) (not (needs c)) (updated_by (needs c) d)) parts
        ∙ sym (ap (λ k. remove_by (shape k) (record { op = k; mark = true }) c d) parts ∙ by_repartition c d v.preserve v.streams v.hash v.keys))
        (marked_grown b w b' a (node (decode x) false (forest b ks)) (w + 1) g y k m)
