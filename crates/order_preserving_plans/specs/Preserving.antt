-- plan_with_order_preserving_variants in the arena.
use Rattle.std.specs.Prelude.{◌≡◌, refl, Bool, true, false, cond, not, ◌&&◌, List, [], ◌∷◌, ℕ, zero, suc, ◌+◌, ◌≤◌, ◌<◌, eqb, length, get_or, take, set, Option, Some, None, is_some}
use Rattle.std.proofs.Common.{sym, ap, ap₂, ◌∙◌, subst, arith}
use Rattle.row_order.specs.Iso.{Key}
use Rattle.row_order.proofs.Order.{no_bool}
use Rattle.plan.specs.Forest.{Forest, none, tree, size}
use Rattle.plan.specs.Op.{Op, repartition, coalesce, merge_op}
use Rattle.plan.specs.Numbers.{code}
use Rattle.plan.specs.WellFormed.{fetch_ok}
use Rattle.plan_codec.specs.Decode.{decode}
use Rattle.plan_codec.specs.Encode.{encode}
use Rattle.semantics.specs.Facts.{at0, is_nil, keeps_order, known_order}
use Rattle.semantics.specs.Properties.{maintains, cuts, remark, is_all}
use Rattle.key_lists.specs.Keys.{keys_in, keys_of, order_of, Real, Ordered}
use Rattle.key_lists.specs.declared.Keys.{Keys}
use Rattle.asked_facts.specs.Asked.{told}
use Rattle.arena.specs.Arena.{index, marked, slot}
use Rattle.arena.specs.declared.At.{At}
use Rattle.walks.specs.Marks.{Marked, Tree, strip, known, at, node, op_t, fact, size_t, set_mark, Shape, a_sort, a_merge, a_repartition, a_coalesce, another, shape, rebuild}
use Rattle.walks.specs.Trees.{OkT, Fit, FitsA, arity, count}
use Rattle.walks.proofs.Theorems.Common.Trees.{ok_fit}
use Rattle.walks.proofs.Theorems.Common.Keeps.{KeepsAll, kept_node, like_refl}
use Rattle.walks.specs.OrderPreserving.{mark_first, merge_over, preserve_by, preserve_each, plan_with_order_preserving_variants}
use Rattle.walks.proofs.Theorems.Preserve.Kept.{preserve_by_kept, preserve_each_kept}
use Rattle.plan_context.specs.View.{tree_of, forest, Grown, Puts}
use Rattle.plan_context.specs.Laws.{facts_at}
use Rattle.plan_context.specs.Facts.{Tells}
use Rattle.plan_context.specs.Handles.{Marks}
use Rattle.order_preservation_marks.specs.Kinds.{op_ind, treated_6}
use Rattle.order_preservation_marks.specs.Marking.{is_fetched_coalesce, nothing_left}
use Rattle.plan_updates.specs.ChildLoop.{view, same_slot, same_kids, split}
use Rattle.order_preservation_marks.specs.Entering.{Enters, Going, going_next, going_more, news, going_puts, going_end}
use Rattle.order_preservation_marks.specs.Replacing.{grown_as, first_size, single, remark_ok, replaced_puts, replaced_grown, rebuilt_grown, one_child}
use Rattle.walks.proofs.Theorems.Calls.Counts.{cond_le}

-- ---- kinds

-- A repartition o over c, whose children became d
abbrev pub preserved_repartition : Bool → Op → Forest Marked → Forest Marked → Tree
preserved_repartition spr o c d = cond (not (maintains o (known c) 0) && spr) (rebuild (remark (λ p. true) o) false (mark_first true d)) (rebuild o false d)

module _ (spr spm : Bool) (f : Option ℕ) (x : Bool) (c d : Forest Marked) where
  abbrev Variant : Op → Tree
  Variant o = preserve_by (shape o) spr spm f (record { op = o; mark = x }) c d

  pub by_repartition : (o : Op) → eqb (code o) 5 ≡ true → preserve_by (shape o) spr spm f (record { op = o; mark = x }) c d ≡ preserved_repartition spr o c d
  by_repartition =
      op_ind (λ o. eqb (code o) 5 ≡ true → Variant o ≡ preserved_repartition spr o c d) (λ p ks g e. no_bool e) (λ ks g e. no_bool e) (λ p n h ks e. refl)
      (λ g e. no_bool e)
      (λ o a e. no_bool (sym a.1 ∙ e))

  by_fetched : (o : Op) → is_fetched_coalesce o ≡ true → preserve_by (shape o) spr spm f (record { op = o; mark = x }) c d ≡ node o false c
  by_fetched =
      op_ind (λ o. is_fetched_coalesce o ≡ true → Variant o ≡ node o false c) (λ p ks g e. no_bool e) (λ ks g e. no_bool e) (λ p n h ks e. no_bool e) fetched
      (λ o a e. no_bool (ap (λ y. y && is_some (cuts o).fetch) (sym a.2) ∙ e))
    where
      fetched : (g : Option ℕ) → is_fetched_coalesce (coalesce g) ≡ true → Variant (coalesce g) ≡ node (coalesce g) false c
      fetched None e = no_bool e
      fetched (Some n) e = refl

  pub by_coalesce : (o : Op) → eqb (code o) 6 ≡ true → is_fetched_coalesce o ≡ false → preserve_by (shape o) spr spm f (record { op = o; mark = x }) c d
      ≡ merge_over spm f (record { op = o; mark = true }) d
  by_coalesce =
      op_ind (λ o. eqb (code o) 6 ≡ true → is_fetched_coalesce o ≡ false → Variant o ≡ merge_over spm f (record { op = o; mark = true }) d)
      (λ p ks g e. no_bool e)
      (λ ks g e. no_bool e) (λ p n h ks e. no_bool e) plain
      (λ o a e. no_bool (sym a.2 ∙ e))
    where
      plain : (g : Option ℕ) → eqb (code (coalesce g)) 6 ≡ true → is_fetched_coalesce (coalesce g) ≡ false → Variant (coalesce g)
          ≡ merge_over spm f (record { op = coalesce g; mark = true }) d
      plain None e q = refl
      plain (Some n) e q = no_bool (sym q)

  pub by_other : (o : Op) → eqb (code o) 5 ≡ false → eqb (code o) 6 ≡ false → preserve_by (shape o) spr spm f (record { op = o; mark = x }) c d
      ≡ rebuild o false d
  by_other =
      op_ind (λ o. eqb (code o) 5 ≡ false → eqb (code o) 6 ≡ false → Variant o ≡ rebuild o false d) (λ p ks g e q. refl) (λ ks g e q. refl)
      (λ p n h ks e q. no_bool (sym e)) (λ g e q. no_bool (sym q))
      (λ o a e q. ap (λ s. preserve_by s spr spm f (record { op = o; mark = x }) c d) a.0)

-- the node's own mark does not matter
by_mark : (spr spm : Bool) (f : Option ℕ) (x y : Bool) (o : Op) (c d : Forest Marked) (s : Shape) → preserve_by s spr spm f (record { op = o; mark = x }) c d
    ≡ preserve_by s spr spm f (record { op = o; mark = y }) c d
by_mark spr spm f x y o c d (a_sort p ks g) = refl
by_mark spr spm f x y o c d (a_merge ks g) = refl
by_mark spr spm f x y o c d (a_repartition p n h ks) = refl
by_mark spr spm f x y o c d (a_coalesce None) = refl
by_mark spr spm f x y o c d (a_coalesce (Some n)) = refl
by_mark spr spm f x y o c d another = refl

-- ---- sizes: nothing is added

by_size : (s : Shape) (spr spm : Bool) (f : Option ℕ) (m : Marked) (c d : Forest Marked) → size d ≤ size c → size_t (preserve_by s spr spm f m c d) ≤ suc
    (size c)
by_size (a_sort p ks g) spr spm f m c d h = omega arith
by_size (a_merge ks g) spr spm f m c d h = omega arith
by_size (a_repartition p n q ks) spr spm f m c d h =
    let x = first_size true d in
    cond_le (suc (size c)) (not (keeps_order p (at0 (known c))) && spr) (rebuild (repartition true n q ks) false (mark_first true d))
    (rebuild m.op false d)
    (omega arith) (omega arith)
by_size (a_coalesce None) spr spm f m c d h =
    let x = first_size true d in
    cond_le (suc (size c)) (spm && not (is_nil (known_order (at0 (known d))))) (node (merge_op (known_order (at0 (known d))) f) false (mark_first true d))
    (rebuild m.op false d) (omega arith) (omega arith)
by_size (a_coalesce (Some n)) spr spm f m c d h = omega arith
by_size another spr spm f m c d h = omega arith

each_size : (spr spm : Bool) (f : Option ℕ) (c : Forest Marked) → size (preserve_each spr spm f c) ≤ size c
each_size spr spm f none = omega arith
each_size spr spm f (tree m c r) =
    let x = cond_le (suc (size c)) m.mark (preserve_by (shape m.op) spr spm f m c (preserve_each spr spm f c)) (at m c)
    (by_size (shape m.op) spr spm f m c (preserve_each spr spm f c) (each_size spr spm f c)) (omega arith) in
    let y = each_size spr spm f r in omega arith

-- ---- a repartition

module _ (m : List ℕ) (w i : ℕ) (r ks : List ℕ) (p : Puts m w r ks) (h : i < w) (er : r ≡ (slot m i).rec) (e : eqb (code (decode r)) 5 ≡ true)
    (spr b : Bool) (hb : b ≡ maintains (decode (slot m i).rec) (known (forest m (slot m i).kids)) 0) where
  abbrev d : Forest Marked
  d = forest m ks

  tests : (y : Bool) → not b && spr ≡ y
      → cond y (rebuild (remark (λ q. true) (decode r)) false (mark_first true (forest m ks))) (rebuild (decode r) false (forest m ks))
      ≡ preserved_repartition spr (decode r) (forest m (slot m i).kids) (forest m ks)
  tests y q =
      ap (λ z. cond z (rebuild (remark (λ q. true) (decode r)) false (mark_first true d)) (rebuild (decode r) false d))
      (sym q ∙ ap (λ z. not z && spr) (hb ∙ ap (λ z. maintains (decode z) (known (forest m (slot m i).kids)) 0) (sym er)))

  pub repartition_kept : not b && spr ≡ false → (m' : List ℕ) (a : At) → Grown m w m' a (rebuild (decode r) false (forest m ks)) (w + 1)
      → Grown m w m' a (preserved_repartition spr (decode r) (forest m (slot m i).kids) (forest m ks)) (w + 1)
  repartition_kept q m' a g = grown_as (tests false q) g

  module _ (x : List ℕ) (hx : (n : ℕ) → r ≡ encode n (decode r) → x ≡ encode n (remark (λ q. true) (decode r))) (k : ℕ)
      (hk : Marks (get_or ks 0 0) true k) where
    alone : length ks ≡ 1
    alone = one_child m w i r ks p h er e

    new_record : x ≡ encode 1 (remark (λ q. true) (decode r))
    new_record = hx 1 (p.canon ∙ ap (λ n. encode n (decode r)) alone)

    pub repartition_puts : Puts m w x (k ∷ [])
    repartition_puts =
        replaced_puts m w r ks p alone true k hk (remark (λ q. true) (decode r)) x new_record (remark_ok m w r ks p alone true (λ q. true))

    pub repartition-marked : not b && spr ≡ true → (m' : List ℕ) (a : At) → Grown m w m' a (rebuild (decode x) false (forest m (k ∷ []))) (w + 1)
        → Grown m w m' a (preserved_repartition spr (decode r) (forest m (slot m i).kids) (forest m ks)) (w + 1)
    repartition-marked q m' a g =
        grown_as (tests true q)
        (rebuilt_grown m w r ks p alone true k hk (remark (λ q. true) (decode r)) x new_record (remark_ok m w r ks p alone true (λ q. true)) m'
        a (w + 1) g)

-- ---- a coalesce

pub order_few : (ks : List Key) (v : Option Keys) (k : Keys) → Ordered ks v → v ≡ Some k → k.len ≤ 8
order_few ks v k q z = (subst Real z q.real).1

module _ (m : List ℕ) (w : ℕ) (r ks : List ℕ) (p : Puts m w r ks) (e : eqb (code (decode r)) 6 ≡ true) (spm : Bool) (f : Option ℕ) where
  pub one_below : length ks ≡ 1
  one_below = single m w r ks p (treated_6 (decode r) e)

  -- a merge is not better
  pub coalesce-plain : spm ≡ false → (m' : List ℕ) (a : At) → Grown m w m' a (rebuild (decode r) false (forest m ks)) (w + 1)
      → Grown m w m' a (merge_over spm f (record { op = decode r; mark = true }) (forest m ks)) (w + 1)
  coalesce-plain q m' a g = subst (λ z. Grown m w m' a (merge_over z f (record { op = decode r; mark = true }) (forest m ks)) (w + 1)) (sym q) g

  -- b: the row of the child
  module _ (k : ℕ) (hk : k ≡ get_or ks 0 0) (b : List ℕ) (t : Tells (tree_of m k) b) where
    order_is : known_order (told b) ≡ known_order (at0 (known (forest m ks)))
    order_is = let l = one_below in ap known_order (t.is ∙ ap (λ z. fact (tree_of m z)) hk ∙ sym (facts_at m ks 0 (omega arith)))

    by_order : (l : List Key) → l ≡ known_order (at0 (known (forest m ks)))
        → cond (spm && not (is_nil l)) (node (merge_op l f) false (mark_first true (forest m ks))) (rebuild (decode r) false (forest m ks))
        ≡ merge_over spm f (record { op = decode r; mark = true }) (forest m ks)
    by_order l q = ap (λ z. cond (spm && not (is_nil z)) (node (merge_op z f) false (mark_first true (forest m ks))) (rebuild (decode r) false (forest m ks)))
        q

    -- the child has no order
    pub coalesce_unordered : (v : Option Keys) → Ordered (known_order (told b)) v → v ≡ None → (m' : List ℕ) (a : At)
        → Grown m w m' a (rebuild (decode r) false (forest m ks)) (w + 1)
        → Grown m w m' a (merge_over spm f (record { op = decode r; mark = true }) (forest m ks)) (w + 1)
    coalesce_unordered v q z m' a g =
        grown_as
        (sym (ap (λ z. cond z (node (merge_op [] f) false (mark_first true (forest m ks))) (rebuild (decode r) false (forest m ks))) (nothing_left spm))
        ∙ by_order [] (ap order_of (sym z) ∙ q.is ∙ order_is)) g

    module _ (v : Option Keys) (q : Ordered (known_order (told b)) v) (keys : Keys) (z : v ≡ Some keys) (s : spm ≡ true)
        (ok : OkT (merge_over spm f (record { op = decode r; mark = true }) (forest m ks)))
        (x : List ℕ) (hx : x ≡ encode 1 (merge_op (keys_of keys) f)) (h : ℕ) (hh : Marks k true h) where
      some : (n v : ℕ) → 0 < n → not (is_nil (keys_in n v)) ≡ true
      some zero v l = absurd (omega arith)
      some (suc n) v l = refl

      merged : node (merge_op (keys_of keys) f) false (mark_first true (forest m ks)) ≡ merge_over spm f (record { op = decode r; mark = true }) (forest m ks)
      merged =
          sym (ap₂ (λ z y. cond (z && y) (node (merge_op (keys_of keys) f) false (mark_first true (forest m ks))) (rebuild (decode r) false (forest m ks))) s
          (some keys.len keys.word (subst Real z q.real).0))
          ∙ by_order (keys_of keys) (ap order_of (sym z) ∙ q.is ∙ order_is)

      marks : Marks (get_or ks 0 0) true h
      marks = subst (λ z. Marks z true h) hk hh

      merged_ok : OkT (node (merge_op (keys_of keys) f) false (mark_first true (forest m ks)))
      merged_ok = subst OkT (sym merged) ok

      pub merge_puts : Puts m w x (h ∷ [])
      merge_puts = replaced_puts m w r ks p one_below true h marks (merge_op (keys_of keys) f) x hx merged_ok

      pub merge_grown : (m' : List ℕ) (a : At) → Grown m w m' a (node (decode x) false (forest m (h ∷ []))) (w + 1)
          → Grown m w m' a (merge_over spm f (record { op = decode r; mark = true }) (forest m ks)) (w + 1)
      merge_grown m' a g =
          grown_as merged (replaced_grown m w r ks p one_below true h marks (merge_op (keys_of keys) f) x hx merged_ok m' a (w + 1) g)

-- ---- any node

abbrev pub Became : List ℕ → ℕ → List ℕ → Bool → Bool → Option ℕ → Tree
Became m i ks spr spm f =
    preserve_by (shape (decode (slot m i).rec)) spr spm f (record { op = decode (slot m i).rec; mark = true }) (forest m (slot m i).kids) (forest m ks)

-- One root of preserve_each
abbrev pub preserve_one : Bool → Bool → Option ℕ → Tree → Tree
preserve_one spr spm f t = cond t.top.mark (plan_with_order_preserving_variants spr spm f t) t

-- ---- the recursion

pub record Preserves (m : List ℕ) (u h : ℕ) (f : Option ℕ) : Type 0 where
  pub enters : Enters m u h
  pub fetch : fetch_ok f ≡ true

-- What children become, from any number on
abbrev pub each_of : Bool → Bool → Option ℕ → ℕ → Forest Marked → Forest Marked
each_of spr spm f j c = preserve_each spr spm f c

module _ (m₀ : List ℕ) (u h : ℕ) (spr spm : Bool) (f : Option ℕ) (p : Preserves m₀ u h f) where
  abbrev E : Enters m₀ u h
  E = p.enters

  abbrev o : Op
  o = decode (slot m₀ (index h)).rec

  abbrev c₀ : Forest Marked
  c₀ = forest m₀ (slot m₀ (index h)).kids

  -- an unmarked node stays
  pub unmarked : marked h ≡ false → Grown m₀ u m₀ (record { used = u; root = h }) (preserve_one spr spm f (tree_of m₀ h)) (u + size_t (tree_of m₀ h))
  unmarked z =
      record {
        arena = E.arena;
        old = refl;
        more = omega arith;
        here = E.here;
        tree = sym (ap (λ x. cond x (plan_with_order_preserving_variants spr spm f (tree_of m₀ h)) (tree_of m₀ h)) z);
        room = omega arith;
      }

  -- a marked one
  now : marked h ≡ true → preserve_one spr spm f (tree_of m₀ h)
      ≡ preserve_by (shape (decode (slot m₀ (index h)).rec)) spr spm f (record { op = decode (slot m₀ (index h)).rec; mark = true })
      (forest m₀ (slot m₀ (index h)).kids) (preserve_each spr spm f (forest m₀ (slot m₀ (index h)).kids))
  now z = ap₂ (λ x s. preserve_one spr spm f (set_mark x s)) z (view E.arena E.here).tree

  -- a fetched coalesce stays too, unmarked
  pub fetched_stays : marked h ≡ true → is_fetched_coalesce (decode (slot m₀ (index h)).rec) ≡ true → (r : ℕ) → Marks h false r
      → Grown m₀ u m₀ (record { used = u; root = r }) (preserve_one spr spm f (tree_of m₀ h)) (u + size_t (tree_of m₀ h))
  fetched_stays z e r k =
      let s = k.slot in let l = E.here in
      record {
        arena = E.arena;
        old = refl;
        more = omega arith;
        here = omega arith;
        tree = k.tree m₀ ∙ ap (set_mark false) (view E.arena E.here).tree ∙ sym (by_fetched spr spm f true c₀ (preserve_each spr spm f c₀) o e)
            ∙ sym (now z);
        room = omega arith;
      }

  module _ (j w : ℕ) (kids m : List ℕ) (q : Going (each_of spr spm f) m₀ u h j w kids m) where
    pub preserve_next : (l : j < length (slot m₀ (index h)).kids) (k : ℕ) → k ≡ get_or (slot m (index h)).kids j 0
        → (size_t (tree_of m k) < size_t (tree_of m₀ h)) × Preserves m w k f
    preserve_next l k e = let x = going_next m₀ u h E (each_of spr spm f) j w kids m q l k e in (x.0, record { enters = x.1; fetch = p.fetch })

    pub preserve_more : (l : j < length (slot m₀ (index h)).kids) (k : ℕ) → k ≡ get_or (slot m (index h)).kids j 0 → (m' : List ℕ) → length m' ≡ length m
        → (r : At)
        → Grown m w m' r (preserve_one spr spm f (tree_of m k)) (w + size_t (tree_of m k))
        → Going (each_of spr spm f) m₀ u h (j + 1) r.used (set kids j r.root) m'
    preserve_more l k e =
        going_more m₀ u h E (each_of spr spm f) j w kids m q l k e (preserve_one spr spm f (tree_of m k))
        (ap (preserve_each spr spm f) (split E.arena E.here q.made l e))

    -- all children are done
    module _ (n : ℕ) (e : n ≡ j) (c : n ≡ length (slot m₀ (index h)).kids) where
      fit : FitsA (arity (decode (slot m₀ (index h)).rec)) (count (strip (forest m₀ (slot m₀ (index h)).kids)))
          × Fit (strip (forest m₀ (slot m₀ (index h)).kids))
      fit = let x = (view E.arena E.here).ok in let y = ok_fit (tree o (strip c₀) none) (x.0, x.1, tt) in (y.0, y.1)

      all_kept : KeepsAll false (is_all f) (fetch_ok f) (forest m₀ (slot m₀ (index h)).kids) (preserve_each spr spm f (forest m₀ (slot m₀ (index h)).kids))
      all_kept = preserve_each_kept spr spm f c₀ fit.1

      pub preserve_puts : Puts m w (slot m (index h)).rec (take n kids)
      preserve_puts =
          going_puts m₀ u h E (each_of spr spm f) j w kids m q n e c refl (each_size spr spm f c₀)
          ((kept_node {a = false} {b = is_all f} {h = fetch_ok f} o o false false c₀ (preserve_each spr spm f c₀) (like_refl o) fit.0 all_kept).ok p.fetch
          (view E.arena E.here).ok)

      became : Became m (index h) (take n kids) spr spm f
          ≡ preserve_by (shape (decode (slot m₀ (index h)).rec)) spr spm f (record { op = decode (slot m₀ (index h)).rec; mark = true })
          (forest m₀ (slot m₀ (index h)).kids) (preserve_each spr spm f (forest m₀ (slot m₀ (index h)).kids))
      became =
          λ i. preserve_by (shape (decode (same_slot E.arena E.here q.made i).rec)) spr spm f
          (record { op = decode (same_slot E.arena E.here q.made i).rec; mark = true })
          (same_kids E.arena E.here q.made i) (news m₀ u h E (each_of spr spm f) j w kids m q n e c refl i)

      pub preserve_ok : OkT (Became m (index h) (take n kids) spr spm f)
      preserve_ok =
          subst OkT (sym became) ((preserve_by_kept spr spm f true c₀ (preserve_each spr spm f c₀) o fit.0 fit.1 all_kept).ok p.fetch
          (view E.arena E.here).ok)

      pub preserve_plain : (b : Bool) → b ≡ is_fetched_coalesce (decode (slot m₀ (index h)).rec) → b ≡ false
          → is_fetched_coalesce (decode (slot m (index h)).rec) ≡ false
      preserve_plain b x y = ap (λ z. is_fetched_coalesce (decode z.rec)) (same_slot E.arena E.here q.made) ∙ sym x ∙ y

      pub preserve_end : marked h ≡ true → (m' : List ℕ) (r : At) → Grown m w m' r (Became m (index h) (take n kids) spr spm f) (w + 1)
          → Grown m₀ u m' r (preserve_one spr spm f (tree_of m₀ h)) (u + size_t (tree_of m₀ h))
      preserve_end z m' r g =
          going_end m₀ u h E (each_of spr spm f) j w kids m q n e c (preserve_one spr spm f (tree_of m₀ h)) m' r (grown_as (became ∙ sym (now z)) g)

-- ---- entered whether it is marked or not

module _ (m : List ℕ) (u h : ℕ) (spr spm : Bool) (f : Option ℕ) (p : Preserves m u h f) (k : ℕ) (e : Marks h true k) where
  pub entered_asks : Preserves m u k f
  entered_asks =
      let v = p.enters in let l = v.here in let s = e.slot in let t = ap size_t (e.tree m) in let r = v.room in let n = v.small in
      record { enters = record { arena = v.arena; here = omega arith; room = omega arith; small = omega arith }; fetch = p.fetch }

  pub entered_grown : (m' : List ℕ) (a : At) → Grown m u m' a (preserve_one spr spm f (tree_of m k)) (u + size_t (tree_of m k))
      → Grown m u m' a (plan_with_order_preserving_variants spr spm f (tree_of m h)) (u + size_t (tree_of m h))
  entered_grown m' a g =
      let t = tree_of m h in
      subst (λ x. Grown m u m' a x (u + size_t (tree_of m h)))
      (by_mark spr spm f true t.top.mark (op_t t) t.kids (preserve_each spr spm f t.kids) (shape (op_t t)))
      (subst (λ x. Grown m u m' a (preserve_one spr spm f x) (u + size_t x)) (e.tree m) g)
