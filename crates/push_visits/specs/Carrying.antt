-- A decision carried out in the arena. Assumes nothing.
use Rattle.std.specs.Prelude.{◌≡◌, refl, Bool, true, false, cond, List, [], ◌∷◌, ◌++◌, map, ℕ, zero, suc, ◌+◌, ◌*◌, ◌≤◌, ◌<◌, length, get_or, Option, Some, None}
use Rattle.std.proofs.Common.{sym, ap, ap₂, ◌∙◌, subst, arith, eqb-true}
use Rattle.std.proofs.Math.Path.{subst⁻¹}
use Rattle.row_order.specs.Iso.{Key}
use Rattle.plan.specs.Forest.{Forest, none, tree, size}
use Rattle.plan.specs.Op.{Op, source, filter, projection, union, repartition, coalesce, sort_op, merge_op, global_limit, local_limit, sort_merge_join, hash_join, output_requirement, partial_sort, aggregate}
use Rattle.plan.specs.Numbers.{kind_of}
use Rattle.plan.specs.WellFormed.{children_ok, node_ok}
use Rattle.plan.specs.declared.Kind.{Kind}
use Rattle.plan.specs.declared.Kind.TheVariants.{Source, Filter, Projection, Union, Repartition, Coalesce, Sort, Merge, GlobalLimit, LocalLimit, SortMergeJoin, HashJoin, OutputRequirement, PartialSort, Aggregate}
use Rattle.plan_codec.specs.Decode.{decode, from_bytes, operator_of}
use Rattle.plan_codec.specs.Encode.{encode}
use Rattle.plan_codec.proofs.OneRecord.{decode-encode}
use Rattle.semantics.specs.Facts.{Facts, at0, counts}
use Rattle.semantics.specs.Properties.{remark, rebuilt}
use Rattle.key_lists.specs.declared.Keys.{Keys}
use Rattle.key_lists.specs.Keys.{keys_in, keys_of, order_of, Real}
use Rattle.asked_facts.specs.Asked.{told}
use Rattle.record_fields.specs.Kinds.{op_of}
use Rattle.arena.specs.Arena.{slot}
use Rattle.arena.specs.Laws.{below_at}
use Rattle.arena.specs.declared.At.{At}
use Rattle.walks.specs.Marks.{Marked, Tree, strip, known, fact, size_t, node, plant, over, kid0, rebuild, cover}
use Rattle.walks.specs.Utils.{new_sort, new_merge}
use Rattle.walks.proofs.Theorems.Common.Keeps.{remark-same}
use Rattle.walks.specs.Trees.{Ok, OkT}
use Rattle.plan_context.specs.View.{tree_of, forest, Arena, Grown, Over, Puts}
use Rattle.plan_context.specs.Laws.{length_facts}
use Rattle.plan_context.specs.Nodes.{counts_of}
use Rattle.plan_updates.specs.Covering.{cover_puts, cover_grown, ok_of}
use Rattle.plan_updates.specs.Opening.{grown_none, grown_then}
use Rattle.plan_updates.specs.Putting.{put_over}
use Rattle.plan_updates.specs.Rebuilt.{rebuilt_puts, rebuilt_grown}
use Rattle.sort_pushdown.specs.declared.Decision.{Decision}
use Rattle.sort_pushdown.specs.Decisions.{tops_of}
use Rattle.push_visits.specs.Carried.{RowOf, op_by, below_by, carried_by, Topping, Carries}
use Rattle.push_visits.specs.Visiting.{first_of, shown}

-- ---- new nodes over a tree

cover_ok : (ts : List Op) (t : Tree) → OkT (cover ts t) → OkT t
cover_ok [] t h = h
cover_ok (o ∷ os) t h = cover_ok os t (h.1.0, h.1.1)

cover_two : (ts us : List Op) (t : Tree) → cover (ts ++ us) t ≡ cover ts (cover us t)
cover_two [] us t = refl
cover_two (o ∷ os) us t = ap (λ u. over o false u) (cover_two os us t)

keys_some : (k : Keys) → 0 < k.len → (ks : List Key) → keys_of k ≡ ks → ks ≡ [] → ⊥
keys_some k h ks e f = go k.len h (e ∙ f)
  where
    go : (n : ℕ) → 0 < n → keys_in n k.word ≡ [] → ⊥
    go zero l z = absurd (omega arith)
    go (suc n) l z = let y = ap length z in absurd (omega arith)

sort_one : (p : Bool) (ks : List Key) (f : Option ℕ) → (ks ≡ [] → ⊥) → new_sort p ks f ≡ sort_op p ks f ∷ []
sort_one p [] f h = absurd (h refl)
sort_one p (k ∷ ks) f h = refl

merge_one : (ks : List Key) (f : Option ℕ) → (ks ≡ [] → ⊥) → new_merge ks f ≡ merge_op ks f ∷ []
merge_one [] f h = absurd (h refl)
merge_one (k ∷ ks) f h = refl

-- no order: no node
pub top_none : (b : List ℕ) (u h : ℕ) (order : Option Keys) (ts : List Op) (g : List Key → List Op) → Topping b u h order ts → order ≡ None
    → ts ≡ g (order_of order) → g [] ≡ [] → Grown b u b (record { used = u; root = h }) (cover ts (tree_of b h)) (u + 1)
top_none b u h order ts g p e x y =
    subst⁻¹ (λ us. Grown b u b (record { used = u; root = h }) (cover us (tree_of b h)) (u + 1)) (x ∙ ap (λ o. g (order_of o)) e ∙ y)
    (grown_none b u h (u + 1) p.under.arena p.under.here (omega arith))

-- one node o
module _ (b : List ℕ) (u h : ℕ) (order : Option Keys) (ts : List Op) (p : Topping b u h order ts) (o : Op) (e : ts ≡ o ∷ []) (r : List ℕ)
    (c : r ≡ encode 1 o) where
  rule : node_ok o ((fact (tree_of b h)).width ∷ []) ≡ true
  rule = (subst (λ us. OkT (cover us (tree_of b h))) e p.ok).0

  pub top_puts : Puts b u r (h ∷ [])
  top_puts = cover_puts b u h p.under o rule r c (ok_of b u h p.under.arena p.under.here)

  pub top_grown : (b' : List ℕ) (x : At) → Grown b u b' x (node (decode r) false (forest b (h ∷ []))) (u + 1) → Grown b u b' x (cover ts (tree_of b h))
      (u + 1)
  top_grown b' x g = subst⁻¹ (λ us. Grown b u b' x (cover us (tree_of b h)) (u + 1)) e (cover_grown b u h p.under o rule r c b' x (u + 1) g)

module _ (order : Option Keys) (k : Keys) (h : Real order) (e : order ≡ Some k) where
  some : keys_of k ≡ [] → ⊥
  some z = keys_some k (subst Real e h).0 (keys_of k) refl z

  pub top_few : k.len ≤ 8
  top_few = (subst Real e h).1

  pub sort_is : (p : Bool) (f : Option ℕ) → new_sort p (order_of order) f ≡ sort_op p (keys_of k) f ∷ []
  sort_is p f = ap (λ o. new_sort p (order_of o) f) e ∙ sort_one p (keys_of k) f some

  pub merge_is : (f : Option ℕ) → new_merge (order_of order) f ≡ merge_op (keys_of k) f ∷ []
  merge_is f = ap (λ o. new_merge (order_of o) f) e ∙ merge_one (keys_of k) f some

-- ---- the node's record

-- a repartition's own mark is the one to be counted
own_mark : (k : Kind) (r : List ℕ) (F : Facts) → remark (λ p. counts (from_bytes r).preserve F) (operator_of k (from_bytes r)) ≡ remark (λ p. counts p F)
    (operator_of k (from_bytes r))
own_mark Source r F = refl
own_mark Filter r F = refl
own_mark Projection r F = refl
own_mark Union r F = refl
own_mark Repartition r F = refl
own_mark Coalesce r F = refl
own_mark Sort r F = refl
own_mark Merge r F = refl
own_mark GlobalLimit r F = refl
own_mark LocalLimit r F = refl
own_mark SortMergeJoin r F = refl
own_mark HashJoin r F = refl
own_mark OutputRequirement r F = refl
own_mark PartialSort r F = refl
own_mark Aggregate r F = refl

-- without children there is no mark
no_mark : (o : Op) (n : ℕ) (g h : Bool → Bool) → children_ok o n ≡ true → n ≡ 0 → remark g o ≡ remark h o
no_mark (source s) n g h c e = refl
no_mark filter n g h c e = refl
no_mark (projection cols) n g h c e = refl
no_mark union n g h c e = refl
no_mark (repartition p k x ks) n g h c e = let z = eqb-true n 1 c in absurd (omega arith)
no_mark (coalesce f) n g h c e = refl
no_mark (sort_op p ks f) n g h c e = refl
no_mark (merge_op ks f) n g h c e = refl
no_mark (global_limit s f note) n g h c e = refl
no_mark (local_limit f note) n g h c e = refl
no_mark (sort_merge_join t on) n g h c e = refl
no_mark (hash_join t on) n g h c e = refl
no_mark (output_requirement ks d f) n g h c e = refl
no_mark (partial_sort p ks k f) n g h c e = refl
no_mark (aggregate ks k) n g h c e = refl

module _ (a : List ℕ) (ua i : ℕ) (g : Arena a ua) (l : i < ua) where
  count : children_ok (decode (slot a i).rec) (length (slot a i).kids) ≡ true
  count = subst (λ n. children_ok (decode (slot a i).rec) n ≡ true) (length_facts a (slot a i).kids)
      (counts_of (decode (slot a i).rec) (known (forest a (slot a i).kids)) (shown a ua i g l).ok.0).count

  marks_alike : (f : List ℕ) → RowOf a i 0 f → remark (λ p. counts p (told f)) (decode (slot a i).rec) ≡ rebuilt (decode (slot a i).rec)
      (known (forest a (slot a i).kids))
  marks_alike f r = go (length (slot a i).kids) refl
    where
      go : (n : ℕ) → length (slot a i).kids ≡ n → remark (λ p. counts p (told f)) (decode (slot a i).rec) ≡ rebuilt (decode (slot a i).rec)
          (known (forest a (slot a i).kids))
      go zero e = no_mark (decode (slot a i).rec) (length (slot a i).kids) _ _ count e
      go (suc n) e = ap (λ F. remark (λ p. counts p F) (decode (slot a i).rec)) (r.is (omega arith) ∙ sym (first_of (known (forest a (slot a i).kids))))

  pub record_rebuilt : (f r : List ℕ) → RowOf a i 0 f → r ≡ (slot a i).rec → (x : Bool) → x ≡ true → (p q : Bool) → p ≡ (from_bytes r).preserve
      → q ≡ counts p (told f) → (y : List ℕ)
      → ((n : ℕ) → r ≡ encode n (decode r) → y ≡ encode n (remark (λ z. q) (decode r))) → y ≡ encode (length (slot a i).kids) (op_by a i x)
  record_rebuilt f r w e x t p q ep eq y h =
      let o : Op = decode (slot a i).rec in
      let s = shown a ua i g l in
      h (length (slot a i).kids) (e ∙ s.canon ∙ ap (λ z. encode (length (slot a i).kids) (decode z)) (sym e))
      ∙ ap (encode (length (slot a i).kids))
      (ap₂ (λ z n. remark (λ b. z) n) (eq ∙ ap (λ z. counts z (told f)) (ep ∙ ap (λ z. (from_bytes z).preserve) e)) (ap decode e)
      ∙ (ap (remark (λ b. counts (from_bytes (slot a i).rec).preserve (told f))) (op_of (slot a i).rec (kind_of (get_or (slot a i).rec 0 0)) refl)
      ∙ own_mark (kind_of (get_or (slot a i).rec 0 0)) (slot a i).rec (told f)
      ∙ sym (ap (remark (λ b. counts b (told f))) (op_of (slot a i).rec (kind_of (get_or (slot a i).rec 0 0)) refl)))
      ∙ marks_alike f w ∙ sym (ap (λ z. cond z (rebuilt o (known (forest a (slot a i).kids))) o) t))

  pub record_kept : (r : List ℕ) → r ≡ (slot a i).rec → (x : Bool) → x ≡ false → (y : List ℕ) → y ≡ r → y ≡ encode (length (slot a i).kids) (op_by a i x)
  record_kept r e x t y h =
      let o : Op = decode (slot a i).rec in
      h ∙ e ∙ (shown a ua i g l).canon ∙ ap (encode (length (slot a i).kids)) (sym (ap (λ z. cond z (rebuilt o (known (forest a (slot a i).kids))) o) t))

-- ---- the node over its walked children

kid_size : (t : Tree) (g : Forest Marked) → size_t t ≤ suc (size g) → size_t (kid0 t g) ≤ suc (size g)
kid_size t none h = h
kid_size t (tree m c r) h = omega arith

pub below_size : (g : Bool) (o : Op) (f : Forest Marked) → size_t (cond g (kid0 (node o false f) f) (rebuild o false f)) ≤ suc (size f)
below_size true o f = kid_size (node o false f) f (omega arith)
below_size false o f = omega arith

first_kid : (b : List ℕ) (o : Op) (hs : List ℕ) → 0 < length hs → tree_of b (get_or hs 0 0) ≡ kid0 (node o false (forest b hs)) (forest b hs)
unfolding forest
first_kid b o [] l = absurd (omega arith)
first_kid b o (h ∷ hs) l = refl

module _ (a : List ℕ) (ua i : ℕ) (b : List ℕ) (w : ℕ) (d : Decision) (kids : List ℕ) (p : Carries a ua i b w d kids) where
  below_ok_lem : OkT (below_by a i d (forest b kids))
  below_ok_lem = cover_ok (tops_of d.tops) (below_by a i d (forest b kids)) p.ok

  -- it goes: its first child
  pub gone_grown : d.gone ≡ true → Grown b w b (record { used = w; root = get_or kids 0 0 }) (below_by a i d (forest b kids)) (w + 1)
  gone_grown e =
      let s = p.some e in
      subst (λ t. Grown b w b (record { used = w; root = get_or kids 0 0 }) t (w + 1))
      (first_kid b (op_by a i d.rebuilt) kids s
      ∙ sym (ap (λ x. cond x (kid0 (node (op_by a i d.rebuilt) false (forest b kids)) (forest b kids))
      (rebuild (op_by a i d.rebuilt) false (forest b kids))) e))
      (grown_none b w (get_or kids 0 0) (w + 1) p.arena (below_at (2 * w) kids 0 p.below s) (omega arith))

  -- it stays
  module _ (e : d.gone ≡ false) (x : List ℕ) (c : x ≡ encode (length (slot a i).kids) (op_by a i d.rebuilt)) where
    stays : below_by a i d (forest b kids) ≡ rebuild (op_by a i d.rebuilt) false (forest b kids)
    stays = ap (λ y. cond y (kid0 (node (op_by a i d.rebuilt) false (forest b kids)) (forest b kids))
        (rebuild (op_by a i d.rebuilt) false (forest b kids))) e

    rule₁ : node_ok (op_by a i d.rebuilt) (map (λ F. F.width) (known (forest b kids))) ≡ true
    rule₁ = sym (remark-same (λ y. node_ok y (map (λ F. F.width) (known (forest b kids)))) (λ q. counts q (at0 (known (forest b kids))))
        (λ p q k h ks. refl) (op_by a i d.rebuilt)) ∙ (subst OkT stays below_ok_lem).0

    decoded : decode x ≡ op_by a i d.rebuilt
    decoded = ap decode c ∙ decode-encode (length (slot a i).kids) (op_by a i d.rebuilt)
        (counts_of (op_by a i d.rebuilt) (known (forest b kids)) rule₁).fields

    pub stay_puts : Puts b w x kids
    stay_puts =
        let r = p.room in let s = p.small in let n = p.few in
        record {
          arena = p.arena;
          room = omega arith;
          small = omega arith;
          below = p.below;
          canon = c ∙ ap₂ encode (sym p.count) (sym decoded);
          ok = subst⁻¹ (λ y. OkT (node y false (forest b kids))) decoded (rule₁, below_ok_kids);
          few = omega arith;
        }
      where
        below_ok_kids : Ok (strip (forest b kids))
        below_ok_kids = (subst OkT stays below_ok_lem).1

    pub stay_over : Over b x kids
    stay_over = put_over b w x kids stay_puts

    module _ (y : List ℕ) (q : y ≡ encode (length kids) (rebuilt (decode x) (known (forest b kids)))) where
      pub node_puts : Puts b w y kids
      node_puts = rebuilt_puts b w x kids stay_puts y q

      pub node_grown : (b' : List ℕ) (z : At) → Grown b w b' z (node (decode y) false (forest b kids)) (w + 1)
          → Grown b w b' z (below_by a i d (forest b kids)) (w + 1)
      node_grown b' z g =
          subst (λ t. Grown b w b' z t (w + 1)) (ap (λ n. rebuild n false (forest b kids)) decoded ∙ sym stays)
          (rebuilt_grown b w x kids stay_puts y q b' z (w + 1) g)

  -- ---- the new nodes

  sort_size : (q : Bool) (ks : List Key) (g : Option ℕ) (t : Tree) → size_t (cover (new_sort q ks g) t) ≤ suc (size_t t)
  sort_size q [] g t = omega arith
  sort_size q (k ∷ ks) g t = let z = size_one t in omega arith
    where
      size_one : (u : Tree) → size (plant u none) ≡ size_t u
      size_one u = omega arith

  module _ (b₁ : List ℕ) (lb : length b₁ ≡ length b) (t : At) (g : Grown b w b₁ t (below_by a i d (forest b kids)) (w + 1)) where
    abbrev ss : List Op
    ss = new_sort d.tops.preserve (order_of d.tops.sort) d.tops.sfetch

    abbrev ms : List Op
    ms = new_merge (order_of d.tops.merge) d.tops.mfetch

    all_ok : OkT (cover (new_merge (order_of d.tops.merge) d.tops.mfetch)
        (cover (new_sort d.tops.preserve (order_of d.tops.sort) d.tops.sfetch) (tree_of b₁ t.root)))
    all_ok = subst OkT (cover_two ms ss (below_by a i d (forest b kids)) ∙ ap (λ u. cover ms (cover ss u)) (sym g.tree)) p.ok

    pub sort_topping : Topping b₁ t.used t.root d.tops.sort (new_sort d.tops.preserve (order_of d.tops.sort) d.tops.sfetch)
    sort_topping =
        let r = p.room in let s = p.small in let n = p.few in let x = g.room in let z = below_size d.gone (op_by a i d.rebuilt) (forest b kids) in
        let y = ap size_t g.tree in
        record {
          under = record { arena = g.arena; here = g.here; room = omega arith; small = omega arith; few = omega arith };
          real = p.sort;
          ok = cover_ok ms (cover ss (tree_of b₁ t.root)) all_ok;
        }

    module _ (b₂ : List ℕ) (lc : length b₂ ≡ length b₁) (s : At)
        (k : Grown b₁ t.used b₂ s (cover (new_sort d.tops.preserve (order_of d.tops.sort) d.tops.sfetch) (tree_of b₁ t.root))
        (t.used + 1)) where
      pub merge_topping : Topping b₂ s.used s.root d.tops.merge (new_merge (order_of d.tops.merge) d.tops.mfetch)
      merge_topping =
          let r = p.room in let o = p.small in let n = p.few in let x = g.room in
          let z = below_size d.gone (op_by a i d.rebuilt) (forest b kids) in let y = ap size_t g.tree in let u = k.room in
          let v = sort_size d.tops.preserve (order_of d.tops.sort) d.tops.sfetch (tree_of b₁ t.root) in let q = ap size_t k.tree in
          record {
            under = record { arena = k.arena; here = k.here; room = omega arith; small = omega arith; few = omega arith };
            real = p.merge;
            ok = subst (λ y. OkT (cover ms y)) (sym k.tree) all_ok;
          }

      pub carried : (b₃ : List ℕ) (x : At) → Grown b₂ s.used b₃ x (cover (new_merge (order_of d.tops.merge) d.tops.mfetch) (tree_of b₂ s.root))
          (s.used + 1) → Grown b w b₃ x (carried_by a i d (forest b kids)) (w + 3)
      carried b₃ x m =
          let z = g.room in let y = k.room in
          subst (λ u. Grown b w b₃ x u (w + 3)) (ap (cover ms) (k.tree ∙ ap (cover ss) g.tree) ∙ sym (cover_two ms ss (below_by a i d (forest b kids))))
          (grown_then b w b₂ s _ (w + 2) b₃ x _ (s.used + 1) (w + 3) (grown_then b w b₁ t _ (w + 1) b₂ s _ (t.used + 1) (w + 2) g k (omega arith)) m
          (omega arith))
