-- The end of ensure_sorting: the node at h, with the record r, over its children after the loop.
use Rattle.std.specs.Prelude.{◌≡◌, refl, Bool, true, false, cond, not, List, [], map, ℕ, zero, suc, ◌+◌, ◌*◌, ◌≤◌, ◌<◌, ltb, leb, length, get_or, Option, Some, None, is_some}
use Rattle.std.proofs.Common.{sym, ap, ap₂, ◌∙◌, subst, arith, lt-ltb}
use Rattle.std.proofs.lemmas.Bool.{lt-leb}
use Rattle.row_order.proofs.Order.{no_bool}
use Rattle.plan.specs.Forest.{size}
use Rattle.plan.specs.Op.{Op, source, filter, projection, union, repartition, coalesce, sort_op, merge_op, global_limit, local_limit, sort_merge_join, hash_join, output_requirement, partial_sort, aggregate}
use Rattle.plan.specs.Numbers.{code}
use Rattle.plan.specs.WellFormed.{node_ok}
use Rattle.plan_codec.specs.NodeRecord.{NodeRecord}
use Rattle.plan_codec.specs.Decode.{from_bytes, decode}
use Rattle.plan_codec.specs.Encode.{encode}
use Rattle.plan_codec.proofs.OneRecord.{decode-encode}
use Rattle.semantics.specs.Facts.{Facts, facts, facts_op, at0, nf, known_order}
use Rattle.semantics.specs.Properties.{rebuilt}
use Rattle.key_lists.specs.Keys.{keys_of, Keyed}
use Rattle.key_lists.specs.declared.Keys.{Keys}
use Rattle.record_fields.specs.Proper.{Proper}
use Rattle.asked_facts.specs.Asked.{told}
use Rattle.arena.specs.Arena.{slot_size, index, slot, Below}
use Rattle.arena.specs.declared.At.{At}
use Rattle.arena.specs.Laws.{below_at}
use Rattle.walks.specs.Marks.{Tree, strip, known, node, kid0, shape, rebuild}
use Rattle.walks.specs.Trees.{Ok, OkT}
use Rattle.walks.proofs.Theorems.Ensure.Kept.{strip_connected}
use Rattle.walks.specs.EnsureSorting.{update_sort_ctx_children_data, limit_note, unmerged, finish}
use Rattle.plan_context.specs.View.{tree_of, forest, most_nodes, most_slots, Arena, Grown, Here, Puts}
use Rattle.plan_context.specs.Laws.{here, facts_at}
use Rattle.plan_context.specs.Nodes.{counts_of}
use Rattle.plan_context.specs.Facts.{Tells}
use Rattle.plan_context.specs.Handles.{kid_is}
use Rattle.plan_updates.specs.Putting.{put_over}
use Rattle.sort_connection.specs.Standing.{Standing, view, own_proper, merge_op_lem, one_kid_lem}
use Rattle.sort_connection.specs.Connection.{Connected}
use Rattle.sort_removal.specs.Sizes.{connected_size}

pub record Finishes (b : List ℕ) (w h : ℕ) (r ks : List ℕ) : Type 0 where
  pub arena : Arena b w
  pub here : h < 2 * w
  pub same : r ≡ (slot b (index h)).rec
  pub room : (w + 1) * slot_size ≤ length b
  pub small : w < most_slots
  pub below : Below (2 * w) ks
  pub count : length ks ≡ length (slot b (index h)).kids
  pub opened : OkT (node (decode r) false (forest b ks))
  pub few : suc (size (forest b ks)) ≤ most_nodes
  pub ok : OkT (finish (shape (decode r)) (rebuild (decode r) false (forest b ks)))

by_other : (k : Op) (t : Tree) → (code k ≡ 8 → ⊥) → finish (shape k) t ≡ update_sort_ctx_children_data false t
by_other (source s) t f = refl
by_other filter t f = refl
by_other (projection cols) t f = refl
by_other union t f = refl
by_other (repartition p n h ks) t f = refl
by_other (coalesce g) t f = refl
by_other (sort_op p ks g) t f = refl
by_other (merge_op ks g) t f = absurd (f refl)
by_other (global_limit s g note) t f = refl
by_other (local_limit g note) t f = refl
by_other (sort_merge_join y on) t f = refl
by_other (hash_join y on) t f = refl
by_other (output_requirement ks d g) t f = refl
by_other (partial_sort p ks n g) t f = refl
by_other (aggregate ks n) t f = refl

several_not : (n : ℕ) → leb n 1 ≡ not (ltb 1 n)
several_not zero = refl
several_not (suc zero) = refl
several_not (suc (suc n)) = lt-leb (suc (suc n)) 1 (omega arith) ∙ ap not (sym (lt-ltb 1 (suc (suc n)) (omega arith)))

unmerged_some : (f : Option ℕ) (t : Tree) → is_some f ≡ true → unmerged f t ≡ node (local_limit f (limit_note t)) false t.kids
unmerged_some None t e = no_bool e
unmerged_some (Some n) t e = refl

unmerged_none : (f : Option ℕ) (t : Tree) → is_some f ≡ false → unmerged f t ≡ kid0 t t.kids
unmerged_none None t e = refl
unmerged_none (Some n) t e = no_bool (sym e)

module _ (b : List ℕ) (w h : ℕ) (r ks : List ℕ) (p : Finishes b w h r ks) where
  abbrev o : Op
  o = decode r

  abbrev fs : List Facts
  fs = known (forest b ks)

  abbrev v : Tree
  v = rebuild o false (forest b ks)

  standing : Standing b w h
  standing = record { arena = p.arena; here = p.here }

  pub end_proper : Proper r
  end_proper = own_proper b w h standing r p.same

  puts : Puts b w r ks
  puts =
      record {
        arena = p.arena;
        room = p.room;
        small = p.small;
        below = p.below;
        canon = p.same ∙ (view b w h standing).canon ∙ ap₂ (λ n x. encode n (decode x)) (sym p.count) (sym p.same);
        ok = p.opened;
        few = p.few;
      }

  -- its children's marks put right
  module _ (ks' : List ℕ) (q : Connected b w ks ks') where
    same-strip : strip (forest b ks') ≡ strip (forest b ks)
    same-strip = ap strip q.is ∙ strip_connected (forest b ks)

    pub settled_puts : Puts b w r ks' × (index h < w)
    settled_puts =
        let n = p.few in let s = ap size q.is ∙ connected_size (forest b ks) in let l = p.here in (
          record {
            arena = p.arena;
            room = p.room;
            small = p.small;
            below = q.below;
            canon = puts.canon ∙ ap (λ n. encode n o) (sym q.count);
            ok = subst (λ g. (node_ok o (map (λ F. F.width) (facts g)) ≡ true) × Ok g) (sym same-strip) p.opened;
            few = omega arith;
          },
          omega arith,
        )

    pub settled_grown : (b' : List ℕ) (a : At) → Grown b w b' a (rebuild (decode r) false (forest b ks')) (w + 1)
        → Grown b w b' a (update_sort_ctx_children_data false (rebuild (decode r) false (forest b ks))) (w + 1)
    settled_grown b' a g = subst (λ t. Grown b w b' a t (w + 1)) (ap₂ (λ f k. node (rebuilt o (facts f)) false k) same-strip q.is) g

  pub other_end : (code (decode r) ≡ 8 → ⊥) → (b' : List ℕ) (a : At)
      → Grown b w b' a (update_sort_ctx_children_data false (rebuild (decode r) false (forest b ks))) (w + 1)
      → Grown b w b' a (finish (shape (decode r)) (rebuild (decode r) false (forest b ks))) (w + 1)
  other_end e b' a g = subst (λ z. Grown b w b' a z (w + 1)) (sym (by_other o v e)) g

  -- a merge
  module _ (e : code (decode r) ≡ 8) where
    abbrev x : NodeRecord
    x = from_bytes r

    merges : decode r ≡ merge_op (from_bytes r).keys (from_bytes r).fetch
    merges = merge_op_lem r end_proper e

    only : length ks ≡ 1
    only = one_kid_lem b r ks (put_over b w r ks puts) (merge_op x.keys x.fetch) merges (λ n. refl)

    pub merge_some : 0 < length ks
    merge_some = let l = only in omega arith

    low : get_or ks 0 0 < 2 * w
    low = below_at (2 * w) ks 0 p.below merge_some

    pub merge_here : Here b (get_or ks 0 0)
    merge_here = here b w (get_or ks 0 0) p.arena low

    module _ (row : List ℕ) (sh : Tells (tree_of b (get_or ks 0 0)) row) where
      first : told row ≡ at0 (known (forest b ks))
      first = sh.is ∙ sym (facts_at b ks 0 merge_some)

      module _ (several : Bool) (hv : several ≡ ltb 1 (told row).streams) where
        by_streams : finish (shape (decode r)) (rebuild (decode r) false (forest b ks)) ≡ cond (not several)
            (unmerged (from_bytes r).fetch (rebuild (decode r) false (forest b ks)))
            (update_sort_ctx_children_data false (rebuild (decode r) false (forest b ks)))
        by_streams =
            ap (λ k. finish (shape k) v) merges
            ∙ ap (λ n. cond n (unmerged x.fetch v) (update_sort_ctx_children_data false v))
            (several_not (at0 fs).streams ∙ ap not (sym (hv ∙ ap (λ F. ltb 1 F.streams) first)))

        one_is : several ≡ false → finish (shape (decode r)) (rebuild (decode r) false (forest b ks)) ≡ unmerged (from_bytes r).fetch
            (rebuild (decode r) false (forest b ks))
        one_is l = by_streams ∙ ap (λ y. cond (not y) (unmerged x.fetch v) (update_sort_ctx_children_data false v)) l

        pub one_ok : several ≡ false → OkT (unmerged (from_bytes r).fetch (rebuild (decode r) false (forest b ks)))
        one_ok l = subst OkT (one_is l) p.ok

        pub one_end : several ≡ false → (b' : List ℕ) (a : At) → Grown b w b' a (unmerged (from_bytes r).fetch (rebuild (decode r) false (forest b ks)))
            (w + 1) → Grown b w b' a (finish (shape (decode r)) (rebuild (decode r) false (forest b ks))) (w + 1)
        one_end l b' a g = subst (λ z. Grown b w b' a z (w + 1)) (sym (one_is l)) g

        pub more-end : several ≡ true → (b' : List ℕ) (a : At) → Grown b w b' a (update_sort_ctx_children_data false (rebuild (decode r) false (forest b ks)))
            (w + 1) → Grown b w b' a (finish (shape (decode r)) (rebuild (decode r) false (forest b ks))) (w + 1)
        more-end l b' a g = subst (λ z. Grown b w b' a z (w + 1))
            (sym (by_streams ∙ ap (λ y. cond (not y) (unmerged x.fetch v) (update_sort_ctx_children_data false v)) l)) g

    module _ (f : Option ℕ) (hf : f ≡ (from_bytes r).fetch) where
      -- of one stream it goes, with no fetch
      pub goes_grown : is_some f ≡ false → Grown b w b (record { used = w; root = get_or ks 0 0 })
          (unmerged (from_bytes r).fetch (rebuild (decode r) false (forest b ks))) (w + 1)
      goes_grown z =
          let y = low in
          record {
            arena = p.arena;
            old = refl;
            more = omega arith;
            here = y;
            tree = kid_is b ks v merge_some ∙ sym (unmerged_none x.fetch v (ap is_some (sym hf) ∙ z));
            room = omega arith;
          }

      -- with one it becomes a limit
      module _ (z : is_some f ≡ true) (ok : OkT (unmerged (from_bytes r).fetch (rebuild (decode r) false (forest b ks)))) (row : List ℕ)
          (sh : Tells (tree_of b (get_or ks 0 0)) row) (k : Keys) (hk : Keyed (from_bytes r).keys k)
          (note : Keys) (hn : Keyed (nf (told row) [] (keys_of k)) note) (y : List ℕ) (hy : y ≡ encode 1 (local_limit f (keys_of note))) where
        note_is : keys_of note ≡ limit_note (rebuild (decode r) false (forest b ks))
        note_is = hn.is ∙ ap₂ (λ F l. nf F [] l) (first row sh) hk.is ∙ sym (ap (λ k. known_order (facts_op (rebuilt k fs) fs)) merges)

        limit_is : node (local_limit f (keys_of note)) false (forest b ks) ≡ unmerged (from_bytes r).fetch (rebuild (decode r) false (forest b ks))
        limit_is = ap₂ (λ g k. node (local_limit g k) false (forest b ks)) hf note_is ∙ sym (unmerged_some x.fetch v (ap is_some (sym hf) ∙ z))

        ok_new : OkT (node (local_limit f (keys_of note)) false (forest b ks))
        ok_new = subst OkT (sym limit_is) ok

        decoded : decode y ≡ local_limit f (keys_of note)
        decoded = ap decode hy ∙ decode-encode 1 (local_limit f (keys_of note)) (counts_of (local_limit f (keys_of note)) fs ok_new.0).fields

        pub limit_puts : Puts b w y ks
        limit_puts =
            record {
              arena = p.arena;
              room = p.room;
              small = p.small;
              below = p.below;
              canon = hy ∙ ap (encode 1) (sym decoded) ∙ ap (λ k. encode k (decode y)) (sym only);
              ok = subst (λ k. OkT (node k false (forest b ks))) (sym decoded) ok_new;
              few = p.few;
            }

        pub limit_grown : (b' : List ℕ) (a : At) → Grown b w b' a (node (decode y) false (forest b ks)) (w + 1)
            → Grown b w b' a (unmerged (from_bytes r).fetch (rebuild (decode r) false (forest b ks))) (w + 1)
        limit_grown b' a g = subst (λ z. Grown b w b' a z (w + 1)) (ap (λ k. node k false (forest b ks)) decoded ∙ limit_is) g
