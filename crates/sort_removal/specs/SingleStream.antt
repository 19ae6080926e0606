-- One stream of a tree: a merge of its known order over it, or a coalesce.
use Rattle.std.specs.Prelude.{◌≡◌, refl, Bool, true, false, cond, ◌&&◌, List, [], ◌∷◌, ℕ, zero, suc, ◌+◌, ◌*◌, ◌≤◌, ◌<◌, ltb, length, Option, None, Some}
use Rattle.std.proofs.Common.{sym, ap₂, ◌∙◌, subst, arith}
use Rattle.std.proofs.Math.Path.{ap}
use Rattle.plan.specs.Forest.{none, size}
use Rattle.plan_codec.specs.Decode.{decode}
use Rattle.plan_codec.specs.Encode.{encode}
use Rattle.plan_codec.proofs.OneRecord.{decode-encode}
use Rattle.semantics.specs.Facts.{known_order}
use Rattle.key_lists.specs.Keys.{keys_in, keys_of, order_of, Ordered, Real}
use Rattle.key_lists.specs.declared.Keys.{Keys}
use Rattle.plan.specs.Op.{merge_op, coalesce}
use Rattle.asked_facts.specs.Asked.{told}
use Rattle.arena.specs.Arena.{slot_size}
use Rattle.arena.specs.declared.At.{At}
use Rattle.walks.specs.Marks.{Tree, known, node, plant, over, op_t, fact, fetch_t, size_t, set_mark}
use Rattle.walks.specs.Trees.{OkT}
use Rattle.walks.specs.EnsureSorting.{connected, single_stream_op, with_single_stream}
use Rattle.plan_context.specs.View.{tree_of, forest, most_nodes, most_slots, Arena, Grown, Puts}
use Rattle.plan_context.specs.Nodes.{counts_of}
use Rattle.plan_context.specs.Facts.{Tells}
use Rattle.plan_context.specs.Handles.{Marks}
use Rattle.plan_updates.specs.Opening.{grown_none}
use Rattle.sort_connection.specs.Standing.{Standing}

-- ---- the record of the new node

some-keys : (n w : ℕ) (f : Option ℕ) → 0 < n → merge_op (keys_in n w) f ≡ single_stream_op (keys_in n w) f
some-keys zero w f h = absurd (omega arith)
some-keys (suc n) w f h = refl

pub single_stream_none : (o : Option Keys) (f : Option ℕ) (x : List ℕ) → o ≡ None → x ≡ encode 1 (coalesce None)
    → x ≡ encode 1 (single_stream_op (order_of o) f)
single_stream_none o f x e q = q ∙ ap (λ z. encode 1 (single_stream_op (order_of z) f)) (sym e)

pub single_stream_some : (o : Option Keys) → Real o → (k : Keys) → o ≡ Some k → (f : Option ℕ) (x : List ℕ) → x ≡ encode 1 (merge_op (keys_of k) f)
    → x ≡ encode 1 (single_stream_op (order_of o) f)
single_stream_some o r k e f x q =
    q ∙ ap (encode 1) (some-keys k.len k.word f (subst Real e r).0) ∙ ap (λ z. encode 1 (single_stream_op (order_of z) f)) (sym e)

pub few_keys : (o : Option Keys) → Real o → (k : Keys) → o ≡ Some k → k.len ≤ 8
few_keys o r k e = (subst Real e r).1

-- ---- the new node

pub record AsksSingleStream (b : List ℕ) (w h : ℕ) (s : Bool) : Type 0 where
  pub arena : Arena b w
  pub here : h < 2 * w
  pub room : (w + 1) * slot_size ≤ length b
  pub small : w < most_slots
  pub ok : OkT (with_single_stream s (tree_of b h))
  pub few : suc (size_t (tree_of b h)) ≤ most_nodes

module _ (b : List ℕ) (w h : ℕ) (s : Bool) (p : AsksSingleStream b w h s) where
  abbrev t : Tree
  t = tree_of b h

  pub whole : Standing b w h
  whole = record { arena = p.arena; here = p.here }

  pub mark_small : h < 65536
  mark_small = let l = p.here in let z = p.small in omega arith

  stays : (s && ltb 1 (fact (tree_of b h)).streams) ≡ false → Grown b w b (record { used = w; root = h }) (with_single_stream s (tree_of b h)) (w + 1)
  stays e =
      subst (λ x. Grown b w b (record { used = w; root = h }) x (w + 1))
      (sym (ap (λ x. cond x (over (single_stream_op (known_order (fact t)) (fetch_t t)) false (set_mark (connected (op_t t) t.kids) t)) t) e))
      (grown_none b w h (w + 1) p.arena p.here (omega arith))

  pub not_asked : s ≡ false → Grown b w b (record { used = w; root = h }) (with_single_stream s (tree_of b h)) (w + 1)
  not_asked e = stays (ap (λ x. x && ltb 1 (fact t).streams) e)

  module _ (z : s ≡ true) (row : List ℕ) (sh : Tells (tree_of b h) row) (v : Bool) (hv : v ≡ ltb 1 (told row).streams) where
    several : ltb 1 (fact (tree_of b h)).streams ≡ v
    several = sym (hv ∙ ap (λ F. ltb 1 F.streams) sh.is)

    pub one_stream : v ≡ false → Grown b w b (record { used = w; root = h }) (with_single_stream s (tree_of b h)) (w + 1)
    one_stream l = stays (ap₂ ◌&&◌ z (several ∙ l))

    module _ (l : v ≡ true) (o : Option Keys) (ho : Ordered (known_order (told row)) o) (f : Option ℕ) (hf : f ≡ fetch_t (tree_of b h)) (x : List ℕ)
        (hx : x ≡ encode 1 (single_stream_op (order_of o) f))
        (c : Bool) (hc : c ≡ connected (op_t (tree_of b h)) (tree_of b h).kids) (k : ℕ) (hk : Marks h c k) where
      op_is : single_stream_op (order_of o) f ≡ single_stream_op (known_order (fact (tree_of b h))) (fetch_t (tree_of b h))
      op_is = ap₂ single_stream_op (ho.is ∙ ap known_order sh.is) hf

      below_is : forest b (k ∷ []) ≡ plant (set_mark (connected (op_t (tree_of b h)) (tree_of b h).kids) (tree_of b h)) none
      unfolding forest
      below_is = ap (λ y. plant y none) (hk.tree b ∙ ap (λ y. set_mark y t) hc)

      single : node (single_stream_op (order_of o) f) false (forest b (k ∷ [])) ≡ with_single_stream s (tree_of b h)
      single =
          ap₂ (λ q y. node q false y) op_is below_is
          ∙ sym (ap (λ y. cond y (over (single_stream_op (known_order (fact t)) (fetch_t t)) false (set_mark (connected (op_t t) t.kids) t)) t)
          (ap₂ ◌&&◌ z (several ∙ l)))

      ok_new : OkT (node (single_stream_op (order_of o) f) false (forest b (k ∷ [])))
      ok_new = subst OkT (sym single) p.ok

      decoded : decode x ≡ single_stream_op (order_of o) f
      decoded = ap decode hx ∙ decode-encode 1 (single_stream_op (order_of o) f)
          (counts_of (single_stream_op (order_of o) f) (known (forest b (k ∷ []))) ok_new.0).fields

      pub with_single_stream_puts : Puts b w x (k ∷ [])
      with_single_stream_puts =
          let v = p.here in let y = hk.slot in let q = p.few in let n = ap size below_is in
          record {
            arena = p.arena;
            room = p.room;
            small = p.small;
            below = (omega arith, tt);
            canon = hx ∙ ap (encode 1) (sym decoded);
            ok = subst (λ q. OkT (node q false (forest b (k ∷ [])))) (sym decoded) ok_new;
            few = omega arith;
          }

      pub with_single_stream_grown : (b' : List ℕ) (a : At) → Grown b w b' a (node (decode x) false (forest b (k ∷ []))) (w + 1)
          → Grown b w b' a (with_single_stream s (tree_of b h)) (w + 1)
      with_single_stream_grown b' a gr = subst (λ y. Grown b w b' a y (w + 1)) (ap (λ q. node q false (forest b (k ∷ []))) decoded ∙ single) gr
