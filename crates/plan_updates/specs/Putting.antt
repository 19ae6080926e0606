-- A node more in the arena.
use Rattle.std.specs.Prelude.{◌≡◌, false, List, ℕ, ◌+◌, ◌*◌, ◌-◌, ◌%◌, ◌≤◌, eqb, length}
use Rattle.std.proofs.Common.{sym, ap, ap₂, ◌∙◌, subst, arith}
use Rattle.scan.specs.Parts.{splice}
use Rattle.plan_codec.specs.Decode.{decode}
use Rattle.plan_codec.specs.Encode.{encode}
use Rattle.semantics.specs.Facts.{facts_op}
use Rattle.facts.specs.Known.{Says}
use Rattle.fact_slots.specs.Slots.{loaded}
use Rattle.walks.specs.Marks.{node, known, fact, size_t, set_mark}
use Rattle.walks.specs.Trees.{OkT}
use Rattle.arena.specs.Arena.{slot_size, kept_from, kept_size, slot, Below}
use Rattle.arena.specs.Laws.{index_even, below_more}
use Rattle.arena.specs.Held.{Appends, Appended}
use Rattle.arena.specs.Keeping.{length_with}
use Rattle.plan_context.specs.View.{tree_in, forest, summary_in, Sums, most_nodes, Grown, Over, Puts, Settles, Settled}
use Rattle.plan_context.specs.Laws.{tree_in_lem, forest_same, holds_same, same_trans, theres}
use Rattle.plan_context.specs.Nodes.{proper, few_over}
use Rattle.settling.specs.Settling.{settled_by, settled_front, settled_arena, settled_tree}

module _ (m : List ℕ) (u : ℕ) (r ks : List ℕ) (p : Puts m u r ks) where
  pub put_over : Over m r ks
  put_over = record { there = theres m u ks p.arena p.below; canon = p.canon; ok = p.ok; few = p.few }

  pub put_appends : Appends m u r ks
  put_appends =
      let c = proper m r ks put_over in let s = p.small in let q = c.count in let z = few_over m r ks put_over in
      record { room = p.room; long = c.long; count = sym c.count; few = omega arith; small = below_more ks (omega arith) p.below }

  module _ (m₁ : List ℕ) (l : length m₁ ≡ length m) (a : Appended m u r ks m₁) where
    same_kids : forest m₁ ks ≡ forest m ks
    same_kids = forest_same u m m₁ a.front ks p.below

    tree_new : tree_in m₁ u ≡ node (decode r) false (forest m ks)
    tree_new =
        let g : Below (2 * u) (slot m₁ u).kids = subst (λ n. Below (2 * u) n.kids) (sym a.node) p.below in
        tree_in_lem m₁ u g ∙ ap (λ n. node (decode n.rec) false (forest m₁ n.kids)) a.node ∙ ap (node (decode r) false) same_kids

    pub put_settles : Settles m₁ u
    put_settles =
        let x = p.arena.slots in let y = p.arena.small in let z = p.room in
        record {
          arena = record { slots = omega arith; small = y; all = λ i h. holds_same u m m₁ a.front i h (p.arena.all i h) };
          room = omega arith;
          small = p.small;
          proper = record {
            below = subst (λ n. Below (2 * u) n.kids) (sym a.node) p.below;
            canon = subst (λ n. n.rec ≡ encode (length n.kids) (decode n.rec)) (sym a.node) p.canon;
            ok = subst OkT (sym tree_new) p.ok;
            few = subst (λ t. size_t t ≤ most_nodes) (sym tree_new) p.few;
          };
        }

    module _ (m₂ : List ℕ) (k : length m₂ ≡ length m₁) (s : Settled m₁ u m₂) where
      pub put_grown : Grown m u m₂ (record { used = u + 1; root = 2 * u }) (node (decode r) false (forest m ks)) (u + 1)
      put_grown =
          let n : 2 * u % 2 ≡ 0 = omega arith in
          record {
            arena = settled_arena m₁ u put_settles m₂ s k;
            old = same_trans u u m m₁ m₂ (omega arith) a.front (settled_front m₁ u put_settles m₂ s k);
            more = omega arith;
            here = omega arith;
            tree = ap₂ (λ x y. set_mark (eqb x 1) (tree_in m₂ y)) n (index_even u) ∙ ap (set_mark false) (settled_tree m₁ u put_settles m₂ s k ∙ tree_new);
            room = omega arith;
          }

    -- with what is known of the node, as the code lends its place
    module _ (b : List ℕ) (d : length b ≡ kept_size) (f : Says (facts_op (decode r) (known (forest m ks))) (loaded b))
        (q : Sums (node (decode r) false (forest m ks)) (summary_in b)) where
      kept : Settled m₁ u (splice m₁ (u * slot_size + kept_from) (u * slot_size + kept_from + kept_size - (u * slot_size + kept_from)) b)
      kept =
          let e : node (decode (slot m₁ u).rec) false (forest m₁ (slot m₁ u).kids) ≡ node (decode r) false (forest m ks) =
          (ap (λ n. node (decode n.rec) false (forest m₁ n.kids)) a.node ∙ ap (node (decode r) false) same_kids) in
          settled_by m₁ u put_settles b d (subst (λ t. Says (fact t) (loaded b)) (sym e) f) (subst (λ t. Sums t (summary_in b)) (sym e) q)

      pub known_grown : Grown m u (splice m₁ (u * slot_size + kept_from) (u * slot_size + kept_from + kept_size - (u * slot_size + kept_from)) b)
          (record { used = u + 1; root = 2 * u }) (node (decode r) false (forest m ks)) (u + 1)
      known_grown =
          let z : u * slot_size + kept_from + kept_size - (u * slot_size + kept_from) ≡ kept_size = omega arith in
          put_grown (splice m₁ (u * slot_size + kept_from) (u * slot_size + kept_from + kept_size - (u * slot_size + kept_from)) b)
          (rw z (length_with m₁ u b put_settles.room d)) kept
