-- One child in the loop of ensure_sorting.
use Rattle.std.specs.Prelude.{◌≡◌, refl, Bool, true, false, cond, not, ◌||◌, List, [], ◌∷◌, ℕ, zero, suc, ◌+◌, ◌*◌, ◌≤◌, ◌<◌, ltb, length, Option, None, Some}
use Rattle.std.proofs.Common.{sym, ap, ap₂, ◌∙◌, subst, arith}
use Rattle.row_order.specs.Iso.{Key}
use Rattle.row_order.specs.Lists.{All}
use Rattle.row_order.proofs.Order.{no_bool}
use Rattle.plan.specs.Forest.{none, tree}
use Rattle.semantics.specs.Facts.{is_nil, met, nf, prefixb, at0, known_order}
use Rattle.semantics.specs.Properties.{fresh_keys}
use Rattle.key_lists.specs.Keys.{keys_in, keys_of, order_of, Real}
use Rattle.key_lists.specs.declared.Keys.{Keys}
use Rattle.asked_facts.specs.Asked.{told}
use Rattle.arena.specs.Arena.{slot_size}
use Rattle.arena.specs.declared.At.{At}
use Rattle.walks.specs.Marks.{Tree, strip, plant, cover, op_t, fact, size_t, set_mark}
use Rattle.walks.specs.Terms.{blank}
use Rattle.walks.specs.Utils.{new_sort, add_sort_above}
use Rattle.walks.specs.Trees.{OkT}
use Rattle.walks.proofs.Theorems.Common.Trees.{ok_fit}
use Rattle.walks.proofs.Theorems.Common.Keeps.{KeepsAll}
use Rattle.walks.proofs.Theorems.Common.OrderMet.{fresh_same}
use Rattle.walks.proofs.Theorems.Common.ConstantSorts.{fact-canon}
use Rattle.walks.proofs.Theorems.Ensure.Kept.{remove_kids_kept}
use Rattle.walks.specs.EnsureSorting.{connected, update_sort_ctx_children_data, update_child_to_remove_unnecessary_sort, remove_kids, ensure_child}
use Rattle.plan_context.specs.View.{tree_of, most_nodes, most_slots, Arena, Grown}
use Rattle.plan_context.specs.Facts.{Tells}
use Rattle.plan_context.specs.Handles.{Marks}
use Rattle.plan_updates.specs.Covering.{Under, ok_of}
use Rattle.plan_updates.specs.Opening.{grown_none, grown_more, grown_then}
use Rattle.utils.specs.Sorting.{Sortable}
use Rattle.sort_connection.specs.Standing.{Standing}
use Rattle.sort_removal.specs.Sizes.{kids_size}
use Rattle.sort_removal.specs.Removing.{remove_one, marked_grown}

-- ---- a marked sort over a tree, whose mark is put right

pub record Sorts (b : List ℕ) (w h : ℕ) (ks : List Key) (f : Option ℕ) : Type 0 where
  pub under : Under b w h 1
  pub keys : Sortable (tree_of b h) ks f
  pub some : is_nil (fresh_keys (fact (tree_of b h)) [] ks) ≡ false

above : (p : Bool) (l : List Key) (f : Option ℕ) (t : Tree) → is_nil l ≡ false → set_mark true (cover (new_sort p l f) (set_mark (connected (op_t t) t.kids) t))
    ≡ update_sort_ctx_children_data true (cover (new_sort p l f) t)
above p [] f t e = no_bool (sym e)
above p (k ∷ l) f t e = refl

module _ (b : List ℕ) (w h : ℕ) (ks : List Key) (f : Option ℕ) (p : Sorts b w h ks f) where
  pub sort_standing : Standing b w h
  sort_standing = record { arena = p.under.arena; here = p.under.here }

  pub sort-small : h < 65536
  sort-small = let l = p.under.here in let s = p.under.small in omega arith

  module _ (c : Bool) (hc : c ≡ connected (op_t (tree_of b h)) (tree_of b h).kids) (k : ℕ) (hk : Marks h c k) where
    pub sort_asks : Under b w k 1 × Sortable (tree_of b k) ks f
    sort_asks =
        let u = p.under in let l = u.here in let s = hk.slot in let n = ap size_t (hk.tree b) in let z = u.few in (
          record { arena = u.arena; here = omega arith; room = u.room; small = u.small; few = omega arith },
          subst (λ t. Sortable t ks f)
              (sym (hk.tree b)) (record { short = p.keys.short; inside = p.keys.inside; fetch = p.keys.fetch }),
        )

    pub sort_grown : (b' : List ℕ) (a : At) → Grown b w b' a (add_sort_above ks f (tree_of b k)) (w + 1) → (r : ℕ) → Marks a.root true r
        → Grown b w b' (record { used = a.used; root = r }) (update_sort_ctx_children_data true (add_sort_above ks f (tree_of b h))) (w + 1)
    sort_grown b' a g r m =
        subst (λ t. Grown b w b' (record { used = a.used; root = r }) t (w + 1))
        (ap (λ t. set_mark true (add_sort_above ks f t)) (hk.tree b ∙ ap (λ x. set_mark x (tree_of b h)) hc)
        ∙ above (ltb 1 (fact (tree_of b h)).streams) (fresh_keys (fact (tree_of b h)) [] ks) f (tree_of b h) p.some)
        (marked_grown b w b' a (add_sort_above ks f (tree_of b k)) (w + 1) g true r m)

-- ---- removing below one child

pub update_size : (s : Bool) (t : Tree) → size_t (update_child_to_remove_unnecessary_sort s t) ≤ 2 * size_t t
update_size s t = let x = kids_size (λ i. s) (plant t none) in omega arith

-- constants and classes stay
same_blank : (s : Bool) (t : Tree) → OkT t → blank (fact (remove_one s t)) ≡ blank (fact t)
same_blank s t h =
    let f = ok_fit (tree (op_t t) (strip t.kids) none) (h.0, h.1, tt) in
    let k : KeepsAll true true true (plant t none) (remove_kids (λ i. s) (plant t none)) = remove_kids_kept (λ i. s) (plant t none) f in
    ap at0 k.bases

-- keys that are all constant are met
none-met : (t u : Tree) (ks : List Key) → blank (fact u) ≡ blank (fact t) → fresh_keys (fact u) [] ks ≡ [] → met (fact t) ks ≡ true
none-met t u ks e q =
    let x : nf (fact u) [] ks ≡ [] = sym (fresh_same (fact u) (fact-canon u) ks) ∙ ap (nf (fact u) []) q in
    let y : nf (fact t) [] ks ≡ nf (fact u) [] ks = ap (λ F. nf F [] ks) (sym e) in
    ap (λ l. prefixb l (known_order (fact t))) (y ∙ x)

some_fresh : (t u : Tree) (ks : List Key) → blank (fact u) ≡ blank (fact t) → met (fact t) ks ≡ false → is_nil (fresh_keys (fact u) [] ks) ≡ false
some_fresh t u ks e m = go (fresh_keys (fact u) [] ks) refl
  where
    go : (l : List Key) → fresh_keys (fact u) [] ks ≡ l → is_nil l ≡ false
    go [] q = no_bool (sym m ∙ none-met t u ks e q)
    go (x ∷ l) q = refl

not-not : (b : Bool) → b ≡ not (not b)
not-not true = refl
not-not false = refl

-- ---- the child

pub record Ensures (b : List ℕ) (u h : ℕ) : Type 0 where
  pub arena : Arena b u
  pub here : h < 2 * u
  pub room : (u + 2 * size_t (tree_of b h) + 1) * slot_size ≤ length b
  pub small : u + 2 * size_t (tree_of b h) + 1 ≤ most_slots
  pub few : 2 * size_t (tree_of b h) + 1 ≤ most_nodes

some-keys : (n w : ℕ) → 0 < n → is_nil (keys_in n w) ≡ false
some-keys zero w h = absurd (omega arith)
some-keys (suc n) w h = refl

by_some : (ks : List Key) (b s : Bool) (f : Option ℕ) (t : Tree) → is_nil ks ≡ false
    → ensure_child ks b s f t ≡ cond (met (fact t) ks) t
    (update_sort_ctx_children_data true (add_sort_above ks f (cond (is_nil (known_order (fact t))) t (update_child_to_remove_unnecessary_sort s t))))
by_some [] b s f t e = no_bool (sym e)
by_some (k ∷ ks) b s f t e = refl

module _ (b : List ℕ) (u h : ℕ) (p : Ensures b u h) where
  abbrev t : Tree
  t = tree_of b h

  pub child_standing : Standing b u h
  child_standing = record { arena = p.arena; here = p.here }

  stays : (v : Tree) → v ≡ tree_of b h → Grown b u b (record { used = u; root = h }) v (u + 2 * size_t (tree_of b h) + 1)
  stays v e = subst (λ x. Grown b u b (record { used = u; root = h }) x (u + 2 * size_t (tree_of b h) + 1)) (sym e)
      (grown_none b u h (u + 2 * size_t (tree_of b h) + 1) p.arena p.here (omega arith))

  module _ (row : List ℕ) (sh : Tells (tree_of b h) row) (x : Bool) (hx : x ≡ not (is_nil (known_order (told row)))) (s : Bool) where
    nil_is : is_nil (known_order (fact (tree_of b h))) ≡ not x
    nil_is = ap (λ F. is_nil (known_order F)) (sym sh.is) ∙ not-not (is_nil (known_order (told row))) ∙ ap not (sym hx)

    -- nothing is wanted
    module _ (keeps : Bool) where
      no_want : ensure_child [] keeps s None (tree_of b h) ≡ cond (not x || not keeps) (update_child_to_remove_unnecessary_sort s (tree_of b h)) (tree_of b h)
      no_want = ap (λ y. cond (y || not keeps) (update_child_to_remove_unnecessary_sort s t) t) nil_is

      pub updated : (not x || not keeps) ≡ true → (b' : List ℕ) (a : At) → Grown b u b' a (update_child_to_remove_unnecessary_sort s (tree_of b h))
          (u + 2 * size_t (tree_of b h)) → Grown b u b' a (ensure_child [] keeps s None (tree_of b h)) (u + 2 * size_t (tree_of b h) + 1)
      updated q b' a g =
          subst (λ v. Grown b u b' a v (u + 2 * size_t (tree_of b h) + 1)) (sym (no_want ∙ ap (λ y. cond y (update_child_to_remove_unnecessary_sort s t) t) q))
          (grown_more b u b' a (update_child_to_remove_unnecessary_sort s t) (u + 2 * size_t (tree_of b h)) (u + 2 * size_t (tree_of b h) + 1) (omega arith) g)

      pub kept_free : (not x || not keeps) ≡ false → Grown b u b (record { used = u; root = h }) (ensure_child [] keeps s None (tree_of b h))
          (u + 2 * size_t (tree_of b h) + 1)
      kept_free q = stays (ensure_child [] keeps s None t) (no_want ∙ ap (λ y. cond y (update_child_to_remove_unnecessary_sort s t) t) q)

    -- an order is wanted
    module _ (k : Keys) (e : 0 < k.len) (f : Option ℕ) (o : Sortable (tree_of b h) (keys_of k) f) (m : Bool) (hm : m ≡ met (told row) (keys_of k)) where
      abbrev E : Tree
      E = ensure_child (keys_of k) false s f t

      want : ensure_child (keys_of k) false s f (tree_of b h) ≡ cond m (tree_of b h)
          (update_sort_ctx_children_data true (add_sort_above (keys_of k) f (cond (not x) (tree_of b h) (update_child_to_remove_unnecessary_sort s (tree_of b h)))))
      want =
          by_some (keys_of k) false s f t (some-keys k.len k.word e)
          ∙ ap₂ (λ y z. cond y t (update_sort_ctx_children_data true (add_sort_above (keys_of k) f (cond z t (update_child_to_remove_unnecessary_sort s t)))))
          (sym (hm ∙ ap (λ F. met F (keys_of k)) sh.is)) nil_is

      pub kept_met : m ≡ true → Grown b u b (record { used = u; root = h }) (ensure_child (keys_of k) false s f (tree_of b h)) (u + 2 * size_t (tree_of b h) + 1)
      kept_met q = stays E (want ∙ ap
          (λ y. cond y t (update_sort_ctx_children_data true (add_sort_above (keys_of k) f (cond (not x) t (update_child_to_remove_unnecessary_sort s t))))) q)

      module _ (q : m ≡ false) where
        not-met : met (fact (tree_of b h)) (keys_of k) ≡ false
        not-met = ap (λ F. met F (keys_of k)) (sym sh.is) ∙ sym hm ∙ q

        -- with no known order
        module _ (z : x ≡ false) where
          plain : ensure_child (keys_of k) false s f (tree_of b h) ≡ update_sort_ctx_children_data true (add_sort_above (keys_of k) f (tree_of b h))
          plain = want ∙ ap₂ (λ y v. cond y t
              (update_sort_ctx_children_data true (add_sort_above (keys_of k) f (cond (not v) t (update_child_to_remove_unnecessary_sort s t))))) q z

          pub plain_sorts : Sorts b u h (keys_of k) f
          plain_sorts =
              let r = p.room in let v = p.small in let n = p.few in
              record {
                under = record { arena = p.arena; here = p.here; room = omega arith; small = omega arith; few = omega arith };
                keys = o;
                some = some_fresh t t (keys_of k) refl not-met;
              }

          pub plain_grown : (b' : List ℕ) (a : At) → Grown b u b' a (update_sort_ctx_children_data true (add_sort_above (keys_of k) f (tree_of b h))) (u + 1)
              → Grown b u b' a (ensure_child (keys_of k) false s f (tree_of b h)) (u + 2 * size_t (tree_of b h) + 1)
          plain_grown b' a g = subst (λ v. Grown b u b' a v (u + 2 * size_t (tree_of b h) + 1)) (sym plain)
              (grown_more b u b' a _ (u + 1) (u + 2 * size_t (tree_of b h) + 1) (omega arith) g)

        -- with one: first removed below
        module _ (z : x ≡ true) (b' : List ℕ) (lb : length b' ≡ length b) (a : At)
            (g : Grown b u b' a (update_child_to_remove_unnecessary_sort s (tree_of b h)) (u + 2 * size_t (tree_of b h))) where
          over_it : ensure_child (keys_of k) false s f (tree_of b h) ≡ update_sort_ctx_children_data true (add_sort_above (keys_of k) f (tree_of b' a.root))
          over_it =
              want ∙ ap₂ (λ y v. cond y t (update_sort_ctx_children_data true
              (add_sort_above (keys_of k) f (cond (not v) t (update_child_to_remove_unnecessary_sort s t))))) q z
              ∙ ap (λ y. update_sort_ctx_children_data true (add_sort_above (keys_of k) f y)) (sym g.tree)

          blank_is : blank (fact (tree_of b' a.root)) ≡ blank (fact (tree_of b h))
          blank_is = ap (λ y. blank (fact y)) g.tree ∙ same_blank s t (ok_of b u h p.arena p.here)

          pub over_sorts : Sorts b' a.used a.root (keys_of k) f
          over_sorts =
              let r = p.room in let v = p.small in let n = p.few in let y = g.room in let w = update_size s t in let i = ap size_t g.tree in
              record {
                under = record { arena = g.arena; here = g.here; room = omega arith; small = omega arith; few = omega arith };
                keys = record {
                  short = o.short;
                  inside = subst (λ F. All (λ l. l.col < F.width) (keys_of k)) (sym blank_is) o.inside;
                  fetch = o.fetch;
                };
                some = some_fresh t (tree_of b' a.root) (keys_of k) blank_is not-met;
              }

          pub over_grown : (b'' : List ℕ) (c : At)
              → Grown b' a.used b'' c (update_sort_ctx_children_data true (add_sort_above (keys_of k) f (tree_of b' a.root))) (a.used + 1)
              → Grown b u b'' c (ensure_child (keys_of k) false s f (tree_of b h)) (u + 2 * size_t (tree_of b h) + 1)
          over_grown b'' c d =
              let y = g.room in
              subst (λ v. Grown b u b'' c v (u + 2 * size_t (tree_of b h) + 1)) (sym over_it)
              (grown_then b u b' a _ (u + 2 * size_t (tree_of b h)) b'' c _ (a.used + 1) (u + 2 * size_t (tree_of b h) + 1) g d (omega arith))

-- ---- as the code has the wanted order

pub child_unordered : (b : List ℕ) (u : ℕ) (b' : List ℕ) (a : At) (o : Option Keys) → o ≡ None → (keeps s : Bool) (f : Option ℕ) (t : Tree) (top : ℕ)
    → Grown b u b' a (ensure_child [] keeps s None t) top → Grown b u b' a (ensure_child (order_of o) keeps s f t) top
child_unordered b u b' a o e keeps s f t top g = subst (λ x. Grown b u b' a (ensure_child (order_of x) keeps s f t) top) (sym e) g

pub child_ordered : (b : List ℕ) (u : ℕ) (b' : List ℕ) (a : At) (o : Option Keys) (k : Keys) → o ≡ Some k → Real o → (keeps s : Bool) (f : Option ℕ) (t : Tree)
    (top : ℕ) → Grown b u b' a (ensure_child (keys_of k) false s f t) top → Grown b u b' a (ensure_child (order_of o) keeps s f t) top
child_ordered b u b' a o k e r keeps s f t top g =
    let n = some-keys k.len k.word (subst Real e r).0 in
    subst (λ x. Grown b u b' a (ensure_child (order_of x) keeps s f t) top) (sym e)
    (subst (λ x. Grown b u b' a x top) (by_some (keys_of k) false s f t n ∙ sym (by_some (keys_of k) keeps s f t n)) g)

pub ordered_asks : (o : Option Keys) (k : Keys) → o ≡ Some k → Real o → (t : Tree) (f : Option ℕ) → Sortable t (order_of o) f → (0 < k.len) × Sortable t (keys_of k) f
ordered_asks o k e r t f s = ((subst Real e r).0, subst (λ x. Sortable t (order_of x) f) e s)
