-- Sorts and merges put above a tree.
use Rattle.std.specs.Prelude.{◌≡◌, refl, Bool, true, false, cond, ◌&&◌, List, [], ◌∷◌, ◌++◌, ℕ, ◌+◌, ◌*◌, ◌≤◌, ◌<◌, ltb, length, Option}
use Rattle.std.proofs.Common.{sym, ap, ap₂, ◌∙◌, subst, arith}
use Rattle.row_order.specs.Iso.{Key}
use Rattle.row_order.proofs.Order.{no_bool}
use Rattle.row_order.specs.Lists.{All}
use Rattle.plan.specs.Op.{sort_op, merge_op}
use Rattle.plan.specs.WellFormed.{fetch_ok, node_ok}
use Rattle.plan.specs.declared.Distribution.{Distribution}
use Rattle.plan_codec.specs.Decode.{decode}
use Rattle.plan_codec.specs.Encode.{encode}
use Rattle.semantics.specs.Facts.{Facts, met}
use Rattle.semantics.specs.Properties.{is_single, fresh_keys}
use Rattle.walks.specs.Marks.{Tree, fact, over, cover, cover_with, node, size_t}
use Rattle.walks.specs.Utils.{new_sort, new_merge, needs_merge, add_sort_above, add_sort_above_with_distribution, add_sort_above_with_check}
use Rattle.walks.proofs.Theorems.Common.Keys.{KeysFit, fresh_fits}
use Rattle.walks.proofs.Theorems.Common.NewNodes.{sort_ok, merge_ok, narrow_t}
use Rattle.key_lists.specs.Keys.{keys_of, Keyed}
use Rattle.key_lists.specs.Lists.{length_keys}
use Rattle.facts.specs.Known.{known as told}
use Rattle.fact_slots.specs.Slots.{loaded}
use Rattle.key_lists.specs.declared.Keys.{Keys}
use Rattle.arena.specs.declared.At.{At}
use Rattle.plan_context.specs.View.{tree_of, forest, Arena, Grown, Puts}
use Rattle.plan_context.specs.Facts.{Tells}
use Rattle.plan_updates.specs.Opening.{grown_none, grown_more, grown_then}
use Rattle.plan_updates.specs.Covering.{Under, cover_puts, cover_grown, ok_of}

-- Keys and a fetch that a sort over t can have
pub record Sortable (t : Tree) (ks : List Key) (f : Option ℕ) : Type 0 where
  pub short : length ks ≤ 8
  pub inside : All (λ k. k.col < (fact t).width) ks
  pub fetch : fetch_ok f ≡ true

pub few_keys : (t : Tree) (k : Keys) (f : Option ℕ) → Sortable t (keys_of k) f → k.len ≤ 8
few_keys t k f s = let x = s.short in omega (arith, length_keys k.len k.word)

module _ (m : List ℕ) (u h : ℕ) (ks : List Key) (f : Option ℕ) (a : Arena m u) (hh : h < 2 * u) (s : Sortable (tree_of m h) ks f) where
  abbrev T : Tree
  T = tree_of m h

  abbrev F : Facts
  F = fact (tree_of m h)

  -- l: the keys that are left
  fresh_ok : (l : List Key) → l ≡ fresh_keys (fact (tree_of m h)) [] ks → KeysFit F.width l
  fresh_ok l e = subst (KeysFit F.width) (sym e) (fresh_fits F F.width ks s.short s.inside)

  pub none_left : (l : List Key) → l ≡ fresh_keys (fact (tree_of m h)) [] ks → length l ≡ 0 → add_sort_above ks f (tree_of m h) ≡ tree_of m h
  none_left [] e n = ap (λ x. cover (new_sort (ltb 1 F.streams) x f) T) (sym e)
  none_left (k ∷ l) e n = absurd (omega arith)

  pub sort_is : (p : Bool) (l : List Key) → p ≡ ltb 1 (fact (tree_of m h)).streams → l ≡ fresh_keys (fact (tree_of m h)) [] ks → 0 < length l
      → over (sort_op p l f) false (tree_of m h) ≡ add_sort_above ks f (tree_of m h)
  sort_is p [] q e n = absurd (omega arith)
  sort_is p (k ∷ l) q e n = ap₂ (λ x y. cover (new_sort x y f) T) q e

  pub sort_fits : (p : Bool) (l : List Key) → l ≡ fresh_keys (fact (tree_of m h)) [] ks → 0 < length l → node_ok (sort_op p l f) ((fact (tree_of m h)).width ∷ [])
      ≡ true
  sort_fits p [] e n = absurd (omega arith)
  sort_fits p (k ∷ l) e n = sort_ok p k l f (F.width ∷ []) (fresh_ok (k ∷ l) e) s.fetch (refl, narrow_t T (ok_of m u h a hh))

  merge_fits : (l : List Key) → l ≡ fresh_keys (fact (tree_of m h)) [] ks → 0 < length l → (w : ℕ) → w ≡ (fact (tree_of m h)).width
      → node_ok (merge_op l f) (w ∷ []) ≡ true
  merge_fits [] e n w q = absurd (omega arith)
  merge_fits (k ∷ l) e n w q = subst (λ x. node_ok (merge_op (k ∷ l) f) (x ∷ []) ≡ true) (sym q) (merge_ok k l f (F.width ∷ []) (fresh_ok (k ∷ l) e) s.fetch (refl, narrow_t T (ok_of m u h a hh)))

  -- the code's keys, from the row of facts b
  module _ (b : List ℕ) (t : Tells (tree_of m h) b) (k : Keys) (q : Keyed (fresh_keys (told (loaded b)) [] ks) k) where
    left_is : keys_of k ≡ fresh_keys (fact (tree_of m h)) [] ks
    left_is = q.is ∙ ap (λ G. fresh_keys G [] ks) t.is

    long : length (keys_of k) ≡ k.len
    long = length_keys k.len k.word

    pub above_none : k.len ≡ 0 → Grown m u m (record { used = u; root = h }) (add_sort_above ks f (tree_of m h)) (u + 1)
    above_none n = subst (λ x. Grown m u m (record { used = u; root = h }) x (u + 1)) (sym (none_left (keys_of k) left_is (long ∙ n)))
        (grown_none m u h (u + 1) a hh (omega arith))

    module _ (n : 0 < k.len) (p : Bool) (r : List ℕ) (e : r ≡ encode 1 (sort_op p (keys_of k) f)) (v : Under m u h 1) where
      fits : node_ok (sort_op p (keys_of k) f) ((fact (tree_of m h)).width ∷ []) ≡ true
      fits = sort_fits p (keys_of k) left_is (let x = long in omega arith)

      pub above_puts : Puts m u r (h ∷ [])
      above_puts = cover_puts m u h v (sort_op p (keys_of k) f) fits r e (ok_of m u h a hh)

      pub above_grown : p ≡ ltb 1 (told (loaded b)).streams → (m' : List ℕ) (x : At) → Grown m u m' x (node (decode r) false (forest m (h ∷ []))) (u + 1)
          → Grown m u m' x (add_sort_above ks f (tree_of m h)) (u + 1)
      above_grown i m' x g =
          subst (λ y. Grown m u m' x y (u + 1)) (sort_is p (keys_of k) (i ∙ ap (λ G. ltb 1 G.streams) t.is) left_is (let y = long in omega arith))
          (cover_grown m u h v (sort_op p (keys_of k) f) fits r e m' x (u + 1) g)

  -- the node is in the order of the keys, or not
  module _ (b : List ℕ) (t : Tells (tree_of m h) b) (x : Bool) (e : x ≡ met (told (loaded b)) ks) where
    met_is : met (fact (tree_of m h)) ks ≡ x
    met_is = sym (e ∙ ap (λ G. met G ks) t.is)

    pub met_already : x ≡ true → Grown m u m (record { used = u; root = h }) (add_sort_above_with_check ks f (tree_of m h)) (u + 1)
    met_already i =
        subst (λ y. Grown m u m (record { used = u; root = h }) (cond y (tree_of m h) (add_sort_above ks f (tree_of m h))) (u + 1)) (sym (met_is ∙ i))
        (grown_none m u h (u + 1) a hh (omega arith))

    pub met_not : x ≡ false → (m' : List ℕ) (z : At) → Grown m u m' z (add_sort_above ks f (tree_of m h)) (u + 1)
        → Grown m u m' z (add_sort_above_with_check ks f (tree_of m h)) (u + 1)
    met_not i m' z g = subst (λ y. Grown m u m' z (cond y (tree_of m h) (add_sort_above ks f (tree_of m h))) (u + 1)) (sym (met_is ∙ i)) g

-- ---- with the parent's distribution

pub under_less : (m : List ℕ) (u h : ℕ) → Under m u h 2 → Under m u h 1
under_less m u h v = let x = v.room in let y = v.small in let z = v.few in
    record { arena = v.arena; here = v.here; room = omega arith; small = omega arith; few = omega arith }

module _ (d : Distribution) (f : Option ℕ) (ks : List Key) (t : Tree) where
  abbrev Gathered : Bool → List Key → Tree
  Gathered x l = cover_with false (cond x (new_merge l f ++ new_sort (ltb 1 (fact t).streams) l f) (new_sort (ltb 1 (fact t).streams) l f)) t

  gathers : (x : Bool) (l : List Key) → x ≡ true → 0 < length l → over (merge_op l f) false (cover (new_sort (ltb 1 (fact t).streams) l f) t) ≡ Gathered x l
  gathers true [] e n = absurd (omega arith)
  gathers true (k ∷ l) e n = refl
  gathers false l e n = no_bool e

  stays : (x : Bool) (l : List Key) → (x ≡ true → 0 < length l → ⊥) → cover (new_sort (ltb 1 (fact t).streams) l f) t ≡ Gathered x l
  stays true [] e = refl
  stays true (k ∷ l) e = absurd (e refl (omega arith))
  stays false l e = refl

module _ (m : List ℕ) (u h : ℕ) (ks : List Key) (f : Option ℕ) (d : Distribution) (v : Under m u h 2) (s : Sortable (tree_of m h) ks f) (b : List ℕ)
    (t : Tells (tree_of m h) b) (k : Keys) (q : Keyed (fresh_keys (told (loaded b)) [] ks) k)
    (m₁ : List ℕ) (lm : length m₁ ≡ length m) (z : At) (g : Grown m u m₁ z (add_sort_above ks f (tree_of m h)) (u + 1)) (x : Bool)
    (ex : x ≡ ltb 1 (told (loaded b)).streams && is_single d) where
  left : keys_of k ≡ fresh_keys (fact (tree_of m h)) [] ks
  left = q.is ∙ ap (λ G. fresh_keys G [] ks) t.is

  needs : x ≡ needs_merge (fact (tree_of m h)) d
  needs = ex ∙ ap (λ G. ltb 1 G.streams && is_single d) t.is

  long_is : length (keys_of k) ≡ k.len
  long_is = length_keys k.len k.word

  pub gathered_not : (x ≡ true → 0 < k.len → ⊥) → Grown m u m₁ z (add_sort_above_with_distribution false ks f d (tree_of m h)) (u + 2)
  gathered_not n =
      grown_more m u m₁ z _ (u + 1) (u + 2) (omega arith)
      (subst (λ y. Grown m u m₁ z y (u + 1))
      (stays d f ks (tree_of m h) (needs_merge (fact (tree_of m h)) d) (fresh_keys (fact (tree_of m h)) [] ks)
      (λ e c. n (needs ∙ e) (let w = ap length left in let y = long_is in omega arith))) g)

  module _ (n : 0 < k.len) (r : List ℕ) (e : r ≡ encode 1 (merge_op (keys_of k) f)) where
    some : 0 < length (keys_of k)
    some = let y = long_is in omega arith

    sorted : tree_of m₁ z.root ≡ over (sort_op (ltb 1 (fact (tree_of m h)).streams) (keys_of k) f) false (tree_of m h)
    sorted = g.tree ∙ sym (sort_is m u h ks f v.arena v.here s (ltb 1 (fact (tree_of m h)).streams) (keys_of k) refl left some)

    merged : node_ok (merge_op (keys_of k) f) ((fact (tree_of m₁ z.root)).width ∷ []) ≡ true
    merged = merge_fits m u h ks f v.arena v.here s (keys_of k) left some (fact (tree_of m₁ z.root)).width (ap (λ y. (fact y).width) sorted)

    room : Under m₁ z.used z.root 1
    room =
        let c = g.room in let i = v.room in let j = v.small in let y = v.few in let w = ap size_t sorted in
        record { arena = g.arena; here = g.here; room = omega arith; small = omega arith; few = omega arith }

    pub gathered_puts : Puts m₁ z.used r (z.root ∷ [])
    gathered_puts = cover_puts m₁ z.used z.root room (merge_op (keys_of k) f) merged r e (ok_of m₁ z.used z.root g.arena g.here)

    pub gathered_grown : x ≡ true → (m₂ : List ℕ) (c : At) → Grown m₁ z.used m₂ c (node (decode r) false (forest m₁ (z.root ∷ []))) (z.used + 1)
        → Grown m u m₂ c (add_sort_above_with_distribution false ks f d (tree_of m h)) (u + 2)
    gathered_grown i m₂ c y =
        let top = g.room in
        subst (λ y. Grown m u m₂ c y (u + 2))
        (ap₂ (λ p w. over (merge_op p f) false w) left g.tree ∙ gathers d f ks (tree_of m h) (needs_merge (fact (tree_of m h)) d)
        (fresh_keys (fact (tree_of m h)) [] ks) (sym needs ∙ i) (subst (λ l. 0 < length l) left some))
        (grown_then m u m₁ z _ (u + 1) m₂ c _ (z.used + 1) (u + 2) g (cover_grown m₁ z.used z.root room (merge_op (keys_of k) f) merged r e m₂ c
        (z.used + 1) y) (omega arith))
