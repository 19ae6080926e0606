-- Which nodes are connected to a sort below them.
use Rattle.std.specs.Prelude.{◌≡◌, refl, Bool, true, false, cond, ◌&&◌, ◌||◌, List, [], ◌∷◌, ℕ, zero, suc, ◌+◌, ◌*◌, ◌≤◌, ◌<◌, length, get_or, take, drop, set, Option, Some, None}
use Rattle.std.proofs.Common.{sym, ap₂, ◌∙◌, subst, arith, add-one, length-set, drop_of_length-le, drop-cons, take-suc-set, drop-set-lt}
use Rattle.std.proofs.Math.Path.{ap}
use Rattle.row_order.proofs.Order.{no_bool}
use Rattle.plan.specs.Forest.{Forest, none, tree, roots}
use Rattle.semantics.specs.Facts.{is_nil}
use Rattle.semantics.specs.Properties.{wanted, maintains, is_limit}
use Rattle.key_lists.specs.Keys.{keys_in, order_of, Ordered}
use Rattle.key_lists.specs.declared.Keys.{Keys}
use Rattle.arena.specs.Arena.{index, marked, slot, Below}
use Rattle.arena.specs.Laws.{below_at, below_set}
use Rattle.walks.specs.Marks.{Marked, Tree, known, plant, op_t, set_mark, any_mark, any_below}
use Rattle.walks.specs.Utils.{is_sort, is_sort_preserving_merge}
use Rattle.walks.specs.Terms.{◌⊕◌}
use Rattle.walks.specs.EnsureSorting.{connected, connected_each}
use Rattle.plan_context.specs.View.{tree_of, forest, Arena}
use Rattle.plan_context.specs.Handles.{Marks}
use Rattle.plan_updates.specs.Kids.{snoc, plus_none}
use Rattle.sort_connection.specs.Standing.{Standing, tree_is}
use Rattle.scan.specs.Below.{or_false}

-- The node maintains the order of child j, and wants none of it
abbrev pub maintains_unasked : Tree → ℕ → Bool
maintains_unasked t j = maintains (op_t t) (known t.kids) j && is_nil (wanted (op_t t) j)

abbrev pub any_maintains_unasked : Tree → Bool
any_maintains_unasked t = any_below (length (roots t.kids)) (maintains_unasked t)

-- ---- one child

none_of : (a b : Bool) → b ≡ false → false ≡ a && b
none_of true b e = sym e
none_of false b e = refl

true_right : (a b : Bool) → b ≡ true → a ≡ a && b
true_right true b e = sym e
true_right false b e = refl

some_key : (n x : ℕ) → 0 < n → is_nil (keys_in n x) ≡ false
some_key zero x h = absurd (omega arith)
some_key (suc n) x h = refl

pub asked_some : (t : Tree) (j : ℕ) (o : Option Keys) → Ordered (wanted (op_t t) j) o → (k : Keys) → o ≡ Some k → false ≡ maintains_unasked t j
asked_some t j o w k e =
    let v : Ordered (wanted (op_t t) j) (Some k) = subst (Ordered (wanted (op_t t) j)) e w in
    none_of (maintains (op_t t) (known t.kids) j) (is_nil (wanted (op_t t) j)) (ap is_nil (sym v.is) ∙ some_key k.len k.word v.real.0)

pub asked_none : (t : Tree) (j : ℕ) (o : Option Keys) → Ordered (wanted (op_t t) j) o → o ≡ None → (b : Bool) → b ≡ maintains (op_t t) (known t.kids) j
    → b ≡ maintains_unasked t j
asked_none t j o w e b q = q ∙ true_right (maintains (op_t t) (known t.kids) j) (is_nil (wanted (op_t t) j)) (ap is_nil (sym w.is ∙ ap order_of e))

-- ---- some number below n

or_assoc : (a b c : Bool) → (a || (b || c)) ≡ ((a || b) || c)
or_assoc true b c = refl
or_assoc false b c = refl

or_true : (b : Bool) → (b || true) ≡ true
or_true true = refl
or_true false = refl

any_more : (n : ℕ) (p : ℕ → Bool) → any_below (suc n) p ≡ any_below n p || p n
any_more zero p = or_false (p 0)
any_more (suc n) p = ap (λ b. p 0 || b) (any_more n (λ i. p (suc i))) ∙ or_assoc (p 0) (any_below n (λ i. p (suc i))) (p (suc n))

any_at : (n : ℕ) (p : ℕ → Bool) (j : ℕ) → j < n → p j ≡ true → any_below n p ≡ true
any_at zero p j h e = absurd (omega arith)
any_at (suc n) p zero h e = ap (λ b. b || any_below n (λ i. p (suc i))) e
any_at (suc n) p (suc j) h e = ap (λ b. p 0 || b) (any_at n (λ i. p (suc i)) j (omega arith) e) ∙ or_true (p 0)

any_same : (n : ℕ) (p q : ℕ → Bool) → ((i : ℕ) → p i ≡ q i) → any_below n p ≡ any_below n q
any_same zero p q e = refl
any_same (suc n) p q e = ap₂ ◌||◌ (e 0) (any_same n (λ i. p (suc i)) (λ i. q (suc i)) (λ i. e (suc i)))

-- none of the first j, nor number j
pub any_next : (p : ℕ → Bool) (j : ℕ) → any_below j p ≡ false → p j ≡ false → any_below (j + 1) p ≡ false
any_next p j a b = rw (add-one j) (any_more j p ∙ ap₂ ◌||◌ a b)

pub count-roots : (m hs : List ℕ) → length (roots (forest m hs)) ≡ length hs
unfolding forest
count-roots m [] = refl
count-roots m (h ∷ hs) = ap suc (count-roots m hs)

mark_any : (m hs : List ℕ) → any_mark (forest m hs) ≡ any_below (length hs) (λ i. marked (get_or hs i 0))
unfolding forest
mark_any m [] = refl
mark_any m (h ∷ hs) = ap (λ b. marked h || b) (mark_any m hs)

module _ (m : List ℕ) (u h : ℕ) (a : Standing m u h) where
  abbrev hs : List ℕ
  hs = (slot m (index h)).kids

  free_is : any_maintains_unasked (tree_of m h) ≡ any_below (length (slot m (index h)).kids) (maintains_unasked (tree_of m h))
  free_is = ap (λ t. any_below (length (roots t.kids)) (maintains_unasked (tree_of m h))) (tree_is m u h a)
      ∙ ap (λ k. any_below k (maintains_unasked (tree_of m h))) (count-roots m hs)

  pub free_found : (j : ℕ) → j < length (slot m (index h)).kids → maintains_unasked (tree_of m h) j ≡ true → true ≡ any_maintains_unasked (tree_of m h)
  free_found j l e = sym (free_is ∙ any_at (length hs) (maintains_unasked (tree_of m h)) j l e)

  pub free_none : (j : ℕ) → j ≡ length (slot m (index h)).kids → any_below j (maintains_unasked (tree_of m h)) ≡ false → false ≡ any_maintains_unasked
      (tree_of m h)
  free_none j l b = sym (free_is ∙ ap (λ k. any_below k (maintains_unasked (tree_of m h))) (sym l) ∙ b)

  mark_is : any_mark (tree_of m h).kids ≡ any_below (length (slot m (index h)).kids) (λ i. marked (get_or (slot m (index h)).kids i 0))
  mark_is = ap (λ t. any_mark t.kids) (tree_is m u h a) ∙ mark_any m hs

  pub mark_found : (j : ℕ) → j < length (slot m (index h)).kids → marked (get_or (slot m (index h)).kids j 0) ≡ true → true ≡ any_mark (tree_of m h).kids
  mark_found j l e = sym (mark_is ∙ any_at (length hs) (λ i. marked (get_or hs i 0)) j l e)

  pub mark_none : (j : ℕ) → j ≡ length (slot m (index h)).kids → any_below j (λ i. marked (get_or (slot m (index h)).kids i 0)) ≡ false
      → false ≡ any_mark (tree_of m h).kids
  mark_none j l b = sym (mark_is ∙ ap (λ k. any_below k (λ i. marked (get_or hs i 0))) (sym l) ∙ b)

-- ---- connected

some_root : (c : Forest Marked) → any_mark c ≡ true → 0 < length (roots c)
some_root none e = no_bool e
some_root (tree m c r) e = omega arith

module _ (t : Tree) where
  abbrev any : Bool
  any = any_below (length (roots t.kids)) (λ i. maintains_unasked t i || is_sort_preserving_merge (op_t t))

  pub of_sort : is_sort (op_t t) ≡ true → true ≡ connected (op_t t) t.kids
  of_sort e = sym (ap (λ b. cond b true (cond (is_limit (op_t t)) false (any_mark t.kids && any))) e)

  module _ (e : is_sort (op_t t) ≡ false) where
    pub of_limit : is_limit (op_t t) ≡ true → false ≡ connected (op_t t) t.kids
    of_limit l = sym (ap₂ (λ b d. cond b true (cond d false (any_mark t.kids && any))) e l)

    module _ (l : is_limit (op_t t) ≡ false) where
      other : connected (op_t t) t.kids ≡ any_mark t.kids && any_below (length (roots t.kids))
          (λ i. maintains_unasked t i || is_sort_preserving_merge (op_t t))
      other = ap₂ (λ b d. cond b true (cond d false (any_mark t.kids && any))) e l

      pub of_unmarked : any_mark t.kids ≡ false → false ≡ connected (op_t t) t.kids
      of_unmarked z = sym (other ∙ ap (λ x. x && any) z)

      module _ (z : any_mark t.kids ≡ true) where
        pub of_merge : is_sort_preserving_merge (op_t t) ≡ true → true ≡ connected (op_t t) t.kids
        of_merge y =
            sym (other ∙ ap (λ x. x && any) z
            ∙ any_at (length (roots t.kids)) (λ i. maintains_unasked t i || is_sort_preserving_merge (op_t t)) 0 (some_root t.kids z)
            (ap (λ x. maintains_unasked t 0 || x) y ∙ or_true (maintains_unasked t 0)))

        pub of_other : is_sort_preserving_merge (op_t t) ≡ false → (f : Bool) → f ≡ any_maintains_unasked t → f ≡ connected (op_t t) t.kids
        of_other y f w =
            w ∙ any_same (length (roots t.kids)) (maintains_unasked t) (λ i. maintains_unasked t i || is_sort_preserving_merge (op_t t))
            (λ i. sym (ap (λ x. maintains_unasked t i || x) y ∙ or_false (maintains_unasked t i)))
            ∙ sym (other ∙ ap (λ x. x && any) z)

-- ---- marks put right

-- What `update_sort_ctx_children_data` leaves
pub record Connected (m : List ℕ) (u : ℕ) (ks₀ ks : List ℕ) : Type 0 where
  pub is : forest m ks ≡ connected_each (forest m ks₀)
  pub below : Below (2 * u) ks
  pub count : length ks ≡ length ks₀

-- The first j are done
pub record Connecting (m : List ℕ) (u : ℕ) (ks₀ : List ℕ) (j : ℕ) (ks : List ℕ) : Type 0 where
  pub is : forest m (take j ks) ⊕ connected_each (forest m (drop j ks)) ≡ connected_each (forest m ks₀)
  pub below : Below (2 * u) ks
  pub count : length ks ≡ length ks₀
  pub low : j ≤ length ks₀

pub connecting_none : (m : List ℕ) (u : ℕ) (ks : List ℕ) → Below (2 * u) ks → Connecting m u ks 0 ks
unfolding forest
connecting_none m u ks b = record { is = refl; below = b; count = refl; low = omega arith }

module _ (m : List ℕ) (u : ℕ) (ks₀ : List ℕ) (j : ℕ) (ks : List ℕ) (p : Connecting m u ks₀ j ks) (l : j < length ks) where
  pub next_at : Arena m u → Standing m u (get_or ks j 0)
  next_at a = record { arena = a; here = below_at (2 * u) ks j p.below l }

  pub next_small : Arena m u → get_or ks j 0 < 65536
  next_small a = let s = a.small in let x = below_at (2 * u) ks j p.below l in omega arith

  module _ (b : Bool) (q : b ≡ connected (op_t (tree_of m (get_or ks j 0))) (tree_of m (get_or ks j 0)).kids) (x : ℕ) (w : Marks (get_or ks j 0) b x) where
    split : forest m (drop j ks) ≡ plant (tree_of m (get_or ks j 0)) (forest m (drop (suc j) ks))
    unfolding forest
    split = ap (forest m) (drop-cons ks j 0 l)

    new : tree_of m x ≡ set_mark (connected (op_t (tree_of m (get_or ks j 0))) (tree_of m (get_or ks j 0)).kids) (tree_of m (get_or ks j 0))
    new = w.tree m ∙ ap (λ c. set_mark c (tree_of m (get_or ks j 0))) q

    pub connecting_more : Connecting m u ks₀ (j + 1) (set ks j x)
    connecting_more =
        let z = p.count in let y = below_at (2 * u) ks j p.below l in let v = w.slot in
        rw (add-one j) (record {
          is = ap₂ (λ a c. forest m a ⊕ connected_each (forest m c)) (take-suc-set ks j x l) (drop-set-lt (suc j) ks j x (omega arith))
              ∙ snoc m (take j ks) x (connected_each (forest m (drop (suc j) ks)))
              ∙ ap (λ t. forest m (take j ks) ⊕ plant t (connected_each (forest m (drop (suc j) ks)))) new
              ∙ ap (λ f. forest m (take j ks) ⊕ connected_each f) (sym split) ∙ p.is;
          below = below_set (2 * u) ks j x p.below (omega arith);
          count = length-set ks j x ∙ p.count;
          low = omega arith;
        })

pub take_all : (l : List ℕ) (j : ℕ) → length l ≤ j → take j l ≡ l
take_all [] zero h = refl
take_all [] (suc j) h = refl
take_all (x ∷ l) zero h = absurd (omega arith)
take_all (x ∷ l) (suc j) h = ap (λ r. x ∷ r) (take_all l j (omega arith))

pub connecting_all : (m : List ℕ) (u : ℕ) (ks₀ : List ℕ) (j : ℕ) (ks : List ℕ) → length ks ≤ j → Connecting m u ks₀ j ks → Connected m u ks₀ ks
unfolding forest
connecting_all m u ks₀ j ks h p =
    let d : drop j ks ≡ [] = drop_of_length-le ks {i = j} h in
    record {
      is = sym (plus_none (forest m ks)) ∙ ap₂ (λ a c. forest m a ⊕ connected_each (forest m c)) (sym (take_all ks j h)) (sym d) ∙ p.is;
      below = p.below;
      count = p.count;
    }
