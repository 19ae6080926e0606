-- Answers of the code are the definition's, test by test. Assumes nothing.
use Rattle.std.specs.Prelude.{◌≡◌, Bool, true, false, cond, not, ◌&&◌, ◌||◌, List, [], ℕ, zero, suc, ◌<◌, Option, Some, None}
use Rattle.std.proofs.Common.{sym, ap, ◌∙◌, arith}
use Rattle.std.proofs.Math.Path.{subst⁻¹}
use Rattle.row_order.specs.Iso.{Key}
use Rattle.semantics.specs.Facts.{Facts, is_nil, compatible, known_order}
use Rattle.key_lists.specs.declared.Keys.{Keys}
use Rattle.key_lists.specs.Keys.{keys_in, keys_of, order_of, Real, Ordered}
use Rattle.walks.specs.SortPushdown as walk
use Rattle.push_requirements.specs.declared.ChildOrders.{ChildOrders}
use Rattle.push_requirements.specs.Pushing.{order_by, Handed, HandsOn}

-- ---- going and stopping

pub go_stop : (m : ℕ) (b : Bool) (g : ℕ → List Key) → b ≡ false → HandsOn m (walk.go_if b g) None
go_stop m b g e = subst⁻¹ (λ x. HandsOn m (walk.go_if x g) None) e tt

pub go_on : (m : ℕ) (b : Bool) (g : ℕ → List Key) (p : Option ChildOrders) → b ≡ true → HandsOn m (walk.goes g) p → HandsOn m (walk.go_if b g) p
go_on m b g p e h = subst⁻¹ (λ x. HandsOn m (walk.go_if x g) p) e h

pub cond_yes : (m : ℕ) (b : Bool) (P Q : walk.Pushed) (p : Option ChildOrders) → b ≡ true → HandsOn m P p → HandsOn m (cond b P Q) p
cond_yes m b P Q p e h = subst⁻¹ (λ x. HandsOn m (cond x P Q) p) e h

pub cond_no : (m : ℕ) (b : Bool) (P Q : walk.Pushed) (p : Option ChildOrders) → b ≡ false → HandsOn m Q p → HandsOn m (cond b P Q) p
cond_no m b P Q p e h = subst⁻¹ (λ x. HandsOn m (cond x P Q) p) e h

-- one order for all children
pub alike : (m : ℕ) (ks : List Key) (x : Option Keys) → Ordered ks x → Handed m (λ i. ks) x x
alike m ks x h = record { is = at; first = h.real; rest = h.real }
  where
    at : (i : ℕ) → i < m → order_by x x i ≡ ks
    at zero l = h.is
    at (suc i) l = h.is

pub right_only : (m : ℕ) (ks : List Key) (y : Option Keys) → Ordered ks y → Handed m (walk.on_right ks) None y
right_only m ks y h = record { is = at; first = tt; rest = h.real }
  where
    at : (i : ℕ) → i < m → order_by None y i ≡ walk.on_right ks i
    at zero l = λ i. []
    at (suc i) l = h.is

-- two children of a join
module _ (ks : List Key) (w : ℕ → List Key) (x y : Option Keys) where
  pub to_left : Ordered ks x → Ordered (w 1) y → Handed 2 (walk.side_order 0 ks w) x y
  to_left d f = record { is = at; first = d.real; rest = f.real }
    where
      at : (i : ℕ) → i < 2 → order_by x y i ≡ walk.side_order 0 ks w i
      at zero l = d.is
      at (suc zero) l = f.is
      at (suc (suc i)) l = absurd (omega arith)

  pub to_right : Ordered (w 0) x → Ordered ks y → Handed 2 (walk.side_order 1 ks w) x y
  to_right d f = record { is = at; first = d.real; rest = f.real }
    where
      at : (i : ℕ) → i < 2 → order_by x y i ≡ walk.side_order 1 ks w i
      at zero l = d.is
      at (suc zero) l = f.is
      at (suc (suc i)) l = absurd (omega arith)

-- ---- tests

pub and_no : (a b : Bool) → a ≡ false → a && b ≡ false
and_no a b e = ap (λ x. x && b) e

pub and_so : (a b : Bool) → a ≡ true → a && b ≡ b
and_so a b e = ap (λ x. x && b) e

-- ---- orders

pub none_in : (ks : List Key) (o : Option Keys) → Ordered ks o → o ≡ None → is_nil ks ≡ true
none_in ks o h e = ap is_nil (sym (ap order_of (sym e) ∙ h.is))

pub some-keys : (k : Keys) → Real (Some k) → is_nil (keys_of k) ≡ false
some-keys k h = go k.len h.0
  where
    go : (n : ℕ) → 0 < n → is_nil (keys_in n k.word) ≡ false
    go zero l = absurd (omega arith)
    go (suc n) l = λ i. false

-- an order by keys: the keys are its list, and there is one
module _ (ks : List Key) (o : Option Keys) (k : Keys) (h : Ordered ks o) (e : o ≡ Some k) where
  pub by_is : keys_of k ≡ ks
  by_is = ap order_of (sym e) ∙ h.is

  pub by_real : Real (Some k)
  by_real = subst⁻¹ Real (sym e) h.real

  pub by_some : is_nil ks ≡ false
  by_some = ap is_nil (sym by_is) ∙ some-keys k by_real

pub order_allows_none : (F : Facts) (ps : List Key) (o : Option Keys) → Ordered (known_order F) o → o ≡ None
    → true ≡ (is_nil (known_order F) || compatible F ps (known_order F))
order_allows_none F ps o h e = sym (ap (λ b. b || compatible F ps (known_order F)) (none_in (known_order F) o h e))

pub order_allows_some : (F : Facts) (ps : List Key) (o : Option Keys) (k : Keys) → Ordered (known_order F) o → o ≡ Some k → (x : Bool)
    → x ≡ compatible F ps (keys_of k) → x ≡ (is_nil (known_order F) || compatible F ps (known_order F))
order_allows_some F ps o k h e x d = d ∙ ap (compatible F ps) (by_is (known_order F) o k h e)
    ∙ sym (ap (λ b. b || compatible F ps (known_order F)) (by_some (known_order F) o k h e))

-- a merge that knows no order, or one
pub merge_stop : (F : Facts) (ps : List Key) (o : Option Keys) (m : ℕ) → Ordered (known_order F) o → o ≡ None → HandsOn m (walk.handle_merge F ps) None
merge_stop F ps o m h e = go_stop m _ _ (and_no (not (is_nil (known_order F))) _ (ap not (none_in (known_order F) o h e)))

module _ (F : Facts) (ps : List Key) (o : Option Keys) (k : Keys) (m : ℕ) (h : Ordered (known_order F) o) (e : o ≡ Some k) (x : Bool)
    (d : x ≡ compatible F ps (keys_of k)) where
  merge_test : not (is_nil (known_order F)) && compatible F ps (known_order F) ≡ x
  merge_test = and_so (not (is_nil (known_order F))) _ (ap not (by_some (known_order F) o k h e))
      ∙ sym (d ∙ ap (compatible F ps) (by_is (known_order F) o k h e))

  pub merge_goes : x ≡ true → (p : Option ChildOrders) → HandsOn m (walk.goes (λ i. ps)) p → HandsOn m (walk.handle_merge F ps) p
  merge_goes f p g = go_on m _ _ p (merge_test ∙ f) g

  pub merge_differs : x ≡ false → HandsOn m (walk.handle_merge F ps) None
  merge_differs f = go_stop m _ _ (merge_test ∙ f)
