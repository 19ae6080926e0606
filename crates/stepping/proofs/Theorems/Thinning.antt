-- Rows left out: what waits in a state, and what still comes there, is part of what came before. Assumes nothing.
use Rattle.std.specs.Prelude.{◌≡◌, refl, Bool, true, false, cond, List, [], ◌∷◌, ◌++◌, ℕ, zero, suc, eqb}
use Rattle.std.proofs.Common.{sym, ap, ◌∙◌, subst}
use Rattle.row_order.specs.Iso.{Row, Key}
use Rattle.row_order.specs.Lists.{All, all_nil, all_cons, Pw, pw_nil, pw_cons}
use Rattle.plan.specs.Forest.{Forest, none, tree, roots}
use Rattle.semantics.specs.Runs.{Streams, Each, each_nil, each_cons}
use Rattle.stepping.specs.Outlets.{Placed, on}
use Rattle.stepping.proofs.Theorems.Picking.{Removed, rem_here, rem_there}

-- The first list is the second without some of its rows
pub data Sub : List Row → List Row → Type 0 where
  sub_nil : Sub [] []
  sub_keep : {x : Row} {l m : List Row} → Sub l m → Sub (x ∷ l) (x ∷ m)
  sub_drop : {x : Row} {l m : List Row} → Sub l m → Sub l (x ∷ m)

pub sub_refl : (l : List Row) → Sub l l
sub_refl [] = sub_nil
sub_refl (x ∷ l) = sub_keep (sub_refl l)

pub sub_trans : {l m n : List Row} → Sub l m → Sub m n → Sub l n
sub_trans s sub_nil = s
sub_trans (sub_keep s) (sub_keep t) = sub_keep (sub_trans s t)
sub_trans (sub_drop s) (sub_keep t) = sub_drop (sub_trans s t)
sub_trans s (sub_drop t) = sub_drop (sub_trans s t)

sub_none : (l : List Row) → Sub [] l
sub_none [] = sub_nil
sub_none (x ∷ l) = sub_drop (sub_none l)

pub sub_append : {l m : List Row} (n : List Row) → Sub l m → Sub (l ++ n) (m ++ n)
sub_append n sub_nil = sub_refl n
sub_append n (sub_keep s) = sub_keep (sub_append n s)
sub_append n (sub_drop s) = sub_drop (sub_append n s)

pub sub_front : (l n : List Row) → Sub l (l ++ n)
sub_front [] n = sub_none n
sub_front (x ∷ l) n = sub_keep (sub_front l n)

sub_all : {P : Row → Type 0} {l m : List Row} → Sub l m → All P m → All P l
sub_all sub_nil h = all_nil
sub_all (sub_keep s) (all_cons p h) = all_cons p (sub_all s h)
sub_all (sub_drop s) (all_cons p h) = sub_all s h

pub sub_pw : {R : Row → Row → Type 0} {l m : List Row} → Sub l m → Pw R m → Pw R l
sub_pw sub_nil h = pw_nil
sub_pw (sub_keep s) (pw_cons p h) = pw_cons (sub_all s p) (sub_pw s h)
sub_pw (sub_drop s) (pw_cons p h) = sub_pw s h

-- a row taken
pub removed_sub : {ks : List Key} {p : ℕ → Bool} {x : Placed} {l m : List Placed} → Removed ks p x l m → (k : ℕ) → Sub (on k m) (on k l)
removed_sub {x = x} (rem_here {l = l}) k = go (eqb x.stream k)
  where
    go : (b : Bool) → Sub (on k l) (cond b (x.row ∷ on k l) (on k l))
    go true = sub_drop (sub_refl (on k l))
    go false = sub_refl (on k l)
removed_sub (rem_there {y = y} {l = l} {m = m} q r) k = go (eqb y.stream k) (removed_sub r k)
  where
    go : (b : Bool) → Sub (on k m) (on k l) → Sub (cond b (y.row ∷ on k m) (on k m)) (cond b (y.row ∷ on k l) (on k l))
    go true s = sub_keep s
    go false s = s

-- ---- streams, and those of every node
pub each_sub : (ss : Streams) → Each Sub ss ss
each_sub [] = each_nil
each_sub (l ∷ ss) = each_cons (sub_refl l) (each_sub ss)

each_trans : {ss ts us : Streams} → Each Sub ss ts → Each Sub ts us → Each Sub ss us
each_trans each_nil each_nil = each_nil
each_trans (each_cons s h) (each_cons t k) = each_cons (sub_trans s t) (each_trans h k)

pub each_pw : {R : Row → Row → Type 0} {ss ts : Streams} → Each Sub ss ts → All (Pw R) ts → All (Pw R) ss
each_pw each_nil h = all_nil
each_pw (each_cons s k) (all_cons p h) = all_cons (sub_pw s p) (each_pw k h)

pub data Thinner : Forest Streams → Forest Streams → Type 0 where
  thin_none : Thinner none none
  thin_tree : {s t : Streams} {a b c d : Forest Streams} → Each Sub s t → Thinner a b → Thinner c d → Thinner (tree s a c) (tree t b d)

pub thin_refl : (f : Forest Streams) → Thinner f f
thin_refl none = thin_none
thin_refl (tree s c r) = thin_tree (each_sub s) (thin_refl c) (thin_refl r)

pub thin_trans : {a b c : Forest Streams} → Thinner a b → Thinner b c → Thinner a c
thin_trans thin_none thin_none = thin_none
thin_trans (thin_tree s a b) (thin_tree t c d) = thin_tree (each_trans s t) (thin_trans a c) (thin_trans b d)

pub thin_roots : {a b : Forest Streams} → Thinner a b → Each (Each Sub) (roots a) (roots b)
thin_roots thin_none = each_nil
thin_roots (thin_tree s a b) = each_cons s (thin_roots b)
