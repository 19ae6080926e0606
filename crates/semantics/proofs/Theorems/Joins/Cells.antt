-- The rows of a join, cell by cell, and the order of rows in groups. Assumes nothing.
use Rattle.std.specs.Prelude.{◌≡◌, refl, Bool, true, false, cond, List, [], ◌∷◌, ◌++◌, map, ℕ, ◌+◌, ◌-◌, ◌≤◌, ◌<◌, ℤ, pos, negsuc}
use Rattle.std.proofs.Common.{sym, ap, ◌∙◌, arith, eqb-true, get_or-append-add}
use Rattle.std.proofs.Math.ListN.{get_or-append}
use Rattle.row_order.specs.Iso.{Cell, null, num, Row, Key, cell, eqℤ}
use Rattle.row_order.specs.RowLists.{le, row_discrete, Rel, Sorted}
use Rattle.row_order.proofs.Order.{no_bool, le_refl}
use Rattle.row_order.specs.Lists.{concat, All, all_nil, all_cons, pw_nil, pw_cons, tab}
use Rattle.row_order.specs.ListLaws.{all_head, all_tail, all_map, all_append, same_all, pw_head, pw_tail, all_concat, all_over, length-tab, get_or-tab}
use Rattle.semantics.specs.Joins.{keep, join_row, eq_cells, or_else, if_any, Grouped, grouped_nil, grouped_cons}

pub cell_left : (w : ℕ) (l r : Row) (c : ℕ) → c < w → cell (join_row w l r) c ≡ cell l c
cell_left w l r c h = get_or-append (tab w (cell l)) r null c (omega (arith, length-tab w (cell l))) ∙ get_or-tab w (cell l) null c h

pub cell_right : (w : ℕ) (l r : Row) (c : ℕ) → cell (join_row w l r) (w + c) ≡ cell r c
cell_right w l r c = ap (λ (n : ℕ). cell (join_row w l r) (n + c)) (sym (length-tab w (cell l))) ∙ get_or-append-add (tab w (cell l)) r c null

pub cell_far : (w : ℕ) (l r : Row) (c : ℕ) → w ≤ c → cell (join_row w l r) c ≡ cell r (c - w)
cell_far w l r c h = ap (cell (join_row w l r)) (omega arith) ∙ cell_right w l r (c - w)

-- ---- SQL equality
eqℤ-true : (x y : ℤ) → eqℤ x y ≡ true → x ≡ y
eqℤ-true (pos a) (pos b) e = ap pos (eqb-true a b e)
eqℤ-true (pos a) (negsuc b) e = no_bool e
eqℤ-true (negsuc a) (pos b) e = no_bool e
eqℤ-true (negsuc a) (negsuc b) e = ap negsuc (eqb-true a b e)

pub eq_cells-true : (x y : Cell) → eq_cells x y ≡ true → x ≡ y
eq_cells-true null y e = no_bool e
eq_cells-true (num x) null e = no_bool e
eq_cells-true (num x) (num y) e = ap num (eqℤ-true x y e)

-- ---- what holds of all of them
pub keep-true : {A : Type 0} (p : A → Bool) (l : List A) → All (λ x. p x ≡ true) (keep p l)
keep-true p [] = all_nil
keep-true p (x ∷ l) = go (p x) refl (keep-true p l)
  where
    go : (b : Bool) → p x ≡ b → All (λ y. p y ≡ true) (keep p l) → All (λ y. p y ≡ true) (cond b (x ∷ keep p l) (keep p l))
    go true e h = all_cons e h
    go false e h = h

pub or_else_all : {A : Type 0} {P : A → Type 0} {l m : List A} → All P l → All P m → All P (or_else l m)
or_else_all all_nil qs = qs
or_else_all (all_cons p ps) qs = all_cons p ps

pub if_any_all : {A B : Type 0} {P : B → Type 0} (l : List A) {m n : List B} → All P m → All P n → All P (if_any l m n)
if_any_all [] ps qs = qs
if_any_all (x ∷ l) ps qs = ps

pub any_all : {A : Type 0} {P : A → Type 0} → ((x : A) → P x) → (l : List A) → All P l
any_all f [] = all_nil
any_all f (x ∷ l) = all_cons (f x) (any_all f l)

pub map_all : {A B : Type 0} {P : B → Type 0} (f : A → B) → ((x : A) → P (f x)) → (l : List A) → All P (map f l)
map_all f h [] = all_nil
map_all f h (x ∷ l) = all_cons (h x) (map_all f h l)

pub grouped_all : {P Q : Row → Type 0} {g : Row → List Row} {l m : List Row} → ((x : Row) → P x → All Q (g x)) → All P l → Grouped g l m → All Q m
grouped_all f ps grouped_nil = all_nil
grouped_all f ps (grouped_cons {x = x} {t = t} s h) = all_append (same_all row_discrete t s (f x (all_head ps))) (grouped_all f (all_tail ps) h)

pub concat_all : {P Q : Row → Type 0} (g : Row → List Row) {l : List Row} → ((x : Row) → P x → All Q (g x)) → All P l → All Q (concat (map g l))
concat_all g {l} f ps = all_concat (map g l) (all_over g f ps)

-- rows in groups are in order: Im x y says that y is a row of x's group
pub grouped_sorted : (ks ls : List Key) {Im : Row → Row → Type 0} {g : Row → List Row} {l m : List Row} →
    ((x : Row) → All (Im x) (g x)) → ((x y a b : Row) → Im x a → Im y b → le ks x y ≡ true → le ls a b ≡ true) → Sorted ks l → Grouped g l m → Sorted ls m
grouped_sorted ks ls im f ss grouped_nil = pw_nil
grouped_sorted ks ls {Im} {g} im f ss (grouped_cons {x = x} {l = l} {t = t} {m = m} s h) =
    join t (same_all row_discrete t s (im x)) (rest l (pw_head ss) h) (grouped_sorted ks ls im f (pw_tail ss) h)
  where
    -- the rows of later groups come from later rows
    Late : Row → Type 0
    Late b = (y : Row) × Im y b × (le ks x y ≡ true)

    rest : (l : List Row) → All (Rel ks x) l → {m : List Row} → Grouped g l m → All Late m
    rest l qs h = grouped_all {P = Rel ks x} (λ y q. all_map (λ b i. (y, i, q)) (im y)) qs h

    join : (t : List Row) → All (Im x) t → All Late m → Sorted ls m → Sorted ls (t ++ m)
    join [] is lt so = so
    join (a ∷ t) is lt so =
        pw_cons (all_append (all_map (λ b i. f x x a b (all_head is) i (le_refl ks x)) (all_tail is))
        (all_map (λ b q. f x q.0 a b (all_head is) q.1 q.2) lt)) (join t (all_tail is) lt so)
