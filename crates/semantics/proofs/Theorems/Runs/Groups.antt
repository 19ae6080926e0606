-- What an aggregate delivers, told without its definition: the rows that begin groups are of different groups (`begins_apart`), have a row for the
-- group of each row of the stream (`begins_all_groups`) and stand in the order in which the groups begin (`begins-next`); groups are those of each
-- stream, nulls are one group, an empty stream has none, cells are any (`groups_only`, `groups_any`).
use Rattle.std.specs.Prelude.{◌≡◌, refl, Bool, true, false, cond, not, ◌&&◌, ◌||◌, List, [], ◌∷◌, ◌++◌, ℕ, pos, length}
use Rattle.std.proofs.Common.{sym, ap, ap₂, ◌∙◌}
use mathlib.Core.List.Memᴰ.{head as here}
use mathlib.Core.List.Memᴰ.{tail as there}
use mathlib.Core.List.{Memᴰ as Mem}
use Rattle.row_order.specs.Iso.{Cell, null, num, Row, Key, cell, peers}
use Rattle.row_order.proofs.Order.{le_k, no_bool, peers_is, le_k_anti, agree}
use Rattle.row_order.specs.Lists.{All, all_nil, all_cons, Pw, pw_nil, pw_cons}
use Rattle.row_order.specs.ListLaws.{all_map}
use Rattle.plan.specs.Forest.{Forest, roots}
use Rattle.plan.specs.Op.{aggregate}
use Rattle.plan.specs.Samples.{by}
use Rattle.plan.specs.WellFormed.{columns_of}
use Rattle.semantics.specs.Joins.{keep}
use Rattle.semantics.specs.Runs.{Streams, Env, Each, each_nil, each_cons, proj, Run, run_none, run_tree, one_group, begins, GroupRow, Grouping}
use Rattle.semantics.proofs.Examples.SampleRows.{pair, Has}
use Rattle.semantics.proofs.Theorems.Common.Bools.{and_left, and_right}
use Rattle.semantics.proofs.Theorems.Common.Streams.{keep_pw}
use Rattle.semantics.proofs.Theorems.Joins.Cells.{keep-true}
use Rattle.semantics.proofs.Theorems.Runs.NotNarrower.{from, over, gives, over_run}
use Rattle.semantics.proofs.Theorems.Runs.SharedTables.{over_made}
use Rattle.semantics.proofs.Theorems.Runs.Rows.{map_id}

-- ---- a group is told by the cells of its columns
pub group_cells : (ks : List Key) (x y : Row) → one_group ks x y ≡ true → proj (columns_of ks) x ≡ proj (columns_of ks) y
group_cells [] x y e = refl
group_cells (k ∷ ks) x y e =
    let p : le_k k x y && le_k k y x ≡ true = sym (peers_is k x y) ∙ and_left (peers k x y) (one_group ks x y) e in
    ap₂ ◌∷◌ (le_k_anti k x y (and_left (le_k k x y) (le_k k y x) p) (and_right (le_k k x y) (le_k k y x) p))
    (group_cells ks x y (and_right (peers k x y) (one_group ks x y) e))

pub cells_group : (ks : List Key) (x y : Row) → proj (columns_of ks) x ≡ proj (columns_of ks) y → one_group ks x y ≡ true
cells_group [] x y e = refl
cells_group (k ∷ ks) x y e =
    let p : cell x k.col ≡ cell y k.col = ap (first null) e in
    ap₂ ◌&&◌ (peers_is k x y ∙ ap₂ ◌&&◌ (agree k x y p) (agree k y x (sym p))) (cells_group ks x y (ap rest e))
  where
    first : Cell → Row → Cell
    first d [] = d
    first d (c ∷ r) = c

    rest : Row → Row
    rest [] = []
    rest (c ∷ r) = r

-- ---- one row for each group
not-true : (b : Bool) → not b ≡ true → b ≡ false
not-true true e = no_bool e
not-true false e = refl

pub begins_apart : (ks : List Key) (l : List Row) → Pw (λ x y. one_group ks x y ≡ false) (begins ks l)
begins_apart ks [] = pw_nil
begins_apart ks (x ∷ l) =
    pw_cons (all_map (λ y e. not-true (one_group ks x y) e) (keep-true (λ y. not (one_group ks x y)) (begins ks l)))
    (keep_pw (λ y. not (one_group ks x y)) (begins_apart ks l))

-- a row that a test takes stays
keep_mem : {A : Type 0} (p : A → Bool) {x : A} {l : List A} → p x ≡ true → Mem x l → Mem x (keep p l)
keep_mem {A} p {x} e (here {x = y} {xs = l} q) = go (p y) (sym (ap p q) ∙ e)
  where
    go : (b : Bool) → b ≡ true → Mem x (cond b (y ∷ keep p l) (keep p l))
    go true f = here q
    go false f = no_bool f
keep_mem {A} p {x} e (there {x = y} {xs = l} h) = go (p y) (keep_mem p e h)
  where
    go : (b : Bool) → Mem x (keep p l) → Mem x (cond b (y ∷ keep p l) (keep p l))
    go true f = there f
    go false f = f

-- The group of y has its row among those that begin groups
abbrev pub Begun : List Key → List Row → Row → Type 0
Begun ks l y = (x : Row) × Mem x (begins ks l) × (one_group ks x y ≡ true)

begun_at : (ks : List Key) (y : Row) (l : List Row) → Mem y l → Begun ks l y
begun_at ks y l (here {x = x} {xs = m} e) = (x, here refl, cells_group ks x y (ap (proj (columns_of ks)) (sym e)))
begun_at ks y l (there {x = x} {xs = m} h) = go (begun_at ks y m h)
  where
    pick : (z : Row) → Mem z (begins ks m) → one_group ks z y ≡ true → (b : Bool) → one_group ks x z ≡ b → Begun ks (x ∷ m) y
    pick z k e true f = (x, here refl, cells_group ks x y (group_cells ks x z f ∙ group_cells ks z y e))
    pick z k e false f = (z, there (keep_mem (λ w. not (one_group ks x w)) (ap not f) k), e)

    go : Begun ks m y → Begun ks (x ∷ m) y
    go (z, k, e) = pick z k e (one_group ks x z) refl

pub begins_all_groups : (ks : List Key) (l : List Row) (y : Row) → Mem y l → Begun ks l y
begins_all_groups ks l y h = begun_at ks y l h

-- ---- in the order in which the groups begin: a further row begins a group exactly if no row before it is of that group, and comes last then
abbrev pub has_group : List Key → List Row → Row → Bool
has_group ks [] y = false
has_group ks (x ∷ l) y = one_group ks x y || has_group ks l y

keep_append : {A : Type 0} (p : A → Bool) (l m : List A) → keep p (l ++ m) ≡ keep p l ++ keep p m
keep_append p [] m = refl
keep_append p (x ∷ l) m = go (p x) (keep_append p l m)
  where
    go : (b : Bool) → keep p (l ++ m) ≡ keep p l ++ keep p m → cond b (x ∷ keep p (l ++ m)) (keep p (l ++ m)) ≡ cond b (x ∷ keep p l) (keep p l) ++ keep p m
    go true e = ap (λ r. x ∷ r) e
    go false e = e

pub begins-next : (ks : List Key) (l : List Row) (y : Row) → begins ks (l ++ (y ∷ [])) ≡ begins ks l ++ cond (has_group ks l y) [] (y ∷ [])
begins-next ks [] y = refl
begins-next ks (x ∷ l) y =
    ap (λ (r : List Row). x ∷ keep other r) (begins-next ks l y)
    ∙ ap (λ (r : List Row). x ∷ r) (keep_append other (begins ks l) (cond (has_group ks l y) [] (y ∷ []))
    ∙ ap (λ (r : List Row). keep other (begins ks l) ++ r) (last (one_group ks x y) (has_group ks l y) refl))
  where
    other : Row → Bool
    other z = not (one_group ks x z)

    last : (b c : Bool) → one_group ks x y ≡ b → keep other (cond c [] (y ∷ [])) ≡ cond (b || c) [] (y ∷ [])
    last true true e = refl
    last false true e = refl
    last true false e = ap (λ (d : Bool). cond (not d) (y ∷ []) []) e
    last false false e = ap (λ (d : Bool). cond (not d) (y ∷ []) []) e

from_has : (E : Env) (ks : List Key) (s : Streams) → Has E 0 s → (j : ℕ) (cs : Forest Streams) → Run E 0 j (from (length s) ks) cs → roots cs ≡ s ∷ []
from_has E ks s h j cs (run_tree st run_none run_none) = ap (λ (x : Streams). x ∷ []) (st.is ∙ map_id _ (λ l. refl) st.raw ∙ st.made ∙ h)

-- ---- groups of each stream, nulls in one group, no group of an empty stream, n cells of any value: three streams, whatever order they are declared
-- to have, grouped by the first column
module _ (E : Env) (ls : List Key) (n : ℕ) (a b c d e f : Cell) where
  abbrev one : Cell
  one = num (pos 1)

  abbrev two : Cell
  two = num (pos 2)

  abbrev ins : Streams
  ins = (pair two a ∷ pair null b ∷ pair one c ∷ pair null d ∷ pair two e ∷ []) ∷ (pair one f ∷ []) ∷ [] ∷ []

  -- x, y, z, w: the aggregate cells of the four groups
  abbrev outs : Row → Row → Row → Row → Streams
  outs x y z w = ((two ∷ x) ∷ (null ∷ y) ∷ (one ∷ z) ∷ []) ∷ ((one ∷ w) ∷ []) ∷ [] ∷ []

  pub groups_any : Has E 0 ins → (x y z w : Row) → length x ≡ n → length y ≡ n → length z ≡ n → length w ≡ n →
      Run E 0 0 (over (aggregate (by 0) n) 3 ls) (gives (outs x y z w) ins)
  groups_any h x y z w ex ey ez ew = over_run E (aggregate (by 0) n) ls ins (outs x y z w) h refl (λ l. refl)
      (each_cons (each_cons (row x ex) (each_cons (row y ey) (each_cons (row z ez) each_nil))) (each_cons (each_cons (row w ew) each_nil)
      (each_cons each_nil each_nil)))
    where
      row : {r : Row} (x : Row) → length x ≡ n → GroupRow (by 0) n r (cell r 0 ∷ x)
      row x ex = record { cells = x; many = ex; is = refl }

  abbrev Only : Streams → Type 0
  Only s = (x : Row) × (y : Row) × (z : Row) × (w : Row) × (s ≡ outs x y z w) × All (λ cells. length cells ≡ n) (x ∷ y ∷ z ∷ w ∷ [])

  pub groups_only : Has E 0 ins → (out : Forest Streams) → Run E 0 0 (over (aggregate (by 0) n) 3 ls) out → (s : Streams) × (roots out ≡ s ∷ []) × Only s
  groups_only h = over_made E (aggregate (by 0) n) (from 3 ls) (ins ∷ []) refl (from_has E ls ins h) (λ l. refl) Only only
    where
      -- the rows of some groups, the first of which begins with r
      next : (u : Cell) {r : Row} → cell r 0 ≡ u → {rs t : List Row} → Each (GroupRow (by 0) n) (r ∷ rs) t →
          (x : Row) × (ts : List Row) × (t ≡ (u ∷ x) ∷ ts) × Each (GroupRow (by 0) n) rs ts × (length x ≡ n)
      next u e (each_cons {m = ts} g h) = (g.cells, ts, ap (λ (a : Row). a ∷ ts) (g.is ∙ ap (λ (v : Cell). v ∷ g.cells) e), h, g.many)

      none : {t : List Row} → Each (GroupRow (by 0) n) [] t → t ≡ []
      none each_nil = refl

      only : (raw : Streams) → Each (Grouping (by 0) n) ins raw → Only raw
      only raw (each_cons g (each_cons h (each_cons k each_nil))) =
          let p = next two refl g in
          let q = next null refl p.3 in
          let r = next one refl q.3 in
          let s = next one refl h in
          let first = p.2 ∙ ap (λ (l : List Row). (two ∷ p.0) ∷ l) (q.2 ∙ ap (λ (l : List Row). (null ∷ q.0) ∷ l)
          (r.2 ∙ ap (λ (l : List Row). (one ∷ r.0) ∷ l) (none r.3))) in
          let second = s.2 ∙ ap (λ (l : List Row). (one ∷ s.0) ∷ l) (none s.3) in (
            p.0,
            q.0,
            r.0,
            s.0,
            ap₂ (λ (s : List Row) (m : Streams). s ∷ m) first (ap₂ (λ (s t : List Row). s ∷ t ∷ []) second (none k)),
            all_cons p.4 (all_cons q.4 (all_cons r.4 (all_cons s.4 all_nil))),
          )
