-- Rows that get past 26 keep what their sources declare, and no others do: `sources_kept`, `kept_sources`. So what a dry run writes, where the plan
-- passes the order check, is in order: `written-holds`.
use Rattle.std.specs.Prelude.{◌≡◌, refl, Bool, true, false, cond, not, ◌&&◌, ◌||◌, List, [], ◌∷◌, ◌++◌, ℕ, zero, suc, ◌+◌, ◌<◌, ◌≤◌, eqb, ltb, ℤ, pos, negsuc, length, get_or}
use Rattle.std.proofs.Common.{sym, ap, ap₂, ◌∙◌, subst, arith, eqb-true, eq-eqb, ltb-true, ltb-false}
use mathlib.Core.List.Memᴰ.{head as here}
use mathlib.Core.List.Memᴰ.{tail as there}
use mathlib.Core.List.{Memᴰ as Mem}
use Rattle.std.proofs.lemmas.Bool.{not-false}
use Rattle.std.proofs.Math.ListN.{get_or-eq_default}
use Rattle.row_order.specs.Iso.{Cell, null, num, Row, Key, cell, eqℤ, equal}
use Rattle.row_order.specs.RowLists.{le, Rel, Sorted}
use Rattle.row_order.proofs.Order.{le_trans, no_bool}
use Rattle.row_order.specs.Lists.{concat, All, all_nil, all_cons, pw_nil, pw_cons, tab}
use Rattle.row_order.specs.ListLaws.{all_head, all_tail, all_map, all_concat, lookup, tabulate, pw_head, pw_tail, length-tab}
use Rattle.row_order.specs.Packed.{bit}
use Rattle.row_order.proofs.Sorting.{below}
use Rattle.row_order.specs.Forms.{sorted_ordered, ordered_sorted}
use Rattle.scan.specs.Bytes.{all_below}
use Rattle.scan.specs.Below.{all_at, all_intro}
use Rattle.plan.specs.Forest.{none, tree}
use Rattle.plan.specs.Op.{SourceInfo, Op, source, filter, projection, union, repartition, coalesce, sort_op, merge_op, global_limit, local_limit, sort_merge_join, hash_join, output_requirement, partial_sort, aggregate, Plan}
use Rattle.plan.specs.WellFormed.{every}
use Rattle.semantics.specs.Runs.{Streams, Declared, AtSource, EachSource, Sources, Wide, next_s, past}
use Rattle.semantics.specs.SourceRows.{Agree}
use Rattle.semantics.proofs.Theorems.Common.Bools.{and_left, and_right}
use Rattle.semantics.proofs.Theorems.Sound.DeclaredKept.{declared_if, declared_then}
use Rattle.stepping.specs.Stepping.{unfiltered}
use Rattle.stepping.specs.Answers.{in_order_from, in_order, one_cell, declared_ok, at_source, each_source, sources_ok}

-- ---- order: no row before the one in front of it, so before no earlier one
from_sorted : (ks : List Key) (x : Row) (l : List Row) → in_order_from ks x l ≡ true → Sorted ks (x ∷ l)
from_sorted ks x [] e = pw_cons all_nil pw_nil
from_sorted ks x (y ∷ l) e =
    let s : Sorted ks (y ∷ l) = from_sorted ks y l (and_right (le ks x y) (in_order_from ks y l) e) in
    let h : le ks x y ≡ true = and_left (le ks x y) (in_order_from ks y l) e in
    pw_cons (all_cons h (below ks x y h (pw_head s))) s

order_sorted : (ks : List Key) (l : List Row) → in_order ks l ≡ true → Sorted ks l
order_sorted ks [] e = pw_nil
order_sorted ks (x ∷ l) e = from_sorted ks x l e

sorted_from : (ks : List Key) (x : Row) (l : List Row) → Sorted ks (x ∷ l) → in_order_from ks x l ≡ true
sorted_from ks x [] s = refl
sorted_from ks x (y ∷ l) s = ap₂ ◌&&◌ (all_head (pw_head s)) (sorted_from ks y l (pw_tail s))

sorted_order : (ks : List Key) (l : List Row) → Sorted ks l → in_order ks l ≡ true
sorted_order ks [] s = refl
sorted_order ks (x ∷ l) s = sorted_from ks x l s

-- ---- cells
cells_same : (x y : Cell) → equal x y ≡ true → x ≡ y
cells_same null null e = refl
cells_same null (num y) e = no_bool e
cells_same (num x) null e = no_bool e
cells_same (num (pos a)) (num (pos b)) e = ap (λ (n : ℕ). num (pos n)) (eqb-true a b e)
cells_same (num (pos a)) (num (negsuc b)) e = no_bool e
cells_same (num (negsuc a)) (num (pos b)) e = no_bool e
cells_same (num (negsuc a)) (num (negsuc b)) e = ap (λ (n : ℕ). num (negsuc n)) (eqb-true a b e)

same_self : (x : Cell) → equal x x ≡ true
same_self null = refl
same_self (num (pos a)) = eq-eqb a a refl
same_self (num (negsuc a)) = eq-eqb a a refl

-- ---- tests of all of a list
every_all : {A : Type 0} (p : A → Bool) (l : List A) → every p l ≡ true → All (λ x. p x ≡ true) l
every_all p [] e = all_nil
every_all p (x ∷ l) e = all_cons (and_left (p x) (every p l) e) (every_all p l (and_right (p x) (every p l) e))

all_every : {A : Type 0} (p : A → Bool) {l : List A} → All (λ x. p x ≡ true) l → every p l ≡ true
all_every p all_nil = refl
all_every p (all_cons e h) = ap₂ ◌&&◌ e (all_every p h)

-- ---- one cell value
one_all : (c : ℕ) (x : Row) (l : List Row) → one_cell c (x ∷ l) ≡ true → All (λ y. cell x c ≡ cell y c) (x ∷ l)
one_all c x l e = all_cons refl (all_map (λ y h. cells_same (cell x c) (cell y c) h) (every_all (λ y. equal (cell x c) (cell y c)) l e))

one_agree : (c : ℕ) (l : List Row) → one_cell c l ≡ true → (x y : Row) → Mem x l → Mem y l → cell x c ≡ cell y c
one_agree c [] e x y p q = elim p [ ]
one_agree c (z ∷ l) e x y p q = sym (lookup (one_all c z l e) x p) ∙ lookup (one_all c z l e) y q

agree_one : (c : ℕ) (l : List Row) → ((x y : Row) → Mem x l → Mem y l → cell x c ≡ cell y c) → one_cell c l ≡ true
agree_one c [] h = refl
agree_one c (x ∷ l) h = all_every (λ y. equal (cell x c) (cell y c))
    (tabulate l (λ y m. subst (λ (z : Cell). equal (cell x c) z ≡ true) (h x y (here refl) (there m)) (same_self (cell x c))))

-- past the width every cell is null
past-null : (w c : ℕ) (x : Row) → length x ≡ w → w ≤ c → cell x c ≡ null
past-null w c x e h = get_or-eq_default x null {n = c} (omega arith)

ok_agree : (s : SourceInfo) (ss : Streams) → Wide s.width ss → all_below (λ c. not (bit s.constants c) || one_cell c (concat ss)) s.width ≡ true →
    Agree s.constants (concat ss)
ok_agree s ss w e x y p q c b = go (ltb c s.width) refl
  where
    wide : All (λ r. length r ≡ s.width) (concat ss)
    wide = all_concat ss w

    test : not (bit s.constants c) || one_cell c (concat ss) ≡ true → one_cell c (concat ss) ≡ true
    test t = subst (λ (z : Bool). not z || one_cell c (concat ss) ≡ true) b t

    go : (t : Bool) → ltb c s.width ≡ t → cell x c ≡ cell y c
    go true l = one_agree c (concat ss) (test (all_at (λ d. not (bit s.constants d) || one_cell d (concat ss)) s.width e c (ltb-true c s.width l))) x y p q
    go false l = past-null s.width c x (lookup wide x p) (ltb-false c s.width l) ∙ sym (past-null s.width c y (lookup wide y q) (ltb-false c s.width l))

agree_ok : (s : SourceInfo) (ss : Streams) → Agree s.constants (concat ss) →
    all_below (λ c. not (bit s.constants c) || one_cell c (concat ss)) s.width ≡ true
agree_ok s ss a = all_intro (λ c. not (bit s.constants c) || one_cell c (concat ss)) s.width (λ c l. go c (bit s.constants c) refl)
  where
    go : (c : ℕ) (b : Bool) → bit s.constants c ≡ b → not b || one_cell c (concat ss) ≡ true
    go c true e = agree_one c (concat ss) (λ x y p q. a x y p q c e)
    go c false e = refl

-- ---- one source
ok_declared : (s : SourceInfo) (ss : Streams) → Wide s.width ss → declared_ok s ss ≡ true → Declared s.constants s.keys ss
ok_declared s ss w e =
    declared_if s.constants s.keys ss
    (all_map (λ l h. sorted_ordered s.keys l (order_sorted s.keys l h)) (every_all (in_order s.keys) ss (and_left (every (in_order s.keys) ss) _ e)))
    (ok_agree s ss w (and_right (every (in_order s.keys) ss) _ e))

declared_ok_lem : (s : SourceInfo) (ss : Streams) → Declared s.constants s.keys ss → declared_ok s ss ≡ true
declared_ok_lem s ss d =
    let p = declared_then s.constants s.keys ss d in
    ap₂ ◌&&◌ (all_every (in_order s.keys) (all_map (λ l h. sorted_order s.keys l (ordered_sorted s.keys l h)) p.0)) (agree_ok s ss p.1)

-- ---- every source
module _ (rows : ℕ → ℕ → List Row) where
  abbrev Test : ℕ → SourceInfo → Bool
  Test i s = declared_ok s (tab s.streams (rows i))

  -- Source i's rows are as wide as it is
  abbrev pub Widths : ℕ → SourceInfo → Type 0
  Widths i s = Wide s.width (tab s.streams (rows i))

  abbrev Kept : ℕ → SourceInfo → Type 0
  Kept i s = Declared s.constants s.keys (tab s.streams (rows i))

  at_kept : (i : ℕ) (o : Op) → AtSource (Widths i) o → at_source (Test i) o ≡ true → AtSource (Kept i) o
  at_kept i (source s) w e = ok_declared s (tab s.streams (rows i)) w e
  at_kept i filter w e = tt
  at_kept i (projection cols) w e = tt
  at_kept i union w e = tt
  at_kept i (repartition p n h ks) w e = tt
  at_kept i (coalesce f) w e = tt
  at_kept i (sort_op p ks f) w e = tt
  at_kept i (merge_op ks f) w e = tt
  at_kept i (global_limit s f note) w e = tt
  at_kept i (local_limit f note) w e = tt
  at_kept i (sort_merge_join t on) w e = tt
  at_kept i (hash_join t on) w e = tt
  at_kept i (output_requirement ks d f) w e = tt
  at_kept i (partial_sort p ks n f) w e = tt
  at_kept i (aggregate ks n) w e = tt

  kept_at : (i : ℕ) (o : Op) → AtSource (Kept i) o → at_source (Test i) o ≡ true
  kept_at i (source s) d = declared_ok_lem s (tab s.streams (rows i)) d
  kept_at i filter d = refl
  kept_at i (projection cols) d = refl
  kept_at i union d = refl
  kept_at i (repartition p n h ks) d = refl
  kept_at i (coalesce f) d = refl
  kept_at i (sort_op p ks f) d = refl
  kept_at i (merge_op ks f) d = refl
  kept_at i (global_limit s f note) d = refl
  kept_at i (local_limit f note) d = refl
  kept_at i (sort_merge_join t on) d = refl
  kept_at i (hash_join t on) d = refl
  kept_at i (output_requirement ks d f) _ = refl
  kept_at i (partial_sort p ks n f) d = refl
  kept_at i (aggregate ks n) d = refl

  pub sources_kept : (i : ℕ) (f : Plan) → EachSource Widths i f → each_source Test i f ≡ true → Sources (unfiltered rows) i f
  sources_kept i none w e = tt
  sources_kept i (tree o c r) w e = (
    at_kept i o w.0 (search and_left),
    sources_kept (next_s o i) c w.1 (search (and_left, and_right)),
    sources_kept (past next_s c (next_s o i)) r w.2 (search and_right),
  )

  pub kept_sources : (i : ℕ) (f : Plan) → Sources (unfiltered rows) i f → each_source Test i f ≡ true
  kept_sources i none d = refl
  kept_sources i (tree o c r) d = ap₂ ◌&&◌ (kept_at i o d.0) (ap₂ ◌&&◌ (kept_sources (next_s o i) c d.1) (kept_sources (past next_s c (next_s o i)) r d.2))
