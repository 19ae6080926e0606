-- Declared facts can be kept. Rows keep what a source declares exactly if each stream is in the order of its keys and any two rows, of
-- whichever streams, have the same cell in each constant column: `declared_if`, `declared_then`. Every plan has source rows, as many as one
-- likes on every stream, that keep all its declared facts and differ wherever these let them: `declared_kept`.
use Rattle.std.specs.Prelude.{◌≡◌, refl, Bool, true, false, cond, not, ◌&&◌, List, [], ◌∷◌, ℕ, zero, suc, ◌+◌, ◌≤◌, ◌<◌, ℤ, pos, negsuc, ltb, length, get_or}
use Rattle.std.proofs.Common.{sym, ap, ap₂, ◌∙◌, subst, subst₂, arith, ltb-true, lt-ltb, le-ltb}
use mathlib.Core.List.Memᴰ.{head as here}
use Rattle.row_order.specs.Iso.{Cell, null, num, Row, Key, cell}
use Rattle.row_order.proofs.Order.{le_cell, le_k, no_bool, le_in, le_skip, le_k_anti}
use Rattle.row_order.specs.RowLists.{le, Sorted}
use Rattle.row_order.specs.Lists.{concat, All, all_nil, Pw, tab}
use Rattle.row_order.specs.ListLaws.{all_map, tabulate, lookup, all_concat, length-tab, get_or-tab}
use Rattle.row_order.specs.Forms.{Ordered, ordered_sorted, sorted_ordered, at_pw}
use Rattle.row_order.specs.Packed.{bit}
use Rattle.plan.specs.Forest.{none, tree}
use Rattle.plan.specs.Op.{SourceInfo, Op, source, filter, projection, union, repartition, coalesce, sort_op, merge_op, global_limit, local_limit, sort_merge_join, hash_join, output_requirement, partial_sort, aggregate, Plan}
use Rattle.semantics.specs.Runs.{Streams, Env, next_s, past, AtSource, EachSource, Declared, Sources}
use Rattle.semantics.specs.SourceRows.{Agree, varies, descends, counted, source_row, own, sources_of, no_source, rows_for, Filled}
use Rattle.semantics.proofs.Theorems.Common.Bools.{and_left, and_right}
use Rattle.semantics.proofs.Theorems.Common.Streams.{all_tab, concat_each}

-- ---- what Declared says
first_value : (s : ℕ) (l : List Row) → Agree s l → All (λ r. (c : ℕ) → bit s c ≡ true → cell r c ≡ cell (get_or l 0 []) c) l
first_value s [] h = all_nil
first_value s (x ∷ l) h = tabulate (x ∷ l) (λ r m. h r x m (here refl))

pub declared_if : (s : ℕ) (ks : List Key) (out : Streams) → All (Ordered ks) out → Agree s (concat out) → Declared s ks out
declared_if s ks out o a =
    record { value = cell (get_or (concat out) 0 []); rows = concat_each out (first_value s (concat out) a); sorted = all_map (ordered_sorted ks) o }

pub declared_then : (s : ℕ) (ks : List Key) (out : Streams) → Declared s ks out → All (Ordered ks) out × Agree s (concat out)
declared_then s ks out d = let ps = all_concat out d.rows in
    (all_map (sorted_ordered ks) d.sorted, λ x y p q c e. lookup ps x p c e ∙ sym (lookup ps y q c e))

-- ---- the rows of one source
tab_ext : {A : Type 0} (w : ℕ) (f g : ℕ → A) (d : A) (c : ℕ) → (c < w → f c ≡ g c) → get_or (tab w f) c d ≡ get_or (tab w g) c d
tab_ext zero f g d c h = refl
tab_ext (suc w) f g d zero h = h (omega arith)
tab_ext (suc w) f g d (suc c) h = tab_ext w (λ k. f (suc k)) (λ k. g (suc k)) d c (λ l. h (omega arith))

-- rows that differ where p says, in the direction of the first key there, are in order
in_order : (p : ℕ → Bool) (x y : Row) (d : Bool) → ((c : ℕ) → p c ≡ false → cell x c ≡ cell y c) → ((c : ℕ) → p c ≡ true → cell x c ≡ cell y c → ⊥) →
    ((c : ℕ) (f : Bool) → p c ≡ true → le_cell d f (cell x c) (cell y c) ≡ true) →
    (ks : List Key) → descends p ks ≡ d → le ks x y ≡ true
in_order p x y d same apart up [] e = refl
in_order p x y d same apart up (k ∷ ks) e = go (p k.col) refl (λ h. in_order p x y d same apart up ks h) e
  where
    go : (b : Bool) → p k.col ≡ b → (descends p ks ≡ d → le ks x y ≡ true) → cond b k.desc (descends p ks) ≡ d → le (k ∷ ks) x y ≡ true
    go true q ih h =
        let xy : le_k k x y ≡ true = ap (λ (b : Bool). le_cell b k.first (cell x k.col) (cell y k.col)) h ∙ up k.col k.first q in
        le_in k ks x y xy (λ yx. absurd (apart k.col q (le_k_anti k x y xy yx)))
    go false q ih h = le_skip k ks x y (same k.col q) ∙ ih h

counted_up : (d f : Bool) (a b : ℕ) → a ≤ b → le_cell d f (num (counted d a)) (num (counted d b)) ≡ true
counted_up true f a b h = ap not (le-ltb b a h)
counted_up false f a b h = ap not (le-ltb b a h)

counted_apart : (d : Bool) (a b : ℕ) → num (counted d a) ≡ num (counted d b) → a ≡ b
counted_apart true a b e = cc
counted_apart false a b e = cc

module _ (s : SourceInfo) where
  abbrev down : Bool
  down = descends (varies s) s.keys

  abbrev entry : ℕ → ℕ → Cell
  entry m c = num (counted down (cond (bit s.constants c) 0 m))

  -- a constant column has one cell, and so has what lies past the width
  row_same : (a b c : ℕ) → (c < s.width → bit s.constants c ≡ true) → cell (source_row s a) c ≡ cell (source_row s b) c
  row_same a b c h = tab_ext s.width (entry a) (entry b) null c (λ l. ap (λ (t : Bool). num (counted down (cond t 0 a))) (h l)
      ∙ sym (ap (λ (t : Bool). num (counted down (cond t 0 b))) (h l)))

  row_varies : (a c : ℕ) → c < s.width → bit s.constants c ≡ false → cell (source_row s a) c ≡ num (counted down a)
  row_varies a c l e = get_or-tab s.width (entry a) null c l ∙ ap (λ (t : Bool). num (counted down (cond t 0 a))) e

  row_apart : (a b c : ℕ) → a < b → c < s.width → bit s.constants c ≡ false → cell (source_row s a) c ≡ cell (source_row s b) c → ⊥
  row_apart a b c h l e q = let z = counted_apart down a b (sym (row_varies a c l e) ∙ q ∙ row_varies b c l e) in omega arith

  -- a column that varies, and one that doesn't
  varies-at : (c : ℕ) → varies s c ≡ true → (c < s.width) × (bit s.constants c ≡ false)
  varies-at c e = (ltb-true c s.width (search and_left), off (bit s.constants c) (and_right (ltb c s.width) (not (bit s.constants c)) e))
    where
      off : (b : Bool) → not b ≡ true → b ≡ false
      off true q = no_bool q
      off false q = refl

  stays_at : (c : ℕ) → varies s c ≡ false → c < s.width → bit s.constants c ≡ true
  stays_at c e l = on (ltb c s.width) (bit s.constants c) (lt-ltb c s.width l) e
    where
      on : (a b : Bool) → a ≡ true → a && not b ≡ false → b ≡ true
      on true true p q = refl
      on true false p q = sym q
      on false b p q = no_bool p

  rows_le : (a b : ℕ) → a < b → le s.keys (source_row s a) (source_row s b) ≡ true
  rows_le a b h =
      in_order (varies s) (source_row s a) (source_row s b) down
      (λ c e. row_same a b c (stays_at c e))
      (λ c e. row_apart a b c h (varies-at c e).0 (varies-at c e).1)
      (λ c f e. ap₂ (le_cell down f) (row_varies a c (varies-at c e).0 (varies-at c e).1) (row_varies b c (varies-at c e).0 (varies-at c e).1)
      ∙ counted_up down f a b (omega arith))
      s.keys refl

  -- all rows of a stream
  rows_pw : {R : Row → Row → Type 0} (n : ℕ) → ((a b : ℕ) → a < b → R (source_row s a) (source_row s b)) → Pw R (tab n (source_row s))
  rows_pw {R} n h = at_pw [] (tab n (source_row s)) (λ a b l m. subst₂ R (sym (at a (omega arith))) (sym (at b m)) (h a b l))
    where
      at : (a : ℕ) → a < length (tab n (source_row s)) → get_or (tab n (source_row s)) a [] ≡ source_row s a
      at a l = get_or-tab n (source_row s) [] a (omega (arith, length-tab n (source_row s)))

-- ---- sources by their numbers
abbrev pub Numbered : (ℕ → SourceInfo → Type 0) → ℕ → List SourceInfo → Type 0
Numbered P i [] = Unit {0}
Numbered P i (s ∷ l) = P i s × Numbered P (suc i) l

own-source : (P : ℕ → SourceInfo → Type 0) (i : ℕ) (o : Op) (l : List SourceInfo) → Numbered P i (own o l) → AtSource (P i) o × Numbered P (next_s o i) l
own-source P i (source s) l h = h
own-source P i filter l h = (tt, h)
own-source P i (projection cols) l h = (tt, h)
own-source P i union l h = (tt, h)
own-source P i (repartition p n hash ks) l h = (tt, h)
own-source P i (coalesce f) l h = (tt, h)
own-source P i (sort_op p ks f) l h = (tt, h)
own-source P i (merge_op ks f) l h = (tt, h)
own-source P i (global_limit s f note) l h = (tt, h)
own-source P i (local_limit f note) l h = (tt, h)
own-source P i (sort_merge_join t on) l h = (tt, h)
own-source P i (hash_join t on) l h = (tt, h)
own-source P i (output_requirement ks d f) l h = (tt, h)
own-source P i (partial_sort p ks n f) l h = (tt, h)
own-source P i (aggregate ks n) l h = (tt, h)

pub each_source_lem : (P : ℕ → SourceInfo → Type 0) (i : ℕ) (f : Plan) (l : List SourceInfo) → Numbered P i (sources_of f l) →
    EachSource P i f × Numbered P (past next_s f i) l
each_source_lem P i none l h = (tt, h)
each_source_lem P i (tree o c r) l h =
    let a = own-source P i o (sources_of c (sources_of r l)) h in
    let b = each_source_lem P (next_s o i) c (sources_of r l) a.1 in
    let d = each_source_lem P (past next_s c (next_s o i)) r l b.1 in
    ((a.0, b.0, d.0), d.1)

pub numbered : (P : ℕ → SourceInfo → Type 0) (i : ℕ) (l : List SourceInfo) → ((k : ℕ) → P (k + i) (get_or l k no_source)) → Numbered P i l
numbered P i [] h = tt
numbered P i (s ∷ l) h = (
  subst (λ (n : ℕ). P n s) (omega arith) (h 0),
  numbered P (suc i) l
      (λ k. subst (λ (n : ℕ). P n (get_or l k no_source)) (omega arith) (h (suc k))),
)

-- ---- every plan
module _ (n : ℕ) (f : Plan) where
  -- what holds of a source and its own rows holds of every source of the plan
  every_source : (P : (ℕ → List Row) → SourceInfo → Type 0) → ((s : SourceInfo) → P (λ k. tab n (source_row s)) s) →
      EachSource (λ i s. P ((rows_for n f).rows i) s) 0 f
  every_source P h = (each_source_lem (λ i s. P ((rows_for n f).rows i) s) 0 f []
      (numbered _ 0 (sources_of f []) (λ k. subst (λ (m : ℕ). P ((rows_for n f).rows m) (get_or (sources_of f []) k no_source)) (omega arith)
      (h (get_or (sources_of f []) k no_source))))).0

  pub declared_kept : Sources (rows_for n f) 0 f × EachSource (λ i s. Filled n ((rows_for n f).rows i) s) 0 f
  declared_kept = (every_source (λ g s. Declared s.constants s.keys (tab s.streams g)) keeps, every_source (Filled n) filled)
    where
      keeps : (s : SourceInfo) → Declared s.constants s.keys (tab s.streams (λ k. tab n (source_row s)))
      keeps s =
          record {
            value = cell (source_row s 0);
            rows = all_tab s.streams (λ k. tab n (source_row s)) (λ k. all_tab n (source_row s) (λ m c e. row_same s m 0 c (λ l. e)));
            sorted = all_tab s.streams (λ k. tab n (source_row s)) (λ k. rows_pw s n (rows_le s));
          }

      filled : (s : SourceInfo) → Filled n (λ k. tab n (source_row s)) s
      filled s =
          record {
            many = all_tab s.streams (λ k. tab n (source_row s)) (λ k. length-tab n (source_row s));
            wide = all_tab s.streams (λ k. tab n (source_row s)) (λ k. all_tab n (source_row s) (λ m. length-tab s.width _));
            differ = λ c l e. all_tab s.streams (λ k. tab n (source_row s)) (λ k. rows_pw s n (λ a b h. row_apart s a b c h l e));
          }
