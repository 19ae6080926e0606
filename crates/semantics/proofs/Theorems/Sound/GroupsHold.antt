-- The facts of an aggregate hold of what it makes: its rows are those of a projection of some rows of its stream, in their order there, before
-- cells of which nothing is known. Assumes nothing.
use Rattle.std.specs.Prelude.{◌≡◌, refl, true, not, List, [], ◌∷◌, ◌++◌, ℕ, ◌≤◌, length, get_or}
use Rattle.std.proofs.Common.{sym, ap, ◌∙◌, subst, subst₂}
use Rattle.row_order.specs.Iso.{Cell, Row, Key, cell}
use Rattle.row_order.specs.RowLists.{le, Sorted}
use Rattle.row_order.specs.Lists.{All, all_nil, all_cons, Pw, pw_nil, pw_cons, tab}
use Rattle.row_order.specs.ListLaws.{all_zip, pw_map}
use Rattle.plan.specs.WellFormed.{columns_of}
use Rattle.semantics.specs.Facts.{Facts, cl, proj_order, proj_facts, placed}
use Rattle.semantics.specs.Joins.{join_row}
use Rattle.semantics.specs.Runs.{Streams, Each, proj, one_group, begins, GroupRow, Grouping}
use Rattle.semantics.specs.Holds.{RowOK, Holds}
use Rattle.semantics.proofs.Theorems.Common.Streams.{keep_all, keep_pw, each_all, each_pw}
use Rattle.semantics.proofs.Theorems.Orders.Comparing.{proj-le}
use Rattle.semantics.proofs.Theorems.Canonical.UnionsProjections.{proj_fits}
use Rattle.semantics.proofs.Theorems.Facts.Fits.{within-fits}
use Rattle.semantics.proofs.Theorems.Sound.KindsHold.{proj_row}
use Rattle.semantics.proofs.Theorems.Sound.JoinsHold.{placed_row, within-le}

-- ---- the first rows of groups are rows of the stream, in their order there
pub begins_all : {P : Row → Type 0} (ks : List Key) {l : List Row} → All P l → All P (begins ks l)
begins_all ks all_nil = all_nil
begins_all ks (all_cons {x = x} p ps) = all_cons p (keep_all (λ y. not (one_group ks x y)) (begins_all ks ps))

pub begins_pw : {R : Row → Row → Type 0} (ks : List Key) {l : List Row} → Pw R l → Pw R (begins ks l)
begins_pw ks pw_nil = pw_nil
begins_pw ks (pw_cons {x = x} p ps) =
    pw_cons (keep_all (λ y. not (one_group ks x y)) (begins_all ks p)) (keep_pw (λ y. not (one_group ks x y)) (begins_pw ks ps))

-- ---- a group's row
tab_self : (cols : List ℕ) (x : Row) → tab (length cols) (cell (proj cols x)) ≡ proj cols x
tab_self [] x = refl
tab_self (c ∷ cols) x = ap (λ (l : Row). cell x c ∷ l) (tab_self cols x)

module _ (F : Facts) (v : ℕ → Cell) (ks : List Key) (n : ℕ) where
  abbrev cols : List ℕ
  cols = columns_of ks

  -- a group's row stands as the left row of a join does
  beside_cells : (x y : Row) (g : GroupRow ks n x y) → y ≡ join_row (length cols) (proj cols x) g.cells
  beside_cells x y g = g.is ∙ ap (λ (l : Row). l ++ g.cells) (sym (tab_self cols x))

  group_row : ((c : ℕ) → cl (proj_facts F cols) c ≤ c) → (x y : Row) → RowOK F v x → GroupRow ks n x y →
      RowOK (placed (proj_facts F cols) n) (λ j. v (get_or cols j 0)) y
  group_row low x y p g = subst (RowOK (placed (proj_facts F cols) n) (λ j. v (get_or cols j 0))) (sym (beside_cells x y g))
      (placed_row (proj_facts F cols) low (proj cols x) g.cells n (λ j. v (get_or cols j 0)) (proj_row F v cols x p))

  abbrev order : List Key
  order = proj_order F cols F.order

  -- two groups' rows compare as the rows that begin them
  group_le : (x y a b : Row) → GroupRow ks n x a → GroupRow ks n y b → le order (proj cols x) (proj cols y) ≡ true → le order a b ≡ true
  group_le x y a b g h e = subst₂ (λ (c d : Row). le order c d ≡ true) (sym (beside_cells x a g)) (sym (beside_cells y b h))
      (sym (ap (λ (l : List Key). le l (join_row (length cols) (proj cols x) g.cells) (join_row (length cols) (proj cols y) h.cells))
      (within-fits (length cols) order (proj_fits F cols F.order)))
      ∙ within-le (length cols) order (proj cols x) (proj cols y) g.cells h.cells e)

  group_sorted : (s t : List Row) → All (RowOK F v) s → Sorted F.order s → Grouping ks n s t → Sorted order t
  group_sorted s t ps ss g = each_pw (λ x y a b. group_le x y a b)
      (pw_map (λ x y px py e. proj-le F v cols x y px py F.order e) (begins_all ks ps) (begins_pw ks ss)) g

pub aggregate_holds : (F : Facts) (ks : List Key) (n : ℕ) {s out : Streams} → ((c : ℕ) → cl (proj_facts F (columns_of ks)) c ≤ c) → Holds F s →
    Each (Grouping ks n) s out → Holds (placed (proj_facts F (columns_of ks)) n) out
aggregate_holds F ks n low h g =
    record {
      value = λ j. h.value (get_or (columns_of ks) j 0);
      rows = each_all (λ s t ps e. each_all (group_row F h.value ks n low) (begins_all ks ps) e) h.rows g;
      sorted = each_all (λ s t pr e. group_sorted F h.value ks n s t pr.0 pr.1 e) (all_zip h.rows h.sorted) g;
    }
