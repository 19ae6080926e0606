-- The promise to plans that pass the order check is not empty: a plan of eight nodes that is accepted and passes, source rows that keep
-- what it declares, and a run of it in which every node has rows on every stream. An output requirement over a sort-merge join; on its left
-- a merge over a sort of each stream over a repartition in two over a filter over a source of one stream, on its right a source known [0].
use Rattle.std.specs.Prelude.{◌≡◌, refl, true, false, not, List, [], ◌∷◌, ℕ, zero, suc, ◌≤◌, pos, length, None}
use Rattle.std.proofs.Common.{arith}
use Rattle.row_order.specs.Iso.{null, num, Row, cell, equal}
use Rattle.row_order.proofs.Order.{no_bool}
use Rattle.row_order.specs.ListLaws.{same_refl}
use Rattle.row_order.specs.Lists.{All, all_nil, all_cons, pw_nil, pw_cons, mix_nil, mix_left, mix_right, mixes_nil, mixes_cons}
use Rattle.row_order.specs.RowLists.{Sorted}
use Rattle.row_order.specs.Packed.{bit}
use Rattle.plan.specs.Forest.{Forest, none, tree}
use Rattle.plan.specs.Op.{filter, repartition, sort_op, merge_op, sort_merge_join, output_requirement, Plan}
use Rattle.plan.specs.Samples.{up, by, source_of}
use Rattle.plan.specs.WellFormed.{well_formed}
use Rattle.plan.specs.declared.Distribution.TheVariants.{Single}
use Rattle.plan.specs.declared.JoinType.TheVariants.{Inner}
use Rattle.semantics.specs.Check.{check}
use Rattle.semantics.specs.Joins.{grouped_nil, grouped_cons}
use Rattle.semantics.specs.Runs.{Streams, Env, each_nil, each_cons, SortOf, Run, run_none, run_tree, Declared, Sources}
use Rattle.semantics.proofs.Examples.SampleRows.{row, twin}
use Rattle.semantics.specs.Holds.{Everywhere, nowhere, node}
use Rattle.semantics.proofs.Theorems.Common.Streams.{all_sorted_nil}

abbrev pub passing : Plan
passing =
    tree (output_requirement (by 0) Single None)
    (tree (sort_merge_join Inner (record { key = up 0; other = 0 } ∷ []))
    (tree (merge_op (by 0) None)
    (tree (sort_op true (by 0) None) (tree (repartition false 2 false []) (tree filter (tree (source_of 1 1 0 [] false) none none) none) none) none)
    (tree (source_of 1 1 0 (by 0) false) none none))
    none)
    none

pub accepted_passes : (well_formed passing ≡ true) × (check passing ≡ true)
accepted_passes = (refl, refl)

-- The first source delivers 2, 1, 3, the second 1, 2; the filter takes all rows but 3
abbrev source_rows : ℕ → List Row
source_rows zero = row 2 ∷ row 1 ∷ row 3 ∷ []
source_rows (suc i) = row 1 ∷ row 2 ∷ []

abbrev pub given : Env
given = record { rows = λ i k. source_rows i; test = λ j r. not (equal (cell r 0) (num (pos 3))) }

one_two_lem : Sorted (by 0) (row 1 ∷ row 2 ∷ [])
one_two_lem = pw_cons (all_cons refl all_nil) (pw_cons all_nil pw_nil)

-- no column is constant
free : (n c : ℕ) → bit 0 c ≡ true → cell (row n) c ≡ null
free n zero e = no_bool e
free n (suc c) e = refl

pub given_kept : Sources given 0 passing
given_kept =
    let first : Declared 0 [] ((row 2 ∷ row 1 ∷ row 3 ∷ []) ∷ []) =
    record {
      value = λ c. null;
      rows = all_cons (all_cons (free 2) (all_cons (free 1) (all_cons (free 3) all_nil))) all_nil;
      sorted = all_sorted_nil _;
    } in
    let second : Declared 0 (by 0) ((row 1 ∷ row 2 ∷ []) ∷ []) =
    record { value = λ c. null; rows = all_cons (all_cons (free 1) (all_cons (free 2) all_nil)) all_nil; sorted = all_cons one_two_lem all_nil } in
    (tt, (tt, (tt, (tt, (tt, (tt, (first, tt, tt), tt), tt), tt), (second, tt, tt)), tt), tt)

-- What each node puts out
abbrev pub carried : Forest Streams
carried =
    tree ((twin 1 ∷ twin 2 ∷ []) ∷ [])
    (tree ((twin 1 ∷ twin 2 ∷ []) ∷ [])
    (tree ((row 1 ∷ row 2 ∷ []) ∷ [])
    (tree ((row 2 ∷ []) ∷ (row 1 ∷ []) ∷ [])
    (tree ((row 2 ∷ []) ∷ (row 1 ∷ []) ∷ []) (tree ((row 2 ∷ row 1 ∷ []) ∷ []) (tree ((row 2 ∷ row 1 ∷ row 3 ∷ []) ∷ []) none none) none) none) none)
    (tree ((row 1 ∷ row 2 ∷ []) ∷ []) none none))
    none)
    none

pub carries : Run given 0 0 passing carried
carries =
    run_tree (record { raw = (twin 1 ∷ twin 2 ∷ []) ∷ []; made = refl; is = refl })
    (run_tree (record {
      raw = (twin 1 ∷ twin 2 ∷ []) ∷ [];
      made = each_cons (grouped_cons {t = twin 1 ∷ []} (same_refl (twin 1 ∷ [])) (grouped_cons {t = twin 2 ∷ []} (same_refl (twin 2 ∷ [])) grouped_nil))
          each_nil;
      is = refl;
    })
    (run_tree {o = merge_op (by 0) None}
    (record {
      raw = (row 1 ∷ row 2 ∷ []) ∷ [];
      made = record {
        one = row 1 ∷ row 2 ∷ [];
        is = refl;
        that = record { mixed = mixes_cons (mixes_cons mixes_nil (mix_left mix_nil)) (mix_right (mix_left mix_nil)); sorted = λ _. one_two_lem };
      };
      is = refl;
    })
    (run_tree (record { raw = (row 2 ∷ []) ∷ (row 1 ∷ []) ∷ []; made = each_cons (single (row 2)) (each_cons (single (row 1)) each_nil); is = refl })
    (run_tree {o = repartition false 2 false []}
    (record {
      raw = (row 2 ∷ []) ∷ (row 1 ∷ []) ∷ [];
      made = record { count = refl; same = record { sums = λ w. refl }; sorted = λ _ _. all_sorted_nil ((row 2 ∷ []) ∷ (row 1 ∷ []) ∷ []) };
      is = refl;
    })
    (run_tree (record { raw = (row 2 ∷ row 1 ∷ []) ∷ []; made = refl; is = refl })
    (run_tree (record { raw = (row 2 ∷ row 1 ∷ row 3 ∷ []) ∷ []; made = refl; is = refl }) run_none run_none)
    run_none) run_none) run_none)
    (run_tree (record { raw = (row 1 ∷ row 2 ∷ []) ∷ []; made = refl; is = refl }) run_none run_none))
    run_none)
    run_none
  where
    single : (x : Row) → SortOf (by 0) (x ∷ []) (x ∷ [])
    single x = record { same = same_refl (x ∷ []); sorted = pw_cons all_nil pw_nil }

-- no stream of any node is empty
pub no_stream_empty : Everywhere (λ o c css s. (1 ≤ length s) × All (λ l. 1 ≤ length l) s) passing carried
no_stream_empty = node one (node one (node one (node two_streams (node two_streams (node one (node one nowhere nowhere) nowhere) nowhere) nowhere)
    (node one nowhere nowhere)) nowhere) nowhere
  where
    some : (x : Row) (l : List Row) → 1 ≤ length (x ∷ l)
    some x l = omega arith

    one : {x : Row} {l : List Row} → (1 ≤ length ((x ∷ l) ∷ [])) × All (λ m. 1 ≤ length m) ((x ∷ l) ∷ [])
    one {x} {l} = (omega arith, all_cons (some x l) all_nil)

    two_streams : {x y : Row} {l m : List Row} → (1 ≤ length ((x ∷ l) ∷ (y ∷ m) ∷ [])) × All (λ n. 1 ≤ length n) ((x ∷ l) ∷ (y ∷ m) ∷ [])
    two_streams {x} {y} {l} {m} = (omega arith, all_cons (some x l) (all_cons (some y m) all_nil))
