-- Lines computed: sources, a sort with keys of each option, a join, a node with nothing to show. Assumes nothing.
use Rattle.std.specs.Prelude.{◌≡◌, refl, true, false, [], ◌∷◌, Some, None}
use Rattle.plan.specs.declared.Kind.TheVariants.{Source, Filter, Sort, Merge, SortMergeJoin}
use Rattle.node_lines.specs.Lines.{ascii, digits_in, kind_name, further, line_of}

-- the two lines of 01's example
merge : line_of 0 0 Merge 1 None (record { col = 2; desc = false; first = false } ∷ []) ≡ ascii "0 0 merge 1 - 2al\n"
unfolding digits_in kind_name further
merge = refl

source : line_of 1 1 Source 2 None (record { col = 2; desc = false; first = false } ∷ record { col = 0; desc = false; first = false } ∷ [])
    ≡ ascii "1 1 source 2 - 2al,0al\n"
unfolding digits_in kind_name further
source = refl

sort : line_of 125 10 Sort 64 (Some 4294967294)
    (record { col = 31; desc = true; first = false } ∷ record { col = 9; desc = false; first = true } ∷ record { col = 10; desc = true; first = true } ∷ [])
    ≡ ascii "125 10 sort 64 4294967294 31dl,9af,10df\n"
unfolding digits_in kind_name further
sort = refl

join : line_of 4 3 SortMergeJoin 1 None (record { col = 0; desc = true; first = false } ∷ []) ≡ ascii "4 3 sort-merge-join 1 - 0dl\n"
unfolding digits_in kind_name further
join = refl

filter : line_of 2 2 Filter 1 None [] ≡ ascii "2 2 filter 1 - -\n"
unfolding digits_in kind_name further
filter = refl
