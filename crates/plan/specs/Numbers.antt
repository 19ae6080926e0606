-- Document 01's numbers for kinds, join types, distributions, no fetch and refusals. These are definitions.
use Rattle.std.specs.Prelude.{List, [], ◌∷◌, ℕ, get_or, ⊤, Result, Ok, Err}
use Rattle.plan.specs.Op.{Op, kind}
use Rattle.plan.specs.declared.Kind.{Kind}
use Rattle.plan.specs.declared.Kind.TheVariants.{Source, Filter, Projection, Union, Repartition, Coalesce, Sort, Merge, GlobalLimit, LocalLimit, SortMergeJoin, HashJoin, OutputRequirement, PartialSort, Aggregate}
use Rattle.plan.specs.declared.JoinType.{JoinType}
use Rattle.plan.specs.declared.JoinType.TheVariants.{Inner, Left, Right, Full, LeftSemi, LeftAnti, RightSemi, RightAnti}
use Rattle.plan.specs.declared.Distribution.{Distribution}
use Rattle.plan.specs.declared.Distribution.TheVariants.{Unspecified, Single, Keyed}
use Rattle.plan.specs.declared.Refusal.{Refusal}
use Rattle.plan.specs.declared.Refusal.TheVariants.{Length, BlockSum, Header, KindOrChildren, RecordCount, Field, Column, Width, NoSuchNode, HasPartialSort, TooManyNodes, OutputTooShort, ConstantSort}

-- 01, 'Kinds': 1 source, .. 14 partial sort; 02, P1: 15 aggregate
abbrev pub kind_number : Kind → ℕ
kind_number Source = 1
kind_number Filter = 2
kind_number Projection = 3
kind_number Union = 4
kind_number Repartition = 5
kind_number Coalesce = 6
kind_number Sort = 7
kind_number Merge = 8
kind_number GlobalLimit = 9
kind_number LocalLimit = 10
kind_number SortMergeJoin = 11
kind_number HashJoin = 12
kind_number OutputRequirement = 13
kind_number PartialSort = 14
kind_number Aggregate = 15

-- '4-7 fetch, 4294967295 for none'
abbrev pub no_fetch : ℕ
no_fetch = 4294967295

-- The kind of a number; a number that no kind has is read as 14, and refused before anything is read from it
abbrev pub kinds : List Kind
kinds = PartialSort ∷ Source ∷ Filter ∷ Projection ∷ Union ∷ Repartition ∷ Coalesce ∷ Sort ∷ Merge ∷ GlobalLimit ∷ LocalLimit ∷ SortMergeJoin ∷ HashJoin
    ∷ OutputRequirement ∷ PartialSort ∷ Aggregate ∷ []

unfoldable pub kind_of : ℕ → Kind
kind_of k = get_or kinds k PartialSort

-- A node's kind, as 01's number
abbrev pub code : Op → ℕ
code o = kind_number (kind o)

-- 01, byte 14 of a join
abbrev pub join_number : JoinType → ℕ
join_number Inner = 0
join_number Left = 1
join_number Right = 2
join_number Full = 3
join_number LeftSemi = 4
join_number LeftAnti = 5
join_number RightSemi = 6
join_number RightAnti = 7

abbrev pub join_types : List JoinType
join_types = Inner ∷ Left ∷ Right ∷ Full ∷ LeftSemi ∷ LeftAnti ∷ RightSemi ∷ RightAnti ∷ []

unfoldable pub join_type_of : ℕ → JoinType
join_type_of k = get_or join_types k RightAnti

-- 01, byte 14 of kind 13: 0 none, 1 single, 2 keyed
abbrev pub distribution_number : Distribution → ℕ
distribution_number Unspecified = 0
distribution_number Single = 1
distribution_number (Keyed s) = 2

-- What a call that only passes or refuses answers
abbrev pub Verdict : Type 0
Verdict = Result ⊤ Refusal

abbrev pub Accepted : Verdict
Accepted = Ok tt

-- 01, 'From the input' and 'From the state'; 22 isn't given any more (02, P2)
abbrev pub refusal_number : Refusal → ℕ
refusal_number Length = 1
refusal_number BlockSum = 2
refusal_number Header = 3
refusal_number KindOrChildren = 4
refusal_number RecordCount = 5
refusal_number Field = 6
refusal_number Column = 7
refusal_number Width = 8
refusal_number NoSuchNode = 20
refusal_number HasPartialSort = 21
refusal_number TooManyNodes = 23
refusal_number OutputTooShort = 24
refusal_number ConstantSort = 25

-- The number of an answer: 0 for an accepted call, else the refusal's
abbrev pub number_of : Verdict → ℕ
number_of (Ok x) = 0
number_of (Err r) = refusal_number r
