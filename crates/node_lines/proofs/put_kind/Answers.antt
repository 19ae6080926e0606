use native.Mathlib.Omega.{arith}
use mathlib.Core.Path.{sym, ap}
use Rattle.node_lines.specs.Lines.{kind_name}
use Rattle.node_lines.specs.Laws.{put_most, put_as}
use Rattle.node_lines.proofs.put_kind.Goals as goal

pub shape_of-out-in-Source : goal.shape_of-out-in-Source
shape_of-out-in-Source c = c.put.auto.out

pub returns-in-Source : goal.returns-in-Source
unfolding kind_name
returns-in-Source c = put_as (ap kind_name (sym c.in-Source.is)) (put_most 18 (omega arith) c.put.ensures)

pub shape_of-out-in-Filter : goal.shape_of-out-in-Filter
shape_of-out-in-Filter c = c.put-in-Filter.auto.out

pub returns-in-Filter : goal.returns-in-Filter
unfolding kind_name
returns-in-Filter c = put_as (ap kind_name (sym c.in-Filter.is)) (put_most 18 (omega arith) c.put-in-Filter.ensures)

pub shape_of-out-in-Projection : goal.shape_of-out-in-Projection
shape_of-out-in-Projection c = c.put-in-Projection.auto.out

pub returns-in-Projection : goal.returns-in-Projection
unfolding kind_name
returns-in-Projection c = put_as (ap kind_name (sym c.in-Projection.is)) (put_most 18 (omega arith) c.put-in-Projection.ensures)

pub shape_of-out-in-Union : goal.shape_of-out-in-Union
shape_of-out-in-Union c = c.put-in-Union.auto.out

pub returns-in-Union : goal.returns-in-Union
unfolding kind_name
returns-in-Union c = put_as (ap kind_name (sym c.in-Union.is)) (put_most 18 (omega arith) c.put-in-Union.ensures)

pub shape_of-out-in-Repartition : goal.shape_of-out-in-Repartition
shape_of-out-in-Repartition c = c.put-in-Repartition.auto.out

pub returns-in-Repartition : goal.returns-in-Repartition
unfolding kind_name
returns-in-Repartition c = put_as (ap kind_name (sym c.in-Repartition.is)) (put_most 18 (omega arith) c.put-in-Repartition.ensures)

pub shape_of-out-in-Coalesce : goal.shape_of-out-in-Coalesce
shape_of-out-in-Coalesce c = c.put-in-Coalesce.auto.out

pub returns-in-Coalesce : goal.returns-in-Coalesce
unfolding kind_name
returns-in-Coalesce c = put_as (ap kind_name (sym c.in-Coalesce.is)) (put_most 18 (omega arith) c.put-in-Coalesce.ensures)

pub shape_of-out-in-Sort : goal.shape_of-out-in-Sort
shape_of-out-in-Sort c = c.put-in-Sort.auto.out

pub returns-in-Sort : goal.returns-in-Sort
unfolding kind_name
returns-in-Sort c = put_as (ap kind_name (sym c.in-Sort.is)) (put_most 18 (omega arith) c.put-in-Sort.ensures)

pub shape_of-out-in-Merge : goal.shape_of-out-in-Merge
shape_of-out-in-Merge c = c.put-in-Merge.auto.out

pub returns-in-Merge : goal.returns-in-Merge
unfolding kind_name
returns-in-Merge c = put_as (ap kind_name (sym c.in-Merge.is)) (put_most 18 (omega arith) c.put-in-Merge.ensures)

pub shape_of-out-in-GlobalLimit : goal.shape_of-out-in-GlobalLimit
shape_of-out-in-GlobalLimit c = c.put-in-GlobalLimit.auto.out

pub returns-in-GlobalLimit : goal.returns-in-GlobalLimit
unfolding kind_name
returns-in-GlobalLimit c = put_as (ap kind_name (sym c.in-GlobalLimit.is)) (put_most 18 (omega arith) c.put-in-GlobalLimit.ensures)

pub shape_of-out-in-LocalLimit : goal.shape_of-out-in-LocalLimit
shape_of-out-in-LocalLimit c = c.put-in-LocalLimit.auto.out

pub returns-in-LocalLimit : goal.returns-in-LocalLimit
unfolding kind_name
returns-in-LocalLimit c = put_as (ap kind_name (sym c.in-LocalLimit.is)) (put_most 18 (omega arith) c.put-in-LocalLimit.ensures)

pub shape_of-out-in-SortMergeJoin : goal.shape_of-out-in-SortMergeJoin
shape_of-out-in-SortMergeJoin c = c.put-in-SortMergeJoin.auto.out

pub returns-in-SortMergeJoin : goal.returns-in-SortMergeJoin
unfolding kind_name
returns-in-SortMergeJoin c = put_as (ap kind_name (sym c.in-SortMergeJoin.is)) (put_most 18 (omega arith) c.put-in-SortMergeJoin.ensures)

pub shape_of-out-in-HashJoin : goal.shape_of-out-in-HashJoin
shape_of-out-in-HashJoin c = c.put-in-HashJoin.auto.out

pub returns-in-HashJoin : goal.returns-in-HashJoin
unfolding kind_name
returns-in-HashJoin c = put_as (ap kind_name (sym c.in-HashJoin.is)) (put_most 18 (omega arith) c.put-in-HashJoin.ensures)

pub shape_of-out-in-OutputRequirement : goal.shape_of-out-in-OutputRequirement
shape_of-out-in-OutputRequirement c = c.put-in-OutputRequirement.auto.out

pub returns-in-OutputRequirement : goal.returns-in-OutputRequirement
unfolding kind_name
returns-in-OutputRequirement c = put_as (ap kind_name (sym c.in-OutputRequirement.is)) (put_most 18 (omega arith) c.put-in-OutputRequirement.ensures)

pub shape_of-out-in-PartialSort : goal.shape_of-out-in-PartialSort
shape_of-out-in-PartialSort c = c.put-in-PartialSort.auto.out

pub returns-in-PartialSort : goal.returns-in-PartialSort
unfolding kind_name
returns-in-PartialSort c = put_as (ap kind_name (sym c.in-PartialSort.is)) (put_most 18 (omega arith) c.put-in-PartialSort.ensures)

pub shape_of-out-in-Aggregate : goal.shape_of-out-in-Aggregate
shape_of-out-in-Aggregate c = c.put-in-Aggregate.auto.out

pub returns-in-Aggregate : goal.returns-in-Aggregate
unfolding kind_name
returns-in-Aggregate c = put_as (ap kind_name (sym c.in-Aggregate.is)) (put_most 18 (omega arith) c.put-in-Aggregate.ensures)
