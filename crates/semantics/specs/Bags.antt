-- The rows of a plan that has no joins and no aggregates and cuts nothing off, one bag for each root. These are definitions.
use Rattle.std.specs.Prelude.{Bool, true, ◌&&◌, List, [], ◌∷◌, map, ℕ, get_or}
use Rattle.row_order.specs.Iso.{Row}
use Rattle.row_order.specs.Lists.{concat, Same, tab}
use Rattle.plan.specs.Forest.{none, tree}
use Rattle.plan.specs.Op.{Op, source, filter, projection, union, repartition, coalesce, sort_op, merge_op, global_limit, local_limit, sort_merge_join, hash_join, output_requirement, partial_sort, aggregate, Plan}
use Rattle.semantics.specs.Properties.{simple_op}
use Rattle.semantics.specs.Joins.{keep}
use Rattle.semantics.specs.Runs.{Streams, Env, next_s, next_f, past, proj}

abbrev pub simple_plan : Plan → Bool
simple_plan none = true
simple_plan (tree o c r) = simple_op o && (simple_plan c && simple_plan r)

-- The rows of a node, from its children's: no kind but filters, projections and unions changes them. A join and an aggregate are left out here
abbrev pub bag_op : Env → ℕ → ℕ → Op → List (List Row) → List Row
bag_op E i j (source s) bs = concat (tab s.streams (E.rows i))
bag_op E i j filter bs = keep (E.test j) (get_or bs 0 [])
bag_op E i j (projection cols) bs = map (proj cols) (get_or bs 0 [])
bag_op E i j union bs = concat bs
bag_op E i j (repartition p n h ks) bs = get_or bs 0 []
bag_op E i j (coalesce f) bs = get_or bs 0 []
bag_op E i j (sort_op p ks f) bs = get_or bs 0 []
bag_op E i j (merge_op ks f) bs = get_or bs 0 []
bag_op E i j (global_limit s f note) bs = get_or bs 0 []
bag_op E i j (local_limit f note) bs = get_or bs 0 []
bag_op E i j (sort_merge_join t on) bs = []
bag_op E i j (hash_join t on) bs = []
bag_op E i j (output_requirement ks d f) bs = get_or bs 0 []
bag_op E i j (partial_sort p ks n f) bs = get_or bs 0 []
bag_op E i j (aggregate ks n) bs = []

abbrev pub bags : Env → ℕ → ℕ → Plan → List (List Row)
bags E i j none = []
bags E i j (tree o c r) =
    bag_op E i j o (bags E (next_s o i) (next_f o j) c) ∷ bags E (past next_s c (next_s o i)) (past next_f c (next_f o j)) r

-- The rows of a node's streams are those of a bag
abbrev pub Fills : Streams → List Row → Type 0
Fills s b = Same (concat s) b

-- The rows of two nodes' streams are the same, each as often
abbrev pub SameRows : Streams → Streams → Type 0
SameRows s t = Same (concat s) (concat t)
