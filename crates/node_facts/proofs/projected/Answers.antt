use native.Mathlib.Omega.{arith}
use mathlib.Core.Path.{◌≡◌, ap₂, ◌∙◌}
use lib.ListN.{length, get_or, take, length-drop}
use Rattle.plan.specs.WellFormed.{below}
use Rattle.semantics.specs.Facts as sem
use Rattle.facts.specs.Known.{known}
use Rattle.record_fields.specs.Fields.{tail_columns}
use Rattle.record_fields.specs.Fronts.{counted, short}
use Rattle.node_facts.specs.Lending.{says_lent}
use Rattle.node_facts.proofs.projected.Goals as goal

pub slice_bounds-projection_facts-end : goal.slice_bounds-projection_facts-end
slice_bounds-projection_facts-end c = let p = c.requires.1 in let q = c.requires.0 in
    let e = c.wide-n.ensures in let l : length (tail_columns c.args.r.now) ≡ 32 = omega (arith, length-drop 32 c.args.r.now) in
    counted c.tail_columns-cols.result (tail_columns c.args.r.now) 32 c.wide-n.result
    c.tail_columns-cols.ensures l (omega arith)

pub projection_facts-requires : goal.projection_facts-requires
projection_facts-requires c = let p = c.requires.1 in let e = c.wide-n.ensures in (
  c.requires.2,
  ap₂ (λ n l. below c.args.f.width (take n l)) e c.tail_columns-cols.ensures ∙ c.requires.3,
  short 32 c.wide-n.result c.tail_columns-cols.result (omega arith),
)

pub returns : goal.returns
returns c = says_lent (λ l. sem.proj_facts (known c.args.f) l) c.projection_facts.result c.wide-n.result (get_or c.args.r.now 13 0)
    c.tail_columns-cols.result (tail_columns c.args.r.now)
    c.wide-n.ensures c.tail_columns-cols.ensures c.projection_facts.ensures
