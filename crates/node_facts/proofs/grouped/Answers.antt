use native.Mathlib.Omega.{arith}
use mathlib.Core.Path.{◌≡◌, refl, ap₂, ◌∙◌}
use lib.ListN.{length, get_or, take}
use Rattle.plan.specs.WellFormed.{below}
use Rattle.plan_format.specs.LastPass.{key_columns}
use Rattle.semantics.specs.Facts as sem
use Rattle.facts.specs.Known.{known}
use Rattle.record_fields.specs.Fronts.{counted, short}
use Rattle.node_facts.specs.Lending.{says_lent}
use Rattle.node_facts.proofs.grouped.Goals as goal

pub slice_bounds-projection_facts-end : goal.slice_bounds-projection_facts-end
slice_bounds-projection_facts-end c = let p = c.requires.1 in let e = c.wide-n.ensures in
    let l : length (key_columns c.args.r.now) ≡ 8 = refl in
    counted c.key_columns-cols.result (key_columns c.args.r.now) 8 c.wide-n.result
    c.key_columns-cols.ensures l (omega arith)

pub projection_facts-requires : goal.projection_facts-requires
projection_facts-requires c = let p = c.requires.1 in let e = c.wide-n.ensures in (
  c.requires.2,
  ap₂ (λ n l. below c.args.f.width (take n l)) e c.key_columns-cols.ensures ∙ c.requires.3,
  short 32 c.wide-n.result c.key_columns-cols.result (omega arith),
)

pub returns : goal.returns
returns c = says_lent (λ l. sem.proj_facts (known c.args.f) l) c.projection_facts.result c.wide-n.result (get_or c.args.r.now 12 0)
    c.key_columns-cols.result (key_columns c.args.r.now)
    c.wide-n.ensures c.key_columns-cols.ensures c.projection_facts.ensures
