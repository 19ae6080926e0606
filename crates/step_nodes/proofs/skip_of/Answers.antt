use lib.Dec.{eqb}
use mathlib.Core.Path.{sym, ap, ◌∙◌}
use Rattle.plan.specs.declared.Kind.TheVariants.{GlobalLimit}
use Rattle.record_fields.specs.Kinds.{code_is, number_is, number_differs}
use Rattle.step_nodes.specs.Moves.{skipped, unskipped}
use Rattle.step_nodes.proofs.skip_of.Goals as goal

pub returns-in-GlobalLimit : goal.returns-in-GlobalLimit
returns-in-GlobalLimit c = let r = c.args.r.now in
    skipped r c.requires (code_is r 9 c.requires ∙ sym (number_is r GlobalLimit c.in-GlobalLimit.ensures)) _ c.get32.ensures

pub returns : goal.returns
returns c = let r = c.args.r.now in
    unskipped r c.requires (code_is r 9 c.requires ∙ sym (number_differs r GlobalLimit _ c.kind_of.ensures c.in_default.not-GlobalLimit))
