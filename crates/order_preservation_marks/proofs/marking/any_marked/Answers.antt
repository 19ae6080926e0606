use Rattle.std.proofs.Common.{rules, tests}
use Rattle.std.proofs.lemmas.Iterator.{YieldsList-from_slice}
use Rattle.std.proofs.lemmas.Iterator.Search.{any_from_yields_List}
use Rattle.arena.specs.Arena.{marked}
use Rattle.order_preservation_marks.proofs.marking.any_marked.Goals as goal

pub returns : goal.returns
returns c = any_from_yields_List marked _ _ _ c.any.ensures.ran (YieldsList-from_slice c.args.ks.now cc) (λ x b q k. search (rules, tests))
