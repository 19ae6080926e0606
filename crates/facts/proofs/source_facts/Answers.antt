use mathlib.Core.Path.{subst}
use Rattle.semantics.specs.Facts as sem
use Rattle.key_lists.specs.Keys.{keys_of}
use Rattle.facts.specs.Known.{Says}
use Rattle.facts.specs.Saying.{says_source}
use Rattle.facts.proofs.source_facts.Goals as goal

pub reordered-requires : goal.reordered-requires
reordered-requires c = (
  (says_source c.args.width c.args.streams c.args.consts c.alone-table.result c.no_keys-order.result c.requires.0 c.requires.1
      c.alone-table.ensures c.no_keys-order.ensures.0).fine,
  c.requires.2,
)

pub returns : goal.returns
returns c = subst (λ (F : sem.Facts). Says (sem.reorder F (keys_of c.args.keys)) c.reordered.result)
    (says_source c.args.width c.args.streams c.args.consts c.alone-table.result c.no_keys-order.result c.requires.0
    c.requires.1 c.alone-table.ensures c.no_keys-order.ensures.0).is c.reordered.ensures
