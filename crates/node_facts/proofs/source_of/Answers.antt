use native.Mathlib.Omega.{arith}
use mathlib.Core.Path.{◌∙◌, ap₂}
use Rattle.plan.specs.WellFormed.{set_fits}
use Rattle.key_lists.specs.Keys.{keys_of}
use Rattle.node_facts.specs.Lending.{tail_set, says_source}
use Rattle.node_facts.proofs.source_of.Goals as goal

pub source_facts-requires : goal.source_facts-requires
source_facts-requires c = let p = c.requires.2 in
    let d = c.wide.ensures in
    (omega arith, ap₂ set_fits d (c.get32.ensures ∙ tail_set c.args.r.now) ∙ c.requires.3, c.key_list.ensures.few)

pub returns : goal.returns
returns c = says_source c.args.r.now (keys_of c.key_list.result) _ c.source_facts.result
    c.wide.result c.wide-2.result c.get32.result
    c.wide.ensures c.wide-2.ensures
    (c.get32.ensures ∙ tail_set c.args.r.now) c.key_list.ensures.is c.source_facts.ensures
