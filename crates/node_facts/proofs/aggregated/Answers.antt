use native.Mathlib.Omega.{arith}
use lib.ListN.{get_or, length-take}
use Rattle.plan_format.specs.LastPass.{key_columns}
use Rattle.semantics.specs.Facts as sem
use Rattle.facts.specs.Known.{known}
use Rattle.node_facts.specs.Ready.{count, groups_in}
use Rattle.node_facts.specs.Lending.{grouped_fits, says_grouped}
use Rattle.node_facts.proofs.aggregated.Goals as goal

pub placed-requires : goal.placed-requires
placed-requires c = let r = c.args.r.now in
    let w = c.wide in let n = c.wide-2 in let x = c.saturating_sub-more in (
      c.grouped.ensures.fine,
      grouped_fits (sem.proj_facts (known c.args.f) (groups_in r)) c.grouped.result (count r) n.result x.result w.result (get_or r 13 0)
          n.ensures w.ensures x.ensures c.grouped.ensures (omega (arith, length-take (count r) (key_columns r))) c.requires.4,
    )

pub returns : goal.returns
returns c = let r = c.args.r.now in
    let w = c.wide in let n = c.wide-2 in let x = c.saturating_sub-more in
    says_grouped (sem.proj_facts (known c.args.f) (groups_in r)) c.grouped.result (count r) n.result x.result w.result (get_or r 13 0)
    n.ensures w.ensures x.ensures c.grouped.ensures c.placed.result c.placed.ensures
