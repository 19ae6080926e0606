use borrow.Author.Rules.{rules}
use mathlib.Core.Path.{sym, ap, ◌∙◌, subst}
use Rattle.semantics.specs.Facts as sem
use Rattle.plan_codec.specs.Decode.{decode}
use Rattle.node_facts.specs.Ready.{kids_of}
use Rattle.fact_slots.specs.Slots.{loaded}
use Rattle.facts.specs.Known.{Says}
use Rattle.plan_context.specs.View.{summary_in}
use Rattle.plan_context.specs.Storing.{summary_back, facts_stay}
use Rattle.settling.proofs.keep_node.Goals as goal

pub returns : goal.returns
returns c = let x = c.node_into in let y = c.store_summary in
    let l = x.auto.own ∙ c.requires.0.room in (
      subst (Says (sem.facts_op (decode c.args.r.now) (kids_of c.args.r.now (loaded c.args.first.now) (loaded c.args.second.now))))
          (sym (ap loaded y.ensures ∙ facts_stay x.new.own c.args.s l)) x.ensures,
      ap summary_in y.ensures ∙ summary_back x.new.own
          c.args.s l c.requires.1 (search rules),
    )
