use mathlib.Core.Path.{ap, ◌∙◌}
use Rattle.semantics.specs.Properties.{cuts}
use Rattle.plan_codec.specs.Decode.{decode}
use Rattle.step_nodes.specs.Laying.{slot_proper}
use Rattle.step_nodes.proofs.cut_of.Goals as goal

pub skip_of-skip-requires : goal.skip_of-skip-requires
skip_of-skip-requires c = slot_proper c.args.m.now c.args.u c.args.i c.requires.0 c.requires.1 _ c.record_at-r.ensures

pub fetch-fetch-requires : goal.fetch-fetch-requires
fetch-fetch-requires c = slot_proper c.args.m.now c.args.u c.args.i c.requires.0 c.requires.1 _ c.record_at-r.ensures

pub returns : goal.returns
returns c = let e = c.record_at-r.ensures in
    let x = c.skip_of-skip.ensures ∙ ap (λ r. (cuts (decode r)).skip) e in
    let y = c.fetch-fetch.ensures ∙ ap (λ r. (cuts (decode r)).fetch) e in
    λ j. record { skip = x j; fetch = y j }
