use mathlib.Core.Path.{ap, ◌∙◌}
use lib.ListN.{length}
use Rattle.arena.specs.Arena.{slot}
use Rattle.arena.specs.Keeping.{kept_long}
use Rattle.plan_context.specs.View.{summary_in}
use Rattle.settling.specs.Settling.{child_asks, child_here, child_sums}
use Rattle.settling.proofs.child_summary.Goals as goal

pub child-k-requires : goal.child-k-requires
child-k-requires c = child_asks c.args.m.now c.args.i c.requires.0 c.args.j c.requires.1

pub kept_at-requires : goal.kept_at-requires
kept_at-requires c = let k = c.child-k in
    (child_here c.args.m.now c.args.i c.requires.0 c.args.j c.requires.1 k.result k.ensures).slot

pub load_summary-requires : goal.load_summary-requires
load_summary-requires c = let k = c.child-k in
    ap length c.kept_at.ensures ∙ kept_long c.args.m.now _ (child_here c.args.m.now c.args.i c.requires.0 c.args.j c.requires.1
    k.result k.ensures).slot

pub returns : goal.returns
returns c = let k = c.child-k in
    child_sums c.args.m.now c.args.i c.requires.0 c.args.j c.requires.1 k.result k.ensures _
    (c.load_summary.ensures ∙ ap summary_in c.kept_at.ensures)
