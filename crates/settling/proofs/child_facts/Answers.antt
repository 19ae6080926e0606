use mathlib.Core.Path.{ap, ◌∙◌}
use lib.ListN.{length}
use Rattle.arena.specs.Arena.{slot}
use Rattle.arena.specs.Keeping.{kept_long}
use Rattle.fact_slots.specs.Slots.{loaded}
use Rattle.settling.specs.Settling.{child_asks, child_here, child_shows}
use Rattle.settling.proofs.child_facts.Goals as goal

pub child-k-requires : goal.child-k-requires
child-k-requires c = child_asks c.args.m.now c.args.i c.requires.0 c.args.j c.requires.1

pub kept_at-requires : goal.kept_at-requires
kept_at-requires c = let k = c.child-k in
    (child_here c.args.m.now c.args.i c.requires.0 c.args.j c.requires.1 k.result k.ensures).slot

pub load-requires : goal.load-requires
load-requires c = let k = c.child-k in
    ap length c.kept_at.ensures ∙ kept_long c.args.m.now _ (child_here c.args.m.now c.args.i c.requires.0 c.args.j c.requires.1
    k.result k.ensures).slot

pub returns : goal.returns
returns c = let k = c.child-k in
    child_shows c.args.m.now c.args.i c.requires.0 c.args.j c.requires.1 k.result k.ensures _
    (c.load.ensures ∙ ap loaded c.kept_at.ensures)
