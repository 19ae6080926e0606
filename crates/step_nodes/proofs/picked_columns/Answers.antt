use native.Mathlib.Omega.{arith}
use mathlib.Core.Path.{ap, ◌∙◌}
use lib.ListN.{get_or, length}
use Rattle.arena.specs.Arena.{slot}
use Rattle.record_fields.specs.Fields.{tail_columns}
use Rattle.step_nodes.specs.Moves.{projects}
use Rattle.step_nodes.specs.Laying.{shown, slot_proper}
use Rattle.step_nodes.proofs.picked_columns.Goals as goal

pub tail_columns-items-requires : goal.tail_columns-items-requires
tail_columns-items-requires c = ap length c.record_at-r.ensures ∙ (shown c.args.m.now c.args.u c.args.i c.requires.0 c.requires.1).long

pub bounds-r-13 : goal.bounds-r-13
bounds-r-13 c = let z = (shown c.args.m.now c.args.u c.args.i c.requires.0 c.requires.1).long in
    rw c.record_at-r.ensures (omega arith)

pub returns : goal.returns
returns c = let m = c.args.m.now in let i = c.args.i in let e = c.record_at-r.ensures in
    projects (slot m i).rec (slot_proper m c.args.u i c.requires.0 c.requires.1 (slot m i).rec (λ x. (slot m i).rec)) c.requires.2 _
    (c.tail_columns-items.ensures ∙ ap tail_columns e) (c.wide-n.ensures ∙ ap (λ r. get_or r 13 0) e)
