use native.Mathlib.Omega.{arith}
use mathlib.Core.Path.{ap, ◌∙◌}
use lib.ListN.{get_or, length}
use Rattle.plan.specs.Numbers.{kind_of}
use Rattle.plan_codec.specs.Decode.{from_bytes}
use Rattle.semantics.specs.Facts.{facts}
use Rattle.arena.specs.Arena.{slot}
use Rattle.step_nodes.specs.Manners.{number_is, straight_is}
use Rattle.step_nodes.specs.Laying.{op_in, below_in, in_room, shown, own_row, own_facts, node_put}
use Rattle.step_nodes.proofs.put_node.Goals as goal

pub bounds-r-0 : goal.bounds-r-0
bounds-r-0 c = let z = (shown c.args.m.now c.args.u c.args.i c.requires.0 c.requires.1).long in
    rw c.record_at-r.ensures (omega arith)

pub preserves-requires : goal.preserves-requires
preserves-requires c = ap length c.record_at-r.ensures ∙ (shown c.args.m.now c.args.u c.args.i c.requires.0 c.requires.1).long

pub kept_at-requires : goal.kept_at-requires
kept_at-requires c = in_room c.args.m.now c.args.u c.args.i c.requires.0 c.requires.1

pub streams-outs-requires : goal.streams-outs-requires
streams-outs-requires c = own_row c.args.m.now c.args.u c.args.i c.requires.0 c.requires.1 _ c.kept_at.ensures

pub returns : goal.returns
returns c = let m = c.args.m.now in let u = c.args.u in let i = c.args.i in let a = c.requires.0 in let l = c.requires.1 in
    let r = (slot m i).rec in
    let e = c.record_at-r.ensures in
    let k = c.kind_of-kind.ensures ∙ ap (λ x. kind_of (get_or x 0 0)) e in
    let p = c.preserves.ensures ∙ ap (λ x. (from_bytes x).preserve) e in (
      c.inputs-inps.ensures,
      node_put c.args.table.now c.args.n c.args.above c.args.a c.args.b (op_in m i) (below_in m i) _ _ _ _
          (number_is r (facts (below_in m i)) _ _ _ k c.mark_counts.ensures c.manner_of-manner.ensures)
          (straight_is r _ _ _ k p c.is_straight-straight.ensures)
          (c.streams-outs.ensures ∙ ap (λ F. F.streams) (own_facts m u i a l _ c.kept_at.ensures))
          c.inputs-inps.ensures,
    )
