use native.Mathlib.Omega.{arith}
use mathlib.Core.Path.{ap, ◌∙◌}
use lib.ListN.{get_or}
use Rattle.node_lines.specs.Lines.{fetch_in}
use Rattle.node_lines.specs.Laws.{put_put, put_as, line_slot}
use Rattle.node_lines.proofs.put_line.Goals as goal

pub overflow_cast-slot : goal.overflow_cast-slot
overflow_cast-slot c = omega (arith, c.type_inv.slot 12)

pub returns : goal.returns
returns c = let p = c.put_place-e in let h = c.requires.1 in
    put_as (line_slot c.args.slot.now c.args.node c.args.depth c.kind_of.result c.load-facts.result c.fetch_of-fetch.result
    c.kind_of.ensures c.load-facts.ensures (c.fetch_of-fetch.ensures ∙ ap (fetch_in (get_or c.args.slot.now 0 0)) c.get32.ensures))
    (put_put (omega arith) p.ensures c.put_shape.ensures)
