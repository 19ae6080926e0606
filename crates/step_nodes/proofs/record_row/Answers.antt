use Rattle.step_nodes.specs.Moves.{record_keys}
use Rattle.step_nodes.proofs.record_row.Goals as goal

pub returns : goal.returns
returns c = record_keys c.args.r.now c.requires _ c.packed_keys-items.ensures c.wide-n.ensures
