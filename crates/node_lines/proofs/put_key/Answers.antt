use native.Mathlib.Omega.{arith}
use Rattle.node_lines.specs.Laws.{put_put, put_as, key_text_lem}
use Rattle.node_lines.proofs.put_key.Goals as goal

pub returns : goal.returns
returns c = put_as (key_text_lem c.args.column c.args.options c.either.result c.either-2.result c.either.ensures c.either-2.ensures)
    (put_put (omega arith) c.put_number-e.ensures c.put.ensures)
