use native.Mathlib.Omega.{arith}
use Rattle.node_lines.specs.Laws.{put_put}
use Rattle.node_lines.proofs.put_next_key.Goals as goal

pub returns : goal.returns
returns c = put_put (omega arith) c.put-e.ensures c.put_key.ensures
