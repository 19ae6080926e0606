use native.Mathlib.Omega.{arith}
use Rattle.node_lines.specs.Laws.{put_put, put_most}
use Rattle.plan_listing.proofs.list.Goals as goal

pub returns : goal.returns
returns c = put_most 36197 (let h = c.requires.1 in omega arith) (put_put (let h = c.requires.2 in omega arith) c.put-e.ensures c.put_lines.ensures)
