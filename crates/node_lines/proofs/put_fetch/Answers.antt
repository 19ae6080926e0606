use native.Mathlib.Omega.{arith}
use mathlib.Core.Path.{sym, ap}
use Rattle.node_lines.specs.Lines.{fetch_text}
use Rattle.node_lines.specs.Laws.{put_most, put_as}
use Rattle.node_lines.proofs.put_fetch.Goals as goal

pub returns-in_default : goal.returns-in_default
returns-in_default c = put_as (ap fetch_text (sym c.in_default.is)) (put_most 20 (omega arith) c.put.ensures)

pub returns : goal.returns
returns c = put_as (ap fetch_text (sym c.in-Some.is)) c.put_number.ensures
