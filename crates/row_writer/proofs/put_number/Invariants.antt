use mathlib.Core.Path.{◌≡◌}
use lib.ListN.{length}
use Rattle.row_writer.specs.Writing.{Put}
use Rattle.row_writer.proofs.put_number.Given as goal

abbrev pub invariant-loop-b : goal.invariant-loop-b
invariant-loop-b l = (length l.d ≡ length l.initial.d) × Put (length l.initial.d) l.x l.b-index l.d l.y
