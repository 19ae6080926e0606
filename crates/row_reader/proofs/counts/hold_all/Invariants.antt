use mathlib.Core.Path.{◌≡◌}
use lib.ListN.{length, take}
use Rattle.step_tables.specs.Holding.{HeldAre}
use Rattle.row_reader.proofs.counts.hold_all.Given as goal

abbrev pub invariant-loop-g : goal.invariant-loop-g
invariant-loop-g l = (length l.held ≡ length l.initial.held) × HeldAre l.held (take l.g-index l.places)
