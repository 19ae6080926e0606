use lib.ListN.{length}
use Rattle.step_moves.specs.Runs.{Loop}
use Rattle.step_moves.proofs.run.Given as goal

abbrev pub invariant-loop-done : goal.invariant-loop-done
invariant-loop-done l =
    Loop l.m l.u l.slots l.nodes l.n l.gone (length l.initial.flags) l.bytes
    (record { cells = l.initial.cells; nulls = l.initial.nulls; widths = l.initial.widths; places = l.initial.places; order = l.initial.order; counts = l.initial.counts; held = l.initial.held; queued = l.initial.queued }) l.b l._done
    (record { cells = l.cells; nulls = l.nulls; widths = l.widths; places = l.places; order = l.order; counts = l.counts; held = l.held; queued = l.queued })
