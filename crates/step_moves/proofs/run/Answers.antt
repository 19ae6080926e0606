use native.Mathlib.Omega.{arith}
use lib.ListN.{length}
use Rattle.step_moves.specs.Runs.{loop_first, loop_asks, loop_rests, loop_next, loop_ends, listed_room}
use Rattle.step_moves.proofs.run.Goals as goal

pub has_waiter-waiter-requires : goal.has_waiter-waiter-requires
has_waiter-waiter-requires c = let a = c.args in
    let Y = c.requires in
    let x = listed_room a.nodes.now Y.plan Y.seated.listed in
    omega (arith, x, Y.nodes_are)

pub loop-done-init : goal.loop-done-init
loop-done-init c = let a = c.args in
    loop_first a.m.now a.u a.slots.now a.nodes.now a.n a.gone (length a.flags.now) a.bytes.now (record { cells = a.cells.now; nulls = a.nulls.now; widths = a.widths.now; places = a.places.now; order = a.order.now; counts = a.counts.now; held = a.held.now; queued = a.queued.now })

pub step-requires : goal.step-requires
step-requires c = let a = c.args in
    let l = c.loop-done in
    loop_asks a.m.now a.u a.slots.now a.nodes.now a.n a.gone (length a.flags.now) a.bytes.now (record { cells = a.cells.now; nulls = a.nulls.now; widths = a.widths.now; places = a.places.now; order = a.order.now; counts = a.counts.now; held = a.held.now; queued = a.queued.now }) c.requires l.b l._done (record { cells = l.cells; nulls = l.nulls; widths = l.widths; places = l.places; order = l.order; counts = l.counts; held = l.held; queued = l.queued }) l.invariant _ _ l.auto.flags c.has_waiter-waiter.ensures

pub returns-in-None : goal.returns-in-None
returns-in-None c = let a = c.args in
    let l = c.loop-done in
    loop_rests a.m.now a.u a.slots.now a.nodes.now a.n a.gone (length a.flags.now) a.bytes.now (record { cells = a.cells.now; nulls = a.nulls.now; widths = a.widths.now; places = a.places.now; order = a.order.now; counts = a.counts.now; held = a.held.now; queued = a.queued.now }) c.requires l.b l._done (record { cells = l.cells; nulls = l.nulls; widths = l.widths; places = l.places; order = l.order; counts = l.counts; held = l.held; queued = l.queued }) l.invariant _ c.step.result (length l.flags) l.auto.flags c.step.ensures c.in-None.is

pub loop-done-preserved : goal.loop-done-preserved
loop-done-preserved c = let a = c.args in
    let l = c.loop-done in
    loop_next a.m.now a.u a.slots.now a.nodes.now a.n a.gone (length a.flags.now) a.bytes.now (record { cells = a.cells.now; nulls = a.nulls.now; widths = a.widths.now; places = a.places.now; order = a.order.now; counts = a.counts.now; held = a.held.now; queued = a.queued.now }) c.requires l.b l._done (record { cells = l.cells; nulls = l.nulls; widths = l.widths; places = l.places; order = l.order; counts = l.counts; held = l.held; queued = l.queued }) l.invariant _ c.step.result (length l.flags) l.auto.flags c.step.ensures _ c.in-Some.is (omega arith)

pub returns : goal.returns
returns c = let a = c.args in
    let l = c.loop-done in
    loop_ends a.m.now a.u a.slots.now a.nodes.now a.n a.gone (length a.flags.now) a.bytes.now (record { cells = a.cells.now; nulls = a.nulls.now; widths = a.widths.now; places = a.places.now; order = a.order.now; counts = a.counts.now; held = a.held.now; queued = a.queued.now }) c.requires l.b l._done (record { cells = l.cells; nulls = l.nulls; widths = l.widths; places = l.places; order = l.order; counts = l.counts; held = l.held; queued = l.queued }) l.invariant (omega arith)
