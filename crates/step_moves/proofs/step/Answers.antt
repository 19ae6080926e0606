use native.Mathlib.Omega.{arith}
use mathlib.Core.Path.{refl, ap, ◌∙◌}
use Prim.Native.Nat.{ℕ}
use lib.ListN.{length}
use Rattle.step_choices.specs.Choosing.{movable}
use Rattle.step_moves.specs.Stepping.{Ready, rests}
use Rattle.step_moves.specs.Asking.{asks_operator, asks_seat, asks_pick, picks_there, asks_output, asks_place, asks_carry, asks_requeue, steps}
use Rattle.step_moves.proofs.step.Goals as goal

pub next_operator-o-requires : goal.next_operator-o-requires
next_operator-o-requires c = let a = c.args in
    asks_operator a.m.now a.u a.slots.now a.nodes.now a.n a.gone a.waiter a.b (length a.flags.now) (record { cells = a.cells.now; nulls = a.nulls.now; widths = a.widths.now; places = a.places.now; order = a.order.now; counts = a.counts.now; held = a.held.now; queued = a.queued.now }) c.requires

pub returns-then-o-eq0 : goal.returns-then-o-eq0
returns-then-o-eq0 c = let a = c.args in
    let o = c.next_operator-o in
    λ f done st S R e p d.
    rests a.m.now a.u a.slots.now a.nodes.now f (length a.flags.now) done (record { cells = a.cells.now; nulls = a.nulls.now; widths = a.widths.now; places = a.places.now; order = a.order.now; counts = a.counts.now; held = a.held.now; queued = a.queued.now }) st a.flags.now S R refl o.result.movers
    (o.ensures.0 ∙ ap (λ (k : ℕ). length (movable a.nodes.now k a.flags.now a.held.now a.queued.now)) e) (omega (arith, c.if-o-eq0.true))

pub offset_bounds-slots-j : goal.offset_bounds-slots-j
offset_bounds-slots-j c = let a = c.args in
    let o = c.next_operator-o in
    let h = asks_seat a.m.now a.u a.slots.now a.nodes.now a.n a.gone a.waiter a.b (length a.flags.now) (record { cells = a.cells.now; nulls = a.nulls.now; widths = a.widths.now; places = a.places.now; order = a.order.now; counts = a.counts.now; held = a.held.now; queued = a.queued.now }) c.requires a.flags.now refl a.bytes.now o.result.movers o.result.node o.ensures.0 (omega (arith, c.if-o-eq0.false)) o.ensures.1 in
    omega arith

pub bounds-slots-j : goal.bounds-slots-j
bounds-slots-j c = let a = c.args in
    let o = c.next_operator-o in
    let h = asks_seat a.m.now a.u a.slots.now a.nodes.now a.n a.gone a.waiter a.b (length a.flags.now) (record { cells = a.cells.now; nulls = a.nulls.now; widths = a.widths.now; places = a.places.now; order = a.order.now; counts = a.counts.now; held = a.held.now; queued = a.queued.now }) c.requires a.flags.now refl a.bytes.now o.result.movers o.result.node o.ensures.0 (omega (arith, c.if-o-eq0.false)) o.ensures.1 in
    omega arith

pub offset_bounds-nodes-j : goal.offset_bounds-nodes-j
offset_bounds-nodes-j c = let a = c.args in
    let o = c.next_operator-o in
    let h = asks_seat a.m.now a.u a.slots.now a.nodes.now a.n a.gone a.waiter a.b (length a.flags.now) (record { cells = a.cells.now; nulls = a.nulls.now; widths = a.widths.now; places = a.places.now; order = a.order.now; counts = a.counts.now; held = a.held.now; queued = a.queued.now }) c.requires a.flags.now refl a.bytes.now o.result.movers o.result.node o.ensures.0 (omega (arith, c.if-o-eq0.false)) o.ensures.1 in
    omega arith

pub bounds-nodes-j : goal.bounds-nodes-j
bounds-nodes-j c = let a = c.args in
    let o = c.next_operator-o in
    let h = asks_seat a.m.now a.u a.slots.now a.nodes.now a.n a.gone a.waiter a.b (length a.flags.now) (record { cells = a.cells.now; nulls = a.nulls.now; widths = a.widths.now; places = a.places.now; order = a.order.now; counts = a.counts.now; held = a.held.now; queued = a.queued.now }) c.requires a.flags.now refl a.bytes.now o.result.movers o.result.node o.ensures.0 (omega (arith, c.if-o-eq0.false)) o.ensures.1 in
    omega arith

pub pick_row-t-requires : goal.pick_row-t-requires
pick_row-t-requires c = let a = c.args in
    let o = c.next_operator-o in
    let k = asks_pick a.m.now a.u a.slots.now a.nodes.now a.n a.gone a.waiter a.b (length a.flags.now) (record { cells = a.cells.now; nulls = a.nulls.now; widths = a.widths.now; places = a.places.now; order = a.order.now; counts = a.counts.now; held = a.held.now; queued = a.queued.now }) c.requires a.flags.now refl a.bytes.now o.result.movers o.result.node o.ensures.0 (omega (arith, c.if-o-eq0.false)) o.ensures.1 o.result.next o.ensures.2 in
    record { arena = k.0; known = k.1.0; n_in_bounds = k.1.1 }

pub output_stream-c-requires : goal.output_stream-c-requires
output_stream-c-requires c = let a = c.args in
    let o = c.next_operator-o in
    asks_output a.m.now a.u a.slots.now a.nodes.now a.n a.gone a.waiter a.b (length a.flags.now) (record { cells = a.cells.now; nulls = a.nulls.now; widths = a.widths.now; places = a.places.now; order = a.order.now; counts = a.counts.now; held = a.held.now; queued = a.queued.now }) c.requires a.flags.now refl a.bytes.now o.result.movers o.result.node o.ensures.0 (omega (arith, c.if-o-eq0.false)) o.ensures.1 o.result.next o.ensures.2 c.pick_row-t.result.stream c.pick_row-t.result.at c.pick_row-t.result.next (picks_there a.m.now a.u a.slots.now a.nodes.now a.n a.gone a.waiter a.b (length a.flags.now) (record { cells = a.cells.now; nulls = a.nulls.now; widths = a.widths.now; places = a.places.now; order = a.order.now; counts = a.counts.now; held = a.held.now; queued = a.queued.now }) c.requires a.flags.now refl a.bytes.now o.result.movers o.result.node o.ensures.0 (omega (arith, c.if-o-eq0.false)) o.ensures.1 o.result.next o.ensures.2 c.pick_row-t.result.stream c.pick_row-t.result.at c.pick_row-t.result.next c.pick_row-t.ensures)

pub overflow_add-s : goal.overflow_add-s
overflow_add-s c = let a = c.args in
    let o = c.next_operator-o in
    let x = asks_place a.m.now a.u a.slots.now a.nodes.now a.n a.gone a.waiter a.b (length a.flags.now) (record { cells = a.cells.now; nulls = a.nulls.now; widths = a.widths.now; places = a.places.now; order = a.order.now; counts = a.counts.now; held = a.held.now; queued = a.queued.now }) c.requires a.flags.now refl a.bytes.now o.result.movers o.result.node o.ensures.0 (omega (arith, c.if-o-eq0.false)) o.ensures.1 o.result.next o.ensures.2 c.pick_row-t.result.stream c.pick_row-t.result.at c.pick_row-t.result.next (picks_there a.m.now a.u a.slots.now a.nodes.now a.n a.gone a.waiter a.b (length a.flags.now) (record { cells = a.cells.now; nulls = a.nulls.now; widths = a.widths.now; places = a.places.now; order = a.order.now; counts = a.counts.now; held = a.held.now; queued = a.queued.now }) c.requires a.flags.now refl a.bytes.now o.result.movers o.result.node o.ensures.0 (omega (arith, c.if-o-eq0.false)) o.ensures.1 o.result.next o.ensures.2 c.pick_row-t.result.stream c.pick_row-t.result.at c.pick_row-t.result.next c.pick_row-t.ensures) c.output_stream-c.result.value c.output_stream-c.result.next c.output_stream-c.ensures in
    let y = c.requires.seated.few in
    omega (arith, x, y)

pub carry-kept-requires : goal.carry-kept-requires
carry-kept-requires c = let a = c.args in
    let o = c.next_operator-o in
    let k = asks_pick a.m.now a.u a.slots.now a.nodes.now a.n a.gone a.waiter a.b (length a.flags.now) (record { cells = a.cells.now; nulls = a.nulls.now; widths = a.widths.now; places = a.places.now; order = a.order.now; counts = a.counts.now; held = a.held.now; queued = a.queued.now }) c.requires a.flags.now refl a.bytes.now o.result.movers o.result.node o.ensures.0 (omega (arith, c.if-o-eq0.false)) o.ensures.1 o.result.next o.ensures.2 in
    record { arena = (k.0.0, k.0.1); carries = asks_carry a.m.now a.u a.slots.now a.nodes.now a.n a.gone a.waiter a.b (length a.flags.now) (record { cells = a.cells.now; nulls = a.nulls.now; widths = a.widths.now; places = a.places.now; order = a.order.now; counts = a.counts.now; held = a.held.now; queued = a.queued.now }) c.requires a.flags.now refl a.bytes.now o.result.movers o.result.node o.ensures.0 (omega (arith, c.if-o-eq0.false)) o.ensures.1 o.result.next o.ensures.2 c.pick_row-t.result.stream c.pick_row-t.result.at c.pick_row-t.result.next (picks_there a.m.now a.u a.slots.now a.nodes.now a.n a.gone a.waiter a.b (length a.flags.now) (record { cells = a.cells.now; nulls = a.nulls.now; widths = a.widths.now; places = a.places.now; order = a.order.now; counts = a.counts.now; held = a.held.now; queued = a.queued.now }) c.requires a.flags.now refl a.bytes.now o.result.movers o.result.node o.ensures.0 (omega (arith, c.if-o-eq0.false)) o.ensures.1 o.result.next o.ensures.2 c.pick_row-t.result.stream c.pick_row-t.result.at c.pick_row-t.result.next c.pick_row-t.ensures) c.output_stream-c.result.value c.output_stream-c.result.next c.output_stream-c.ensures _ refl }

pub requeue-requires : goal.requeue-requires
requeue-requires c = let a = c.args in
    let o = c.next_operator-o in
    asks_requeue a.m.now a.u a.slots.now a.nodes.now a.n a.gone a.waiter a.b (length a.flags.now) (record { cells = a.cells.now; nulls = a.nulls.now; widths = a.widths.now; places = a.places.now; order = a.order.now; counts = a.counts.now; held = a.held.now; queued = a.queued.now }) c.requires a.flags.now refl a.bytes.now o.result.movers o.result.node o.ensures.0 (omega (arith, c.if-o-eq0.false)) o.ensures.1 o.result.next o.ensures.2

pub shape_of-flags : goal.shape_of-flags
shape_of-flags c = c.next_operator-o.ensures.3

pub returns : goal.returns
returns c = let a = c.args in
    let o = c.next_operator-o in
    λ f done st S R e p d.
    let Y : Ready a.m.now a.u a.slots.now a.nodes.now a.n a.gone a.waiter a.b (length a.flags.now) (record { cells = a.cells.now; nulls = a.nulls.now; widths = a.widths.now; places = a.places.now; order = a.order.now; counts = a.counts.now; held = a.held.now; queued = a.queued.now }) = record { plan = f; done = done; state = st; seated = S; running = R; nodes_are = e; past = p; few_steps = d; few_bytes = c.requires.few_bytes; waits_are = c.requires.waits_are } in
    steps a.m.now a.u a.slots.now a.nodes.now a.n a.gone a.waiter a.b (length a.flags.now) (record { cells = a.cells.now; nulls = a.nulls.now; widths = a.widths.now; places = a.places.now; order = a.order.now; counts = a.counts.now; held = a.held.now; queued = a.queued.now }) Y a.flags.now refl a.bytes.now o.result.movers o.result.node o.ensures.0 (omega (arith, c.if-o-eq0.false)) o.ensures.1 o.result.next o.ensures.2 c.pick_row-t.result.stream c.pick_row-t.result.at c.pick_row-t.result.next (picks_there a.m.now a.u a.slots.now a.nodes.now a.n a.gone a.waiter a.b (length a.flags.now) (record { cells = a.cells.now; nulls = a.nulls.now; widths = a.widths.now; places = a.places.now; order = a.order.now; counts = a.counts.now; held = a.held.now; queued = a.queued.now }) Y a.flags.now refl a.bytes.now o.result.movers o.result.node o.ensures.0 (omega (arith, c.if-o-eq0.false)) o.ensures.1 o.result.next o.ensures.2 c.pick_row-t.result.stream c.pick_row-t.result.at c.pick_row-t.result.next c.pick_row-t.ensures) c.output_stream-c.result.value c.output_stream-c.result.next c.output_stream-c.ensures _ c.carry-kept.result _ refl c.carry-kept.ensures c.requeue.ensures
