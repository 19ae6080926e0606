use Rattle.dry_runs.specs.Loading.{read_asks, hold_asks, queue_asks, begins}
use mathlib.Core.Path.{refl}
use Rattle.dry_runs.proofs.load.Goals as goal

pub read_rows-requires : goal.read_rows-requires
read_rows-requires c = let a = c.args in let p = c.requires in read_asks a.plan.now a.n a.rows.now a.nodes.now a.gone a.cells.now a.nulls.now a.widths.now a.places.now a.order.now a.held.now a.queued.now p.0 p.1 p.2 p.3 p.4

pub hold_all-requires : goal.hold_all-requires
hold_all-requires c = let a = c.args in let p = c.requires in hold_asks a.plan.now a.n a.rows.now a.nodes.now a.gone a.cells.now a.nulls.now a.widths.now a.places.now a.order.now a.held.now a.queued.now p.0 p.1 p.2 p.3 p.4 c.read_rows.new.cells c.read_rows.new.nulls c.read_rows.new.widths c.read_rows.new.places c.read_rows.new.order c.read_rows.auto.places c.read_rows.auto.widths c.read_rows.ensures

pub queue_all-requires : goal.queue_all-requires
queue_all-requires c = let a = c.args in let p = c.requires in queue_asks a.plan.now a.n a.rows.now a.nodes.now a.gone a.cells.now a.nulls.now a.widths.now a.places.now a.order.now a.held.now a.queued.now p.0 p.1 p.2 p.3 p.4 c.read_rows.new.cells c.read_rows.new.nulls c.read_rows.new.widths c.read_rows.new.places c.read_rows.new.order c.read_rows.auto.places c.read_rows.auto.widths c.read_rows.ensures c.hold_all.new.held a.queued.now c.hold_all.auto.held refl c.hold_all.ensures

pub returns : goal.returns
returns c = let a = c.args in let p = c.requires in begins a.plan.now a.n a.rows.now a.nodes.now a.gone a.cells.now a.nulls.now a.widths.now a.places.now a.order.now a.held.now a.queued.now p.0 p.1 p.2 p.3 p.4 c.read_rows.new.cells c.read_rows.new.nulls c.read_rows.new.widths c.read_rows.new.places c.read_rows.new.order c.read_rows.auto.places c.read_rows.auto.widths c.read_rows.ensures c.hold_all.new.held c.queue_all.new.queued c.hold_all.auto.held c.queue_all.auto.queued c.hold_all.ensures c.queue_all.ensures
