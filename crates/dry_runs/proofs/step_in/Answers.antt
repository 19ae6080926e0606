use native.Mathlib.Omega.{arith}
use Rattle.dry_runs.specs.Loading.{root_inside, root_streams_lem, few_streams}
use Rattle.dry_runs.specs.Stepped.{begun, ended, delivers, last_is}
use mathlib.Core.Path.{◌∙◌}
use lib.ListN.{length}
use Rattle.plan_codec.specs.Reading.{plan_of}
use Rattle.dry_runs.proofs.step_in.Goals as goal

pub run-requires : goal.run-requires
run-requires c = let a = c.args in let p = c.requires in begun a.plan.now a.n a.rows.now a.m.now a.u a.slots.now a.nodes.now a.gone (length a.places.now) (length a.held.now) (length a.flags.now) a.counts.now p.0 p.1 p.4 p.3.past p.3.few c.load.new.cells c.load.new.nulls c.load.new.widths c.load.new.places c.load.new.order c.load.new.held c.load.new.queued c.load.ensures

pub bounds-nodes-0 : goal.bounds-nodes-0
bounds-nodes-0 c = let a = c.args in let p = c.requires in root_inside (plan_of a.plan.now) a.nodes.now p.0.well p.1.listed

pub deliver-requires : goal.deliver-requires
deliver-requires c = let a = c.args in let p = c.requires in let x = ended a.plan.now a.n a.rows.now a.m.now a.u a.slots.now a.nodes.now a.gone (length a.places.now) (length a.held.now) (length a.flags.now) a.counts.now p.0 p.1 p.4 p.3.past p.3.few c.load.new.cells c.load.new.nulls c.load.new.widths c.load.new.places c.load.new.order c.load.new.held c.load.new.queued c.load.ensures a.choices.now c.run.new.cells c.run.new.nulls c.run.new.widths c.run.new.places c.run.new.order c.run.new.counts c.run.new.held c.run.new.queued c.run.ensures in (x.known, x.room, omega (arith, c.run.auto.order, c.load.auto.order, p.2.order_long, p.0.few_rows), omega (arith, root_streams_lem (plan_of a.plan.now) a.nodes.now p.0.well p.1.listed, few_streams (plan_of a.plan.now) p.0.well))

pub shape_of-cells : goal.shape_of-cells
shape_of-cells c = c.run.auto.cells ∙ c.load.auto.cells

pub shape_of-nulls : goal.shape_of-nulls
shape_of-nulls c = c.run.auto.nulls ∙ c.load.auto.nulls

pub shape_of-widths : goal.shape_of-widths
shape_of-widths c = c.run.auto.widths ∙ c.load.auto.widths

pub shape_of-places : goal.shape_of-places
shape_of-places c = c.run.auto.places ∙ c.load.auto.places

pub shape_of-order : goal.shape_of-order
shape_of-order c = c.run.auto.order ∙ c.load.auto.order

pub shape_of-queued : goal.shape_of-queued
shape_of-queued c = c.run.auto.queued ∙ c.load.auto.queued

pub shape_of-held : goal.shape_of-held
shape_of-held c = c.run.auto.held ∙ c.load.auto.held

pub returns : goal.returns
returns c = let a = c.args in let p = c.requires in let x = ended a.plan.now a.n a.rows.now a.m.now a.u a.slots.now a.nodes.now a.gone (length a.places.now) (length a.held.now) (length a.flags.now) a.counts.now p.0 p.1 p.4 p.3.past p.3.few c.load.new.cells c.load.new.nulls c.load.new.widths c.load.new.places c.load.new.order c.load.new.held c.load.new.queued c.load.ensures a.choices.now c.run.new.cells c.run.new.nulls c.run.new.widths c.run.new.places c.run.new.order c.run.new.counts c.run.new.held c.run.new.queued c.run.ensures in last_is (plan_of a.plan.now) a.rows.now a.choices.now a.out.now c.deliver.new.out c.deliver.result _ (delivers (plan_of a.plan.now) a.rows.now a.nodes.now a.choices.now (length a.flags.now) 32256 c.run.new.cells c.run.new.nulls c.run.new.widths c.run.new.places c.run.new.order c.run.new.counts c.run.new.held c.run.new.queued p.0.well p.1.listed x) c.deliver.ensures
