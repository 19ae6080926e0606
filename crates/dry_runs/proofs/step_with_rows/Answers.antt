use Rattle.dry_runs.specs.Stepped.{taken_long, rows_lent}
use lib.ListN.{length}
use mathlib.Core.Path.{refl}
use Rattle.dry_runs.proofs.step_with_rows.Goals as goal

pub slice_bounds-step_in-end-3 : goal.slice_bounds-step_in-end-3
slice_bounds-step_in-end-3 c = taken_long c.args.k c.requires.0.few_rows

pub slice_bounds-step_in-end-4 : goal.slice_bounds-step_in-end-4
slice_bounds-step_in-end-4 c = taken_long c.args.k c.requires.0.few_rows

pub slice_bounds-step_in-end-5 : goal.slice_bounds-step_in-end-5
slice_bounds-step_in-end-5 c = taken_long c.args.k c.requires.0.few_rows

pub step_in-requires : goal.step_in-requires
step_in-requires c = let a = c.args in let p = c.requires in rows_lent a.plan.now a.n a.rows.now a.m.now a.u a.slots.now a.nodes.now a.gone a.k (length a.flags.now) a.counts.now a.held.now _ refl p.0 p.1 p.2
