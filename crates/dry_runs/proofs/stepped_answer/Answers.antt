use native.Mathlib.Omega.{arith}
use Rattle.dry_runs.specs.Stepped.{settled_few, stands}
use Rattle.dry_runs.proofs.stepped_answer.Goals as goal

pub lay_out-l-requires : goal.lay_out-l-requires
lay_out-l-requires c = let a = c.args in let p = c.requires in (c.settle_all.ensures.0, p.1.here, settled_few a.plan.now a.n a.rows.now a.k a.m.now a.u a.h p.0 p.1 c.settle_all.new.m c.settle_all.ensures.0 c.settle_all.ensures.1, omega arith, omega arith)

pub with_places-requires : goal.with_places-requires
with_places-requires c = let a = c.args in let p = c.requires in let x = stands a.plan.now a.n a.rows.now a.k a.m.now a.u a.h p.0 p.1 c.settle_all.new.m c.settle_all.ensures.0 c.settle_all.ensures.1 c.lay_out-l.new.table c.lay_out-l.new.slots c.lay_out-l.result c.lay_out-l.ensures in (p.0, x.0, x.1)
