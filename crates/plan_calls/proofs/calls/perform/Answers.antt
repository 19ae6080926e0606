use native.Mathlib.Omega.{arith}
use Rattle.call_parts.specs.Calls.{short_of}
use Rattle.plan_calls.proofs.calls.perform.Goals as goal

pub sort_partially-requires : goal.sort_partially-requires
sort_partially-requires c = let p = c.requires in let n = p.count in let f = p.few in (record { loaded = p.loaded; here = p.here; plan = p.plan; size = omega arith }, p.few)

pub returns-in-CheckOrder : goal.returns-in-CheckOrder
returns-in-CheckOrder c = rw c.in-CheckOrder.is (c.check_in.ensures c.args.out.now (short_of c.args.m.now))

pub returns-in-CopyPlan : goal.returns-in-CopyPlan
returns-in-CopyPlan c = rw c.in-CopyPlan.is (c.write_out.ensures (short_of c.args.m.now))

pub returns-in-TransformUp : goal.returns-in-TransformUp
returns-in-TransformUp c = rw c.in-TransformUp.is c.walk_in.ensures

pub returns-in-PartialSort : goal.returns-in-PartialSort
returns-in-PartialSort c = rw c.in-PartialSort.is c.sort_partially.ensures
