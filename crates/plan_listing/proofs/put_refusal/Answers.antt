use native.Mathlib.Omega.{arith}
use mathlib.Core.Path.{sym}
use lib.Seq.{length-take-le}
use Rattle.plan_listing.proofs.put_refusal.Goals as goal

pub slice_bounds-write_all-end : goal.slice_bounds-write_all-end
slice_bounds-write_all-end c = let k = c.refuse-e.auto.out in let p = c.refuse-e.ensures in let f = p.few in let e = p.ends in
    sym (length-take-le c.refuse-e.result c.refuse-e.new.out (omega arith))
