use native.Mathlib.Omega.{arith}
use mathlib.Core.Path.{sym}
use lib.Seq.{length-take-le}
use Rattle.plan_listing.proofs.show.Goals as goal

pub slice_bounds-write_all-end : goal.slice_bounds-write_all-end
slice_bounds-write_all-end c = let k = c.show_in-e.auto.out in let p = c.show_in-e.ensures in let f = p.few in let e = p.ends in
    sym (length-take-le c.show_in-e.result c.show_in-e.new.out (omega arith))
