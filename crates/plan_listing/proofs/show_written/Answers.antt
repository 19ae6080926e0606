use native.Mathlib.Omega.{arith}
use mathlib.Core.Path.{sym}
use Prim.Native.Nat.{◌*◌}
use lib.Seq.{length-take-le}
use Rattle.plan_listing.proofs.show_written.Goals as goal

pub slice_bounds-show-end : goal.slice_bounds-show-end
slice_bounds-show-end c = sym (length-take-le (512 * c.get16.result)
    c.args.out.now (omega (arith, c.if-out-e.false)))

pub show-requires : goal.show-requires
show-requires c = let t = length-take-le (512 * c.get16.result)
    c.args.out.now (omega (arith, c.if-out-e.false)) in
    omega (arith, c.if-e-le-MOST.true)
