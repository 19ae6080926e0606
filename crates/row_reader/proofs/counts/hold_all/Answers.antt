use native.Mathlib.Omega.{arith}
use Prim.Native.Nat.{◌<◌}
use mathlib.Core.Path.{refl}
use lib.ListN.{length, get_or, length-set}
use Rattle.row_reader.specs.Counts.{held_start, held_more, held_small, held_all}
use Rattle.row_reader.proofs.counts.hold_all.Goals as goal
use Rattle.row_reader.proofs.counts.hold_all.Goals.{In-loop-g}

place_in : (c : In-loop-g) → get_or c.args.places.now c.loop-g.g-index 0 < length c.loop-g.held
place_in c = omega (arith, c.requires.1 c.loop-g.g-index c.loop-g-test.true, c.loop-g.invariant.0)

pub loop-g-init : goal.loop-g-init
loop-g-init c = (refl, held_start c.args.held.now c.args.places.now c.requires.2)

pub offset_bounds-held-g : goal.offset_bounds-held-g
offset_bounds-held-g c = omega (arith, place_in (goal.at.offset_bounds-held-g c).In-loop-g)

pub bounds-held-g : goal.bounds-held-g
bounds-held-g c = place_in (goal.at.bounds-held-g c).In-loop-g

pub overflow_add-held : goal.overflow_add-held
overflow_add-held c = let l = c.loop-g in let p = c.args.places.now in
    omega (arith, held_small l.held p l.g-index (get_or p l.g-index 0) (omega arith) l.invariant.1)

pub offset_bounds-held-g-in-loop-g : goal.offset_bounds-held-g-in-loop-g
offset_bounds-held-g-in-loop-g c = omega (arith, place_in (goal.at.offset_bounds-held-g-in-loop-g c).In-loop-g)

pub bounds-held-g-in-loop-g : goal.bounds-held-g-in-loop-g
bounds-held-g-in-loop-g c = place_in (goal.at.bounds-held-g-in-loop-g c).In-loop-g

pub loop-g-preserved : goal.loop-g-preserved
loop-g-preserved c = let l = c.loop-g in (
  simp length-set l.invariant.0,
  held_more l.held c.args.places.now l.g-index (omega arith)
      (place_in (goal.at.loop-g-preserved c).In-loop-g) l.invariant.1,
)

pub shape_of-held : goal.shape_of-held
shape_of-held c = c.loop-g.invariant.0

pub returns : goal.returns
returns c = let l = c.loop-g in held_all l.held c.args.places.now l.g-index (omega arith) l.invariant.1
