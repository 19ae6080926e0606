use native.Mathlib.Omega.{arith}
use mathlib.Core.Bool.{◌||◌}
use Prim.Native.Nat.{◌/◌}
use lib.Dec.{leb}
use lib.ListN.{length}
use Rattle.arena.specs.Arena.{slot_size}
use Rattle.step_ends.specs.Tidying.{full_slots, as_is, Fits, full_fits, small_fits, out_asks, back_asks, back}
use Rattle.step_ends.proofs.tidied.Goals as goal
use Rattle.step_ends.proofs.tidied.Goals.{Joined-s-le-TIDY_FROM, then-s-le-TIDY_FROM+else-s-slots, else-s-le-TIDY_FROM}

-- where the tree is copied there is room for it
fits : (c : Joined-s-le-TIDY_FROM) → Fits c.args.m.now c.args.v c.args.s c.args.k c.args.c.now c.requires
fits c = elim c.if-s-le-TIDY_FROM.branch [
  | then-s-le-TIDY_FROM+else-s-slots w ↦ small_fits c.args.m.now c.args.v c.args.s c.args.k c.args.c.now c.requires
      (leb c.args.s.used (length c.args.m.now / slot_size / 3) || leb full_slots (length c.args.m.now / slot_size)) w.if-s-slots.false
  | else-s-le-TIDY_FROM w ↦ full_fits c.args.m.now c.args.v c.args.s c.args.k c.args.c.now c.requires (let h = w.if-s-le-TIDY_FROM.false in omega arith)
]

pub returns-then-s-slots : goal.returns-then-s-slots
returns-then-s-slots c = as_is c.args.m.now c.args.v c.args.s c.args.k c.args.c.now c.requires c.if-s-le-TIDY_FROM.true

pub copy-x-requires : goal.copy-x-requires
copy-x-requires c = out_asks c.args.m.now c.args.v c.args.s c.args.k c.args.c.now c.requires (fits (goal.at.copy-x-requires c).Joined-s-le-TIDY_FROM)

pub copy-requires : goal.copy-requires
copy-requires c = back_asks c.args.m.now c.args.v c.args.s c.args.k c.args.c.now c.requires (fits (goal.at.copy-requires c).Joined-s-le-TIDY_FROM) _ _ c.copy-x.ensures

pub returns : goal.returns
returns c = back c.args.m.now c.args.v c.args.s c.args.k c.args.c.now c.requires (fits (goal.at.returns c).Joined-s-le-TIDY_FROM) _ _ c.copy-x.ensures _ _ c.copy.ensures
