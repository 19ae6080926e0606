use Rattle.std.specs.Prelude.{◌≡◌, length, take}
use Rattle.byte_rows.proofs.read32.Given as goal

abbrev pub invariant-loop-i : goal.invariant-loop-i
invariant-loop-i l = (length l.out ≡ length l.s) × (take l.i l.out ≡ take l.i l.s)
