use mathlib.Core.Path.{◌≡◌}
use mathlib.Core.Bool.{true}
use mathlib.Core.List.{map}
use Rattle.row_order.specs.Packed.{key_of}
use Rattle.scan.specs.Bytes.{all_below}
use Rattle.row_bytes.specs.Ordered.{pair_ok}
use Rattle.row_bytes.proofs.in_order.Given as goal

abbrev pub invariant-loop-i : goal.invariant-loop-i
invariant-loop-i l = all_below (pair_ok (map key_of l.keys) l.s l.at l.w) l.i ≡ true
