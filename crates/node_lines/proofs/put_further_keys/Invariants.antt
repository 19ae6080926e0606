use mathlib.Core.Path.{◌≡◌}
use Prim.Native.Nat.{◌*◌, ◌-◌, ◌≤◌}
use lib.ListN.{length}
use Rattle.node_lines.specs.Lines.{Put}
use Rattle.node_lines.specs.Laws.{behind}
use Rattle.node_lines.proofs.put_further_keys.Given as goal

abbrev pub invariant-loop-i : goal.invariant-loop-i
invariant-loop-i l = (1 ≤ l.i) × (length l.out ≡ length l.initial.out) × Put (23 * (l.i - 1)) (behind l.ks l.i) l.at l.initial.out l.e l.out
