use Rattle.std.specs.Prelude.{◌≡◌, ◌≤◌, ◌+◌, ◌*◌, drop}
use Rattle.scan.specs.Bytes.{total}
use Rattle.scan.proofs.sum16.Given as goal

abbrev pub invariant-loop-x : goal.invariant-loop-x
invariant-loop-x l = (l.a ≤ 255 * l.x-index) × (l.a + total (drop l.x-index l.s) ≡ total l.s)
