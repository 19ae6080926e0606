use Rattle.std.specs.Prelude.{◌≡◌, ◌&&◌, drop}
use Rattle.scan.specs.Bytes.{zeros}
use Rattle.scan.proofs.all_zero.Given as goal

abbrev pub invariant-loop-x : goal.invariant-loop-x
invariant-loop-x l = l.all && zeros (drop l.x-index l.s) ≡ zeros l.s
