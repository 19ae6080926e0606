use Prim.Native.Nat.{◌+◌, ◌*◌}
use Rattle.scan.specs.ByteLaws.{cut}
use Rattle.arena.specs.Arena.{slot_size, kept_from, kept_size}
use Rattle.arena.proofs.kept_at.Goals as goal

pub returns : goal.returns
returns c = cut c.args.m.now (c.args.i * slot_size + kept_from) kept_size
