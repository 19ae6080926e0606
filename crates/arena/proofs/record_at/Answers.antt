use Prim.Native.Nat.{◌*◌}
use Rattle.scan.specs.ByteLaws.{cut}
use Rattle.arena.specs.Arena.{slot}
use Rattle.arena.proofs.record_at.Goals as goal

pub returns : goal.returns
unfolding slot
returns c = cut c.args.m.now (c.args.i * 192) 64
