use Rattle.plan_format.specs.Writing.{four_bytes}
use Rattle.scan.specs.Parts.{sets_all}
use Rattle.plan_writer.proofs.put32.Goals as goal

pub returns : goal.returns
returns c = sets_all c.args.d.now (four_bytes c.args.x) c.requires
