use Rattle.class_tables.specs.Filling.{alone_filled}
use Rattle.class_tables.proofs.alone.Goals as goal

pub returns : goal.returns
returns c = alone_filled
