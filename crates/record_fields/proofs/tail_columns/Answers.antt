use native.Mathlib.Omega.{arith}
use mathlib.Core.Path.{◌∙◌}
use lib.ListN.{drop, length-drop}
use lib.Seq.{take_all}
use Rattle.record_fields.proofs.tail_columns.Goals as goal

pub returns : goal.returns
returns c = let r = c.args.r.now in let p = c.requires in
    c.read32.ensures ∙ take_all 32 (drop 32 r) (omega (arith, length-drop 32 r))
