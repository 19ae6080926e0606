use native.Mathlib.Omega.{arith}
use mathlib.Core.Path.{refl, sym}
use lib.ListN.{get_or-eq_default}
use Rattle.moved_requirements.proofs.column_at.Goals as goal

pub returns-then-c-cols : goal.returns-then-c-cols
returns-then-c-cols c = (refl, c.requires c.args.c)

pub returns : goal.returns
returns c = (sym (get_or-eq_default c.args.cols.now 0 {n = c.args.c} (omega arith)), omega arith)
