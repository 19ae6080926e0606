use native.Mathlib.Omega.{arith}
use mathlib.Core.Path.{sym, ap, ◌∙◌}
use Prim.Native.Nat.{ℕ, ◌+◌}
use lib.ListN.{get_or}
use Rattle.scan.specs.Parts.{at_part}
use Rattle.source_rows.proofs.byte_of.Goals as goal

pub overflow_cast-result : goal.overflow_cast-result
overflow_cast-result c = omega (arith, c.type_inv.plan (c.record_start-at.result + c.args.i))

pub returns : goal.returns
returns c = let a = c.args in ap (λ (k : ℕ). get_or a.plan.now (k + a.i) 0) c.record_start-at.ensures ∙ sym (at_part a.plan.now _ 64 a.i (omega arith))
