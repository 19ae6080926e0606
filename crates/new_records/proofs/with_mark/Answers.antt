use native.Mathlib.Omega.{arith}
use Rattle.new_records.specs.Records.{marked, unmarked}
use mathlib.Core.Path.{◌∙◌}
use mathlib.Core.List.{append-nil}
use Rattle.new_records.proofs.with_mark.Goals as goal

pub overflow_mul-out : goal.overflow_mul-out
overflow_mul-out c = omega (arith, c.type_inv.r 3)

pub overflow_add-out : goal.overflow_add-out
overflow_add-out c = omega (arith, c.type_inv.r 3, c.mark_byte.ensures.1)

pub returns-then-r-eq5 : goal.returns-then-r-eq5
returns-then-r-eq5 c n e = let s = c.args in
    marked s.r.now _ s.preserve (append-nil c.copy.new.d
    ∙ c.copy.ensures) n e c.mark_byte.result c.mark_byte.ensures.0 c.if-r-eq5.true

pub returns-else-r-eq5 : goal.returns-else-r-eq5
returns-else-r-eq5 c n e = let s = c.args in
    unmarked s.r.now _ s.preserve (append-nil c.copy.new.d ∙ c.copy.ensures) n e
    c.if-r-eq5.false
