use mathlib.Core.Path.{subst}
use mathlib.Core.List.{List}
use Rattle.row_order.specs.Iso.{Key}
use Rattle.semantics.specs.Facts as sem
use Rattle.key_lists.specs.Keys.{Keyed}
use Rattle.join_orders.proofs.join_order.Goals as goal

pub returns-in-Left : goal.returns-in-Left
returns-in-Left c F G e f g = rw c.in-Left.is
    (rw (e) (subst (λ (l : List Key). Keyed (sem.left_order c.args.t c.args.w l) c.left_order.result) f
    (c.left_order.ensures c.args.w c.requires.lefts)))

pub returns-in-Right : goal.returns-in-Right
returns-in-Right c F G e f g = rw c.in-Right.is
    (rw (e) (subst (λ (l : List Key). Keyed (sem.right_order c.args.t c.args.w l) c.right_order.result) g c.right_order.ensures))

pub returns-in-Neither : goal.returns-in-Neither
returns-in-Neither c F G e f g = rw c.in-Neither.is c.no_keys.ensures.0
