use native.Mathlib.Omega.{arith}
use mathlib.Core.Path.{sym, ◌∙◌, subst}
use mathlib.Core.List.{List}
use Prim.Native.Nat.{◌-◌}
use borrow.Author.Tests.{not-true, not-false}
use Rattle.row_order.specs.Iso.{Key}
use Rattle.semantics.specs.Properties.{kept_side}
use Rattle.key_lists.specs.Keys.{keys_of, Ordered}
use Rattle.walks.proofs.Theorems.Push.ChildOrders.{every_le}
use Rattle.push_requirements.specs.Answers.{go_stop, go_on, right_only, and_no, and_so}
use Rattle.semantics.specs.Facts as sem
use Rattle.scan.specs.Below.{and_false}
use Rattle.std.proofs.Common.{ap}
use Rattle.std.specs.Prelude.{not}
use Rattle.push_requirements.proofs.joins.handle_hash_join.Goals as goal

pub returns-then-not-hash_keeps : goal.returns-then-not-hash_keeps
returns-then-not-hash_keeps c = λ m. go_stop m _ _
    (and_no (kept_side (sem.hash_kept c.args.t) 1) _ (sym c.hash_keeps.ensures ∙ not-true _ (ap not c.if-not-hash_keeps.true)))

pub overflow_sub-off : goal.overflow_sub-off
overflow_sub-off c = c.requires.2 (sym c.hash_keeps.ensures ∙ not-false _ (ap not c.if-not-hash_keeps.false))

pub returns-then-not-all_from : goal.returns-then-not-all_from
returns-then-not-all_from c = λ m. go_stop m _ _ (and_false (kept_side (sem.hash_kept c.args.t) 1) _
    (sym c.all_from.ensures ∙ not-true _ (ap not c.if-not-all_from.true)))

pub moved_back-requires : goal.moved_back-requires
moved_back-requires c = let w = c.requires.1 in (
  omega arith,
  every_le (c.args.width - c.args.right) (keys_of c.args.parent) (sym c.all_from.ensures ∙ not-false _ (ap not c.if-not-all_from.false)),
  c.requires.0,
)

pub returns : goal.returns
returns c = λ m.
    go_on m _ _ _ (and_so (kept_side (sem.hash_kept c.args.t) 1) _
    (sym c.hash_keeps.ensures ∙ not-false _ (ap not c.if-not-hash_keeps.false))
    ∙ (sym c.all_from.ensures ∙ not-false _ (ap not c.if-not-all_from.false)))
    (right_only m _ c.order_of-rest.result (subst (λ (l : List Key). Ordered l c.order_of-rest.result) c.moved_back.ensures.is
    c.order_of-rest.ensures))
