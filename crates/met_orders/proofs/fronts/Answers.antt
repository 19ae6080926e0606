use borrow.Author.Rules.{rules}
use native.Mathlib.Omega.{arith}
use mathlib.Core.Path.{ap, sym, ◌∙◌}
use borrow.Author.Tests.{not-true}
use lib.ListN.{length}
use Prim.Native.Nat.{◌<◌, ◌^◌}
use Rattle.std.specs.Prelude.{not}
use Rattle.semantics.specs.Facts.{cl}
use Rattle.key_lists.specs.Keys.{keys_left, keys_of}
use Rattle.key_lists.specs.Lists.{length_keys}
use Rattle.asked_facts.specs.Asked.{told}
use Rattle.asked_facts.specs.Answers.{constants_are}
use Rattle.met_orders.specs.Meeting.{front-none, front_skip, front_short, front_differ, front_more, front-end}
use Rattle.met_orders.proofs.fronts.Goals as goal
use Rattle.met_orders.proofs.fronts.Goals.{Start, then-not-has+in-Some-next+else-not-same_key, else-not-has}

small : (c : Start) → c.args.k.len < 2 ^ 64
small c = search rules

pub loop-key-init : goal.loop-key-init
loop-key-init c = let i = c.into_iter-key-iterator in
    front-none (told c.args.b.now) (keys_of c.args.order) (keys_of c.args.k) c.get32-seen.result (keys_left c.iter-known.result) (keys_left i.result)
    c.iter-known.ensures (ap keys_left i.ensures.into_iter_gives ∙ c.iter-key-items.ensures)
    (constants_are c.args.b.now c.get32-seen.result c.requires c.get32-seen.ensures)

pub lowest_equal-c-requires : goal.lowest_equal-c-requires
lowest_equal-c-requires c = (c.requires, rw c.column.ensures (omega arith))

pub with_column-requires : goal.with_column-requires
with_column-requires c = c.lowest_equal-c.ensures.1

pub with-seen-requires : goal.with-seen-requires
with-seen-requires c = c.lowest_equal-c.ensures.1

pub returns-in_default : goal.returns-in_default
returns-in_default c = front_short c.loop-key.invariant c.in-Some.key (keys_left c.next.new.self) c.in-Some.ensures.steps c.lowest_equal-c.result
    (c.lowest_equal-c.ensures.0 ∙ ap (cl (told c.args.b.now)) c.column.ensures) (sym c.has.ensures ∙ not-true _ (ap not c.if-not-has.true))
    c.in_default.ensures.steps.0

pub returns-then-not-same_key : goal.returns-then-not-same_key
returns-then-not-same_key c = front_differ c.loop-key.invariant c.in-Some.key (keys_left c.next.new.self) c.in-Some.ensures.steps c.lowest_equal-c.result
    (c.lowest_equal-c.ensures.0 ∙ ap (cl (told c.args.b.now)) c.column.ensures) (sym c.has.ensures ∙ not-true _ (ap not c.if-not-has.true))
    c.in-Some-next.front (keys_left c.next-then-not-has.new.self) c.in-Some-next.ensures.steps c.with_column.result c.with_column.ensures
    c.same_key.result c.same_key.ensures (not-true _ (ap not c.if-not-same_key.true))

pub overflow_add-i : goal.overflow_add-i
overflow_add-i c = let z = small (goal.at.overflow_add-i c).Start in let k = c.args.k in
    record { fits = omega (arith, c.loop-key.invariant.far, length_keys k.len k.word, ap length c.in-Some.ensures.steps) }

pub loop-key-preserved : goal.loop-key-preserved
loop-key-preserved c = let b = c.loop-key.invariant in let m = keys_left c.next.new.self in let d = c.in-Some.ensures.steps in
    let e = c.lowest_equal-c.ensures.0 ∙ ap (cl (told c.args.b.now)) c.column.ensures in
    elim c.if-not-has.branch [
      | then-not-has+in-Some-next+else-not-same_key w ↦ rw (w.seen-is, w.known-is) (front_more b c.in-Some.key m d c.lowest_equal-c.result e
          (sym c.has.ensures ∙ w.if-not-has.true) w.in-Some-next.front (keys_left w.next-then-not-has.new.self) w.in-Some-next.ensures.steps
          w.with_column.result w.with_column.ensures w.same_key.result w.same_key.ensures w.if-not-same_key.false w.with-seen.result w.with-seen.ensures)
      | else-not-has w ↦ rw (w.seen-is, w.known-is) (front_skip b c.in-Some.key m d c.lowest_equal-c.result e (sym c.has.ensures ∙ w.if-not-has.false))
    ]

pub returns : goal.returns
returns c = front-end c.loop-key.invariant c.in-None.ensures.steps.0
