use native.Mathlib.Omega.{arith}
use mathlib.Core.Path.{◌≡◌}
use mathlib.Core.Bool.{true}
use Prim.Native.Nat.{ℕ, ◌+◌, ◌<◌}
use Rattle.step_tables.specs.Found.{first_in}
use lib.ListN.{length, get_or}
use borrow.Author.Tests.{not-true, not-false}
use Rattle.step_tables.specs.Choosing.{waits_at}
use Rattle.step_tables.specs.Rows.{inside}
use Rattle.step_rows.specs.Heads.{waits_there, head_there, turn_empty, turn_first, turn_better, turn_worse}
use Rattle.std.proofs.Common.{ap}
use Rattle.std.specs.Prelude.{not}
use Rattle.step_rows.proofs.turn_back.Goals as goal
use Rattle.step_rows.proofs.turn_back.Goals.{Start}

-- at the place asked, where held is not zero
there : (c : Start) → (get_or c.args.held.now (c.args.g + c.args.i) 0 ≡ 0 → ⊥) →
    waits_at c.args.places.now c.args.order.now (c.args.g + c.args.i) ≡ true
there c h = let a = c.args in waits_there a.held.now a.places.now a.order.now (a.g + a.i) c.requires.tells.0 h

head : (c : Start) (k : ℕ) → (get_or c.args.held.now (c.args.g + c.args.i) 0 ≡ 0 → ⊥) →
    k ≡ first_in c.args.places.now (c.args.g + c.args.i) 1 c.args.order.now → k < length c.args.order.now
head c k h = let a = c.args in head_there a.places.now a.order.now (a.g + a.i) k (there c h)

pub returns-then-held-g-eq0 : goal.returns-then-held-g-eq0
returns-then-held-g-eq0 c = turn_empty c.args.held.now c.requires.tells.0 c.if-held-g-eq0.true

pub offset_bounds-order-a : goal.offset_bounds-order-a
offset_bounds-order-a c = let h = head (goal.at.offset_bounds-order-a c).Start _ c.if-held-g-eq0.false c.earliest-a.ensures in omega arith

pub bounds-order-a : goal.bounds-order-a
bounds-order-a c = head (goal.at.bounds-order-a c).Start _ c.if-held-g-eq0.false c.earliest-a.ensures

pub row_le-requires : goal.row_le-requires
row_le-requires c = let a = c.args in let p = c.requires.known in
    let e = c.earliest-a in
    let x = inside (get_or a.order.now e.result 0) p.1 (p.0 e.result (head (goal.at.row_le-requires c).Start e.result c.if-held-g-eq0.false e.ensures)) in
    let y = inside (get_or a.order.now a.best.at 0) p.1 (p.0 a.best.at (omega arith)) in
    (x, y)

pub returns-then-not-row_le : goal.returns-then-not-row_le
returns-then-not-row_le c = turn_worse (there (goal.at.returns-then-not-row_le c).Start c.if-held-g-eq0.false) c.earliest-a.ensures (omega arith) c.row_le.ensures c.if-not-row_le.true

pub returns-else-not-row_le : goal.returns-else-not-row_le
returns-else-not-row_le c = turn_better (there (goal.at.returns-else-not-row_le c).Start c.if-held-g-eq0.false) c.earliest-a.ensures (omega arith) c.row_le.ensures c.if-not-row_le.false

pub returns-else-at-order : goal.returns-else-at-order
returns-else-at-order c = turn_first (there (goal.at.returns-else-at-order c).Start c.if-held-g-eq0.false) c.earliest-a.ensures (omega arith)
