use Rattle.row_bytes.specs.Constants.{cells_null, cells_differ, cells_numbers}
use mathlib.Core.Path.{ap, ◌∙◌}
use Prim.Native.Nat.{ℕ}
use Rattle.row_order.specs.Packed.{bit}
use Rattle.row_bytes.proofs.same_cell.Goals as goal

pub returns-then-p : goal.returns-then-p
returns-then-p c = let s = c.args in cells_null s.s.now s.a s.b s.c _ _ (c.has-p.ensures ∙ ap (λ (n : ℕ). bit n s.c) c.get32.ensures) (c.has-q.ensures ∙ ap (λ (n : ℕ). bit n s.c) c.get32-2.ensures) c.if-p.true

pub returns-then-q : goal.returns-then-q
returns-then-q c = let s = c.args in cells_differ s.s.now s.a s.b s.c _ _ (c.has-p.ensures ∙ ap (λ (n : ℕ). bit n s.c) c.get32.ensures) (c.has-q.ensures ∙ ap (λ (n : ℕ). bit n s.c) c.get32-2.ensures) c.if-p.false c.if-q.true

pub returns : goal.returns
returns c = let s = c.args in cells_numbers s.s.now s.a s.b s.c _ _ _ _ (c.has-p.ensures ∙ ap (λ (n : ℕ). bit n s.c) c.get32.ensures) (c.has-q.ensures ∙ ap (λ (n : ℕ). bit n s.c) c.get32-2.ensures) c.if-p.false c.if-q.false c.get64-x.type_inv c.get64-y.type_inv c.get64-x.ensures c.get64-y.ensures
