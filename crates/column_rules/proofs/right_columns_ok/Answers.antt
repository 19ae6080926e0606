use mathlib.Core.Path.{ap, ◌∙◌}
use mathlib.Core.List.{List}
use Prim.Native.Nat.{ℕ}
use lib.ListN.{get_or}
use Rattle.scan.specs.ByteLaws.{cut}
use Rattle.plan_format.specs.LastPass.{columns_ok}
use Rattle.column_rules.proofs.right_columns_ok.Goals as goal

pub returns-then-f : goal.returns-then-f
returns-then-f c = let r = c.args.r.now in
    rw c.if-f.true (c.list_ok.ensures ∙ ap (λ (l : List ℕ). columns_ok l c.args.limit) (cut r 32 (get_or r 12 0)))

pub returns : goal.returns
returns c = rw c.if-f.false
