use native.Mathlib.Omega.{arith}
use mathlib.Core.Path.{ap, ◌∙◌}
use mathlib.Core.List.{List, ◌++◌, append-nil}
use Prim.Native.Nat.{ℕ}
use lib.ListN.{take, length-set, drop_of_length-le}
use lib.Seq.{sets-eq}
use Rattle.plan_context.specs.View.{summary_from}
use Rattle.plan_context.specs.Storing.{summary_bytes}
use Rattle.plan_context.proofs.kept.store_summary.Goals as goal

pub bounds-b-108 : goal.bounds-b-108
bounds-b-108 c = let p = c.requires.0 in simp length-set (omega arith)

pub bounds-b-109 : goal.bounds-b-109
bounds-b-109 c = let p = c.requires.0 in simp length-set (omega arith)

pub bounds-b-110 : goal.bounds-b-110
bounds-b-110 c = let p = c.requires.0 in simp length-set (omega arith)

pub bounds-b-111 : goal.bounds-b-111
bounds-b-111 c = let p = c.requires.0 in simp length-set (omega arith)

pub shape_of-b : goal.shape_of-b
shape_of-b c = simp length-set

pub returns : goal.returns
returns c = let b = c.args.b.now in let p = c.requires.0 in
    sets-eq (summary_bytes c.args.s) b 104 (omega arith)
    ∙ ap (λ (x : List ℕ). (take summary_from b ++ summary_bytes c.args.s) ++ x) (drop_of_length-le b {i = 112} (omega arith))
    ∙ append-nil (take summary_from b ++ summary_bytes c.args.s)
