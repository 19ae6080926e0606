use Prim.Native.Nat.{ℕ}
use mathlib.Core.Path.{ap, ap₂, ◌∙◌}
use mathlib.Core.Bool.{◌&&◌}
use lib.Dec.{leb}
use lib.Count.{ones}
use Rattle.record_lists.proofs.TailLaws.{tail_keyed, tail_unkeyed}
use Rattle.record_lists.proofs.tails.output_requirement.Goals as goal

pub returns-then-d-eq2 : goal.returns-then-d-eq2
returns-then-d-eq2 c = ap₂ ◌&&◌ (ap (λ (x : ℕ). leb 1 (ones x) && leb (ones x) 8) c.get32-n.ensures) c.zero_from.ensures ∙ tail_keyed c.args.r.now
    c.if-d-eq2.true

pub returns : goal.returns
returns c = c.none.ensures ∙ tail_unkeyed c.args.r.now c.if-d-eq2.false
