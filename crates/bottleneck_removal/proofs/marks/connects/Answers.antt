use mathlib.Core.Path.{sym, ap, ◌∙◌}
use mathlib.Core.Bool.{not, ◌&&◌}
use borrow.Author.Tests.{not-true, not-false}
use Rattle.semantics.specs.Properties.{singles}
use Rattle.plan_codec.specs.Decode.{decode}
use Rattle.bottleneck_removal.proofs.marks.connects.Goals as goal

pub returns-then-not-is_marked : goal.returns-then-not-is_marked
returns-then-not-is_marked c = sym (ap (λ b. b && not (singles (decode c.args.r.now) c.args.j))
    (sym c.is_marked.ensures ∙ not-true _ (ap not c.if-not-is_marked.true)))

pub returns : goal.returns
returns c = ap not c.wants_single.ensures
    ∙ sym (ap (λ b. b && not (singles (decode c.args.r.now) c.args.j))
    (sym c.is_marked.ensures ∙ not-false _ (ap not c.if-not-is_marked.false)))
