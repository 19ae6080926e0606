use mathlib.Core.Path.{◌∙◌}
use Rattle.bottleneck_removal.specs.Connecting.{no_first, first_mark}
use Rattle.bottleneck_removal.proofs.marks.first_connected.Goals as goal

pub returns-then-ks-eq0 : goal.returns-then-ks-eq0
returns-then-ks-eq0 c = λ m. no_first c.args.ks.now m c.if-ks-eq0.true

pub returns : goal.returns
returns c = λ m. c.is_marked.ensures ∙ first_mark c.args.ks.now m c.if-ks-eq0.false
