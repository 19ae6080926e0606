use mathlib.Core.Path.{sym, ◌∙◌}
use Rattle.plan_codec.specs.Decode.{decode}
use Rattle.bottleneck_removal.specs.Connecting.{alone_unmarked, coalesce_marked, other_marked}
use Rattle.bottleneck_removal.proofs.marks.update_coalesce_ctx_children.Goals as goal

pub returns-then-ks-eq0 : goal.returns-then-ks-eq0
returns-then-ks-eq0 c = λ m. alone_unmarked (decode c.args.r.now) c.args.ks.now m c.if-ks-eq0.true

pub returns-then-is_coalesce_partitions : goal.returns-then-is_coalesce_partitions
returns-then-is_coalesce_partitions c = λ m. c.is_bottleneck.ensures ∙ coalesce_marked (decode c.args.r.now)
    c.args.ks.now m c.if-ks-eq0.false
    (sym c.is_coalesce_partitions.ensures ∙ c.if-is_coalesce_partitions.true)

pub returns : goal.returns
returns c = λ m. c.any_connects.ensures m ∙ other_marked (decode c.args.r.now)
    c.args.ks.now m c.if-ks-eq0.false
    (sym c.is_coalesce_partitions.ensures ∙ c.if-is_coalesce_partitions.false)
