use Rattle.replace_with_order_preserving_variants.specs.Step.{variant_is}
use Rattle.replace_with_order_preserving_variants.proofs.use_order_preserving_variant.Goals as goal

pub returns : goal.returns
returns c = variant_is c.args.m.now c.args.r.now c.args.h c.requires c.args.s _ c.summary-x.ensures _
    c.row.ensures.1 _ c.keys.ensures _ c.meets.ensures
