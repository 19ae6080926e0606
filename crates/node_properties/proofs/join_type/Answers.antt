use mathlib.Core.Path.{sym, ap, ◌∙◌}
use Rattle.plan.specs.Op.{sort_merge_join, hash_join}
use Rattle.plan.specs.declared.Kind.TheVariants.{SortMergeJoin, HashJoin}
use Rattle.record_fields.specs.Proper.{pairs_of}
use Rattle.record_fields.specs.Kinds.{op_of}
use Rattle.node_properties.proofs.join_type.Goals as goal

pub returns : goal.returns
returns c = let r = c.args.r.now in record {
  merged = λ e. op_of r SortMergeJoin e ∙ ap (λ t. sort_merge_join t (pairs_of r)) (sym c.join_type_of.ensures);
  hashed = λ e. op_of r HashJoin e
      ∙ ap (λ t. hash_join t (pairs_of r)) (sym c.join_type_of.ensures);
}
