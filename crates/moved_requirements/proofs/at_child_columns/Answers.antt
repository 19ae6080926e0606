use native.Mathlib.Omega.{arith}
use mathlib.Core.Path.{ap, ◌∙◌}
use lib.ListN.{get_or, length}
use Rattle.row_order.specs.Packed.{key_of}
use Rattle.semantics.specs.Facts.{with_column}
use Rattle.key_lists.specs.Keys.{keys_left, keys_of}
use Rattle.key_lists.specs.Lists.{no_length, length_keys, mapped_none, mapped_more, mapped_all}
use Rattle.walks.specs.SortPushdown.{at_column}
use Rattle.moved_requirements.proofs.at_child_columns.Goals as goal

pub loop-key-init : goal.loop-key-init
loop-key-init c = let k = c.no_keys-out in let z = no_length k.result k.ensures.0 in let ks = c.args.keys in
    let e = ap keys_left c.into_iter-key-iterator.ensures.into_iter_gives ∙ c.iter-key-items.ensures in (
      omega (arith, c.requires.1, ap length e, length_keys ks.len ks.word),
      k.ensures.1,
      mapped_none (at_column (λ d. get_or c.args.cols.now d 0)) (keys_of ks) (keys_left c.into_iter-key-iterator.result) k.result e k.ensures.0 k.ensures.1,
    )

pub appended-out-requires : goal.appended-out-requires
appended-out-requires c = let l = c.loop-key in
    (l.invariant.1, omega (arith, l.invariant.0, ap length c.in-Some.ensures.steps))

pub loop-key-preserved : goal.loop-key-preserved
loop-key-preserved c = let l = c.loop-key in let g = c.appended-out.ensures in let cols = c.args.cols.now in let e = c.in-Some.ensures.steps in (
  omega (arith, l.invariant.0, g.len, ap length e),
  g.tight,
  mapped_more (at_column (λ d. get_or cols d 0)) c.in-Some.key c.with_column.result e g
      (c.with_column.ensures ∙ ap (λ d. with_column d (key_of c.in-Some.key)) (c.column_at-c.ensures.0 ∙ ap (λ d. get_or cols d 0) c.column.ensures))
      l.invariant.2,
)

pub returns : goal.returns
returns c = let l = c.loop-key in mapped_all (at_column (λ d. get_or c.args.cols.now d 0)) c.in-None.ensures.steps.0 (omega (arith, l.invariant.0)) l.invariant.2
