use native.Mathlib.Omega.{arith}
use mathlib.Core.Path.{refl, ap, sym, ◌∙◌}
use Prim.Native.Nat.{ℕ}
use borrow.Author.Tests.{not-true, not-false}
use lib.ListN.{length}
use Rattle.std.specs.Prelude.{not}
use Rattle.row_order.specs.Packed.{bit}
use Rattle.key_lists.specs.Keys.{keys_left}
use Rattle.key_lists.specs.Lists.{length_keys, no_length}
use Rattle.key_list_algebra.specs.Normalising.{normal_none, skipped, kept, normalised}
use Rattle.key_list_algebra.proofs.normal_by.Goals as goal

pub loop-key-init : goal.loop-key-init
loop-key-init g c = let s = c.args in let i = c.into_iter-key-iterator in let k = c.no_keys-out in
    let e = ap keys_left i.ensures.into_iter_gives ∙ c.iter-key-items.ensures in let z = no_length k.result k.ensures.0 in (
      omega (arith, c.requires.len_bound, ap length e, length_keys s.k.len s.k.word),
      k.ensures.1,
      λ low h. normal_none (bit s.consts) low s.k k.result s.consts (keys_left i.result) e c.requires.len_bound k.ensures.0 k.ensures.1 (λ d. refl),
    )

pub lowest-c-requires : goal.lowest-c-requires
lowest-c-requires g c = c.requires.callable c.column.result (rw c.column.ensures (omega arith))

pub with-seen-requires : goal.with-seen-requires
with-seen-requires g c = c.requires.columns c.column.result c.lowest-c.result (rw c.column.ensures (omega arith)) c.lowest-c.ensures

pub with_column-requires : goal.with_column-requires
with_column-requires g c = c.requires.columns c.column.result c.lowest-c.result (rw c.column.ensures (omega arith)) c.lowest-c.ensures

pub appended-out-requires : goal.appended-out-requires
appended-out-requires g c = let b = c.loop-key.invariant in (b.1, omega (arith, b.0, ap length c.in-Some.ensures.steps))

pub loop-key-preserved-then-not-has : goal.loop-key-preserved-then-not-has
loop-key-preserved-then-not-has g c = let b = c.loop-key.invariant in let e = c.in-Some.ensures.steps in let l = c.appended-out.ensures in (
  omega (arith, b.0, l.len, ap length e),
  l.tight,
  λ low h. kept (b.2 low h) c.in-Some.key (keys_left c.next.new.self) e c.lowest-c.result
      (h c.column.result c.lowest-c.result (rw c.column.ensures (omega arith)) c.lowest-c.ensures ∙ ap low c.column.ensures)
      (sym c.has.ensures ∙ not-true _ (ap not c.if-not-has.true)) c.with-seen.result c.with-seen.ensures c.with_column.result c.with_column.ensures
      c.appended-out.result l,
)

pub loop-key-preserved : goal.loop-key-preserved
loop-key-preserved g c = let b = c.loop-key.invariant in let e = c.in-Some.ensures.steps in (
  omega (arith, b.0, ap length e),
  b.1,
  λ low h. skipped (b.2 low h) c.in-Some.key (keys_left c.next.new.self) e c.lowest-c.result
      (h c.column.result c.lowest-c.result (rw c.column.ensures (omega arith)) c.lowest-c.ensures ∙ ap low c.column.ensures)
      (sym c.has.ensures ∙ not-false _ (ap not c.if-not-has.false)),
)

pub returns : goal.returns
returns g c = λ low h. normalised (c.loop-key.invariant.2 low h) c.in-None.ensures.steps.0
