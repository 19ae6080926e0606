use native.Mathlib.Omega.{arith}
use mathlib.Core.Path.{refl, ap, ◌∙◌}
use Rattle.stepping.specs.RowBytes.{streams_ok}
use Rattle.source_rows.specs.Files.{taken, inside}
use Rattle.source_rows.specs.Sources.{widths_start, narrow, form_here, form_more, source_at}
use Rattle.source_rows.specs.Declared.{kept_start, kept_fails, kept_more, kept_end}
use Rattle.std.specs.Prelude.{not}
use Rattle.source_rows.proofs.declared_fits.Goals as goal

pub loop-j-init : goal.loop-j-init
loop-j-init c = let r = c.args.rows.now in let t = taken _ _ (c.requires.0, c.requires.1) (record { below = λ i g. omega (arith, c.type_inv.plan i) }) in (t, ap (streams_ok r 0) (widths_start _ _ t) ∙ c.requires.2, kept_start _ _ t r)

pub source_kept-requires : goal.source_kept-requires
source_kept-requires c = let a = c.args in source_at a.plan.now a.n c.loop-j.invariant.0 a.rows.now c.loop-j.j c.loop-j.at (omega arith) c.loop-j.invariant.1

pub returns-then-not-source_kept : goal.returns-then-not-source_kept
returns-then-not-source_kept c = let a = c.args in kept_fails a.plan.now a.n c.loop-j.invariant.0 a.rows.now c.loop-j.j c.loop-j.at (omega arith) _ _ refl refl _ _ c.source_kept.ensures (ap not c.if-not-source_kept.true) c.loop-j.invariant.2

pub streams_of-k-requires : goal.streams_of-k-requires
streams_of-k-requires c = inside _ _ c.loop-j.invariant.0 c.loop-j.j (omega arith)

pub byte_of-w-requires : goal.byte_of-w-requires
byte_of-w-requires c = (inside _ _ c.loop-j.invariant.0 c.loop-j.j (omega arith), omega arith)

pub source_end-at-requires : goal.source_end-at-requires
source_end-at-requires c = let a = c.args in (narrow a.plan.now a.n c.loop-j.invariant.0 a.rows.now c.loop-j.j c.loop-j.at _ _ (omega arith) c.streams_of-k.ensures c.byte_of-w.ensures, form_here a.plan.now a.n c.loop-j.invariant.0 a.rows.now c.loop-j.j c.loop-j.at _ _ (omega arith) c.streams_of-k.ensures c.byte_of-w.ensures c.loop-j.invariant.1)

pub loop-j-preserved : goal.loop-j-preserved
loop-j-preserved c = let a = c.args in let f = form_here a.plan.now a.n c.loop-j.invariant.0 a.rows.now c.loop-j.j c.loop-j.at _ _ (omega arith) c.streams_of-k.ensures c.byte_of-w.ensures c.loop-j.invariant.1 in (c.loop-j.invariant.0, form_more a.plan.now a.n c.loop-j.invariant.0 a.rows.now c.loop-j.j c.loop-j.at _ _ (omega arith) c.streams_of-k.ensures c.byte_of-w.ensures _ _ f c.source_end-at.ensures c.loop-j.invariant.1, kept_more a.plan.now a.n c.loop-j.invariant.0 a.rows.now c.loop-j.j c.loop-j.at (omega arith) _ _ c.streams_of-k.ensures c.byte_of-w.ensures _ _ _ c.source_kept.ensures (ap not c.if-not-source_kept.false) c.source_end-at.ensures c.loop-j.invariant.2)

pub returns : goal.returns
returns c = let a = c.args in kept_end a.plan.now a.n a.rows.now c.loop-j.j c.loop-j.at _ (omega arith) c.loop-j.invariant.2
