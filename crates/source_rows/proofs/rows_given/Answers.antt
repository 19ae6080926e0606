use native.Mathlib.Omega.{arith}
use mathlib.Core.Path.{refl, ap, ◌∙◌}
use Rattle.stepping.specs.RowBytes.{streams_ok, rows_together}
use Rattle.source_rows.specs.Files.{taken, inside}
use Rattle.source_rows.specs.Sources.{widths_start, narrow, form_here, form_more, rows_more, rows_end, place_inside, few_rows}
use Rattle.source_rows.proofs.rows_given.Goals as goal

pub loop-j-init : goal.loop-j-init
loop-j-init c = let r = c.args.rows.now in let t = taken _ _ (c.requires.0, c.requires.1) (record { below = λ i g. omega (arith, c.type_inv.plan i) }) in let e = ap (rows_together r 0) (widths_start _ _ t) in (omega arith, t, ap (streams_ok r 0) (widths_start _ _ t) ∙ c.requires.2, omega arith, omega arith)

pub streams_of-k-requires : goal.streams_of-k-requires
streams_of-k-requires c = inside _ _ c.loop-j.invariant.1 c.loop-j.j (omega arith)

pub byte_of-w-requires : goal.byte_of-w-requires
byte_of-w-requires c = (inside _ _ c.loop-j.invariant.1 c.loop-j.j (omega arith), omega arith)

pub source_count-count-requires : goal.source_count-count-requires
source_count-count-requires c = let a = c.args in (narrow a.plan.now a.n c.loop-j.invariant.1 a.rows.now c.loop-j.j c.loop-j.at _ _ (omega arith) c.streams_of-k.ensures c.byte_of-w.ensures, form_here a.plan.now a.n c.loop-j.invariant.1 a.rows.now c.loop-j.j c.loop-j.at _ _ (omega arith) c.streams_of-k.ensures c.byte_of-w.ensures c.loop-j.invariant.2)

pub overflow_add-count : goal.overflow_add-count
overflow_add-count c = let a = c.args in let f = form_here a.plan.now a.n c.loop-j.invariant.1 a.rows.now c.loop-j.j c.loop-j.at _ _ (omega arith) c.streams_of-k.ensures c.byte_of-w.ensures c.loop-j.invariant.2 in let p = place_inside a.plan.now a.n c.loop-j.invariant.1 a.rows.now c.loop-j.j c.loop-j.at _ _ (omega arith) c.streams_of-k.ensures c.byte_of-w.ensures _ c.loop-j.invariant.0 f refl in let q = few_rows a.plan.now a.n c.loop-j.invariant.1 a.rows.now c.loop-j.j c.loop-j.at _ _ (omega arith) c.streams_of-k.ensures c.byte_of-w.ensures _ _ c.source_count-count.ensures refl in let v = c.loop-j.invariant.3 in omega (arith, p, q, v)

pub source_end-at-requires : goal.source_end-at-requires
source_end-at-requires c = let a = c.args in (narrow a.plan.now a.n c.loop-j.invariant.1 a.rows.now c.loop-j.j c.loop-j.at _ _ (omega arith) c.streams_of-k.ensures c.byte_of-w.ensures, form_here a.plan.now a.n c.loop-j.invariant.1 a.rows.now c.loop-j.j c.loop-j.at _ _ (omega arith) c.streams_of-k.ensures c.byte_of-w.ensures c.loop-j.invariant.2)

pub loop-j-preserved : goal.loop-j-preserved
loop-j-preserved c = let a = c.args in let f = form_here a.plan.now a.n c.loop-j.invariant.1 a.rows.now c.loop-j.j c.loop-j.at _ _ (omega arith) c.streams_of-k.ensures c.byte_of-w.ensures c.loop-j.invariant.2 in let q = few_rows a.plan.now a.n c.loop-j.invariant.1 a.rows.now c.loop-j.j c.loop-j.at _ _ (omega arith) c.streams_of-k.ensures c.byte_of-w.ensures _ _ c.source_count-count.ensures c.source_end-at.ensures in let v = c.loop-j.invariant.3 in (place_inside a.plan.now a.n c.loop-j.invariant.1 a.rows.now c.loop-j.j c.loop-j.at _ _ (omega arith) c.streams_of-k.ensures c.byte_of-w.ensures _ c.loop-j.invariant.0 f c.source_end-at.ensures, c.loop-j.invariant.1, form_more a.plan.now a.n c.loop-j.invariant.1 a.rows.now c.loop-j.j c.loop-j.at _ _ (omega arith) c.streams_of-k.ensures c.byte_of-w.ensures _ _ f c.source_end-at.ensures c.loop-j.invariant.2, omega (arith, q, v), rows_more a.plan.now a.n c.loop-j.invariant.1 a.rows.now c.loop-j.j c.loop-j.at _ _ (omega arith) c.streams_of-k.ensures c.byte_of-w.ensures _ _ _ _ c.source_count-count.ensures c.source_end-at.ensures c.loop-j.invariant.4)

pub returns : goal.returns
returns c = let a = c.args in rows_end a.plan.now a.n a.rows.now c.loop-j.j c.loop-j.at _ _ (omega arith) c.loop-j.invariant.4
