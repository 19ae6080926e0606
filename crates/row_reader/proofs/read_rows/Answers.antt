use native.Mathlib.Omega.{arith}
use Prim.Native.Nat.{◌+◌, ◌<◌}
use mathlib.Core.Path.{ap, ◌∙◌}
use lib.ListN.{length}
use Rattle.row_order.specs.Lists.{tab}
use Rattle.stepping.specs.RowBytes.{rows_together}
use Rattle.row_bytes.specs.Streams.{alike}
use Rattle.source_rows.specs.Files.{taken, inside}
use Rattle.source_rows.specs.Sources.{narrow}
use Rattle.row_reader.specs.Reading.{tables, AsLong, space_for}
use Rattle.row_reader.specs.Plans.{plan_start, out_inside, out_few, fits_here, rows_left, plan_more, all_read}
use Rattle.row_reader.proofs.read_rows.Goals as goal
use Rattle.row_reader.proofs.read_rows.Goals.{In-loop-j}

out-in : (c : In-loop-j) →
    c.loop-j.j < length c.args.nodes.now
out-in c =
    out_inside c.args.plan.now c.args.n c.args.nodes.now c.loop-j.invariant.taken c.requires.3 c.loop-j.j c.loop-j-test.true

pub loop-j-init : goal.loop-j-init
loop-j-init c = let a = c.args in let p = c.requires in
    plan_start a.plan.now a.n a.nodes.now a.rows.now (tables a.cells.now a.nulls.now a.widths.now a.places.now)
    (taken _ _ (p.0, p.1) (record { below = λ i g. omega (arith, c.type_inv.plan i) })) p.2 p.3

pub streams_of-k-requires : goal.streams_of-k-requires
streams_of-k-requires c = inside _ _ c.loop-j.invariant.taken c.loop-j.j (omega arith)

pub byte_of-w-requires : goal.byte_of-w-requires
byte_of-w-requires c = (inside _ _ c.loop-j.invariant.taken c.loop-j.j (omega arith), omega arith)

pub offset_bounds-nodes-j : goal.offset_bounds-nodes-j
offset_bounds-nodes-j c = omega (arith, out-in (goal.at.offset_bounds-nodes-j c).In-loop-j)

pub bounds-nodes-j : goal.bounds-nodes-j
bounds-nodes-j c = out-in (goal.at.bounds-nodes-j c).In-loop-j

pub read_source-r-requires : goal.read_source-r-requires
read_source-r-requires c = let a = c.args in let l = c.loop-j in let h : l.j < a.n = omega arith in
    let ek = c.streams_of-k.ensures in let ew = c.byte_of-w.ensures in
    let k = c.streams_of-k.result in let w = c.byte_of-w.result in
    let T = tables a.cells.now a.nulls.now a.widths.now a.places.now in (
      narrow a.plan.now a.n l.invariant.taken a.rows.now l.j l.at k w h ek ew,
      out_few a.plan.now a.n a.nodes.now a.rows.now T l.invariant k w h ek ew _ (c.requires.4 l.j h),
      fits_here a.plan.now a.n a.nodes.now a.rows.now T l.invariant k w h ek ew,
      space_for (l.r + rows_together a.rows.now l.at (alike k w)) c.requires.5 l.invariant.long
          (rows_left a.plan.now a.n a.nodes.now a.rows.now T l.invariant k w h ek ew),
    )

pub source_end-at-requires : goal.source_end-at-requires
source_end-at-requires c = let a = c.args in let l = c.loop-j in let h : l.j < a.n = omega arith in
    let ek = c.streams_of-k.ensures in let ew = c.byte_of-w.ensures in
    let k = c.streams_of-k.result in let w = c.byte_of-w.result in
    let T = tables a.cells.now a.nulls.now a.widths.now a.places.now in (
      narrow a.plan.now a.n l.invariant.taken a.rows.now l.j l.at k w h ek ew,
      fits_here a.plan.now a.n a.nodes.now a.rows.now T l.invariant k w h ek ew,
    )

pub loop-j-preserved : goal.loop-j-preserved
loop-j-preserved c = let a = c.args in let l = c.loop-j in
    let h : l.j < a.n = omega arith in
    let ek = c.streams_of-k.ensures in let ew = c.byte_of-w.ensures in
    let k = c.streams_of-k.result in let w = c.byte_of-w.result in
    let z = c.read_source-r.new in let q = c.read_source-r.auto in
    let T = tables a.cells.now a.nulls.now a.widths.now a.places.now in
    let U = tables l.cells l.nulls l.widths l.places in
    let S = tables z.cells z.nulls z.widths z.places in
    let long : AsLong S U = record { numbers = q.cells; sets = q.nulls; widths_there = q.widths; places_there = q.places } in
    plan_more a.plan.now a.n a.nodes.now a.rows.now T l.invariant k w h ek ew {S = S} c.read_source-r.result c.source_end-at.result
    c.source_end-at.ensures c.read_source-r.ensures.0 c.read_source-r.ensures.1 long

pub number_rows-requires : goal.number_rows-requires
number_rows-requires c = tt

pub shape_of-cells : goal.shape_of-cells
shape_of-cells c = c.loop-j.invariant.long.numbers

pub shape_of-nulls : goal.shape_of-nulls
shape_of-nulls c = c.loop-j.invariant.long.sets

pub shape_of-widths : goal.shape_of-widths
shape_of-widths c = c.loop-j.invariant.long.widths_there

pub shape_of-places : goal.shape_of-places
shape_of-places c = c.loop-j.invariant.long.places_there

pub shape_of-order : goal.shape_of-order
shape_of-order c = c.number_rows.auto.order

pub returns : goal.returns
returns c = let a = c.args in
    let l = c.loop-j in let p = c.requires in
    let T = tables a.cells.now a.nulls.now a.widths.now a.places.now in
    all_read a.plan.now a.n a.nodes.now a.rows.now T l.invariant _ (omega arith) p.5
    (c.number_rows.ensures ∙ ap (λ n. tab n (λ i. i)) p.6)
