use native.Mathlib.Omega.{arith}
use mathlib.Core.Path.{refl, sym, ◌∙◌}
use lib.ListN.{replicate, length-set, length-take, length-drop}
use Rattle.plan_writer.specs.Laws.{blocks_end}
use Rattle.arena_writer.specs.Streams.{streamed_start, streamed_more}
use Rattle.arena_writer.proofs.write_blocks.Goals as goal

pub loop-k-init : goal.loop-k-init
loop-k-init c = streamed_start (replicate 448 0) refl c.requires

pub slice_bounds-take_seven-end : goal.slice_bounds-take_seven-end
slice_bounds-take_seven-end c = sym c.loop-k.invariant.long

pub take_seven-seven-requires : goal.take_seven-seven-requires
take_seven-seven-requires c = let l = c.loop-k in (l.invariant.stack, l.invariant.long)

pub slice_bounds-put_block-end-in-loop-k : goal.slice_bounds-put_block-end-in-loop-k
slice_bounds-put_block-end-in-loop-k c = simp length-take (omega arith)

pub put_block-requires : goal.put_block-requires
put_block-requires c = (simp (length-take, length-drop) (omega arith), simp length-take (omega arith))

pub loop-k-preserved : goal.loop-k-preserved
loop-k-preserved c = let l = c.loop-k in let x = c.take_seven-seven in
    streamed_more _ c.requires.fits c.loop-k-test.true x.auto.w x.auto.rs x.ensures c.put_block.ensures l.invariant

pub shape_of-w : goal.shape_of-w
shape_of-w c = c.loop-k.invariant.wide ∙ simp length-set

pub shape_of-out : goal.shape_of-out
shape_of-out c = c.loop-k.invariant.front.front.long

pub returns : goal.returns
returns c = let l = c.loop-k in let a = c.requires in
    blocks_end _ _ l.out _ l.k a.all a.fits c.loop-k-test.false l.invariant.front
