use native.Mathlib.Omega.{arith}
use mathlib.Core.Path.{refl}
use lib.ListN.{length-set}
use Rattle.row_reader.specs.Counts.{queued_start, queued_more, queued_all}
use Rattle.row_reader.proofs.counts.queue_all.Goals as goal

pub loop-j-init : goal.loop-j-init
loop-j-init c = (refl, queued_start c.args.nodes.now c.args.held.now c.args.queued.now c.requires.2)

pub held_in-requires : goal.held_in-requires
held_in-requires c = let l = c.loop-j in let p = c.requires.0 in
    (p.among l.j (omega arith), omega (arith, p.among l.j (omega arith), p.few))

pub loop-j-preserved : goal.loop-j-preserved
loop-j-preserved c = let a = c.args in let l = c.loop-j in (
  simp length-set l.invariant.0,
  queued_more a.nodes.now a.held.now l.queued l.j c.held_in.result (omega (arith, c.requires.1, l.invariant.0)) l.invariant.1
      c.held_in.ensures,
)

pub shape_of-queued : goal.shape_of-queued
shape_of-queued c = c.loop-j.invariant.0

pub returns : goal.returns
returns c = let a = c.args in let l = c.loop-j in
    queued_all a.nodes.now a.held.now l.queued l.j a.n (omega arith) l.invariant.1
