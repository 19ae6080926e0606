use native.Mathlib.Omega.{arith}
use mathlib.Core.Path.{refl}
use lib.ListN.{length, length-set}
use Rattle.row_writer.specs.Writing.{put_none, put_more, put_all}
use Rattle.row_writer.proofs.put_number.Goals as goal

pub loop-b-init : goal.loop-b-init
loop-b-init c = (refl, put_none (length c.args.d.now) c.args.x c.args.d.now)

pub loop-b-preserved : goal.loop-b-preserved
loop-b-preserved c = let a = c.args in
    let l = c.loop-b in
    (simp length-set l.invariant.0, put_more (length a.d.now) a.x l.b-index l.d l.y (omega arith) l.invariant.0 l.invariant.1)

pub shape_of-d : goal.shape_of-d
shape_of-d c = c.loop-b.invariant.0

pub returns : goal.returns
returns c = let a = c.args in
    let l = c.loop-b in
    put_all (length a.d.now) a.x l.b-index l.d l.y (omega arith) l.invariant.0 l.invariant.1
