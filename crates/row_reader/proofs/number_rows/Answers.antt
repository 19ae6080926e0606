use native.Mathlib.Omega.{arith}
use mathlib.Core.Path.{refl, sym}
use lib.ListN.{length-set}
use Rattle.row_reader.specs.Plans.{numbered_more, numbered}
use Rattle.row_reader.proofs.number_rows.Goals as goal

pub loop-i-init : goal.loop-i-init
loop-i-init c = (refl, refl)

pub loop-i-preserved : goal.loop-i-preserved
loop-i-preserved c = let l = c.loop-i in
    (simp length-set l.invariant.0, numbered_more l.i l.order (omega arith) l.invariant.1)

pub shape_of-order : goal.shape_of-order
shape_of-order c = c.loop-i.invariant.0

pub returns : goal.returns
returns c = let a = c.args in let l = c.loop-i in
    numbered l.i _ l.order (sym l.invariant.0) (omega arith) (omega arith) l.invariant.1
