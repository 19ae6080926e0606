use native.Mathlib.Omega.{arith}
use lib.ListN.{length-set}
use Rattle.arena.specs.Held.{numbers_none, numbers_more, numbers_end}
use Rattle.arena.proofs.put_numbers.Goals as goal

pub loop-j-init : goal.loop-j-init
loop-j-init c = numbers_none _ _

pub bounds-d-at : goal.bounds-d-at
bounds-d-at c = let l = c.loop-j.invariant.long in let p = c.requires.0 in omega arith

pub bounds-d-at-in-loop-j : goal.bounds-d-at-in-loop-j
bounds-d-at-in-loop-j c = let l = c.loop-j.invariant.long in let p = c.requires.0 in simp length-set (omega arith)

pub loop-j-preserved : goal.loop-j-preserved
loop-j-preserved c = let l = c.loop-j in
    numbers_more _ _ l.d l.j c.loop-j-test.true c.requires.0 c.requires.1 (simp length-set) l.invariant

pub shape_of-d : goal.shape_of-d
shape_of-d c = c.loop-j.invariant.long

pub returns : goal.returns
returns c = let l = c.loop-j in (let l = c.loop-j in numbers_end _ _ l.d l.j c.loop-j-test.false l.invariant, l.invariant.rest)
