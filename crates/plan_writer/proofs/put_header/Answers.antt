use native.Mathlib.Omega.{arith}
use lib.ListN.{length-set}
use Rattle.plan_format.specs.Writing.{header}
use Rattle.scan.specs.Parts.{sets_all}
use Rattle.plan_writer.proofs.put_header.Goals as goal

pub bounds-d-1 : goal.bounds-d-1
bounds-d-1 c = simp length-set (omega arith)

pub bounds-d-2 : goal.bounds-d-2
bounds-d-2 c = simp length-set (omega arith)

pub bounds-d-3 : goal.bounds-d-3
bounds-d-3 c = simp length-set (omega arith)

pub bounds-d-4 : goal.bounds-d-4
bounds-d-4 c = simp length-set (omega arith)

pub bounds-d-5 : goal.bounds-d-5
bounds-d-5 c = simp length-set (omega arith)

pub bounds-d-6 : goal.bounds-d-6
bounds-d-6 c = simp length-set (omega arith)

pub bounds-d-7 : goal.bounds-d-7
bounds-d-7 c = simp length-set (omega arith)

pub returns : goal.returns
returns c = sets_all c.args.d.now (header c.args.k c.args.n c.args.c) c.requires.0
