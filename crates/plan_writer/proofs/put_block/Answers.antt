use mathlib.Core.Path.{sym}
use native.Mathlib.Omega.{arith}
use lib.ListN.{length}
use lib.Seq.{length-take-le}
use Rattle.plan_writer.specs.Laws.{three, f3, put_all}
use Rattle.plan_writer.proofs.put_block.Goals as goal

pub slice_bounds-sum-end-2 : goal.slice_bounds-sum-end-2
slice_bounds-sum-end-2 c = let b = c.args.b.now in let rs = c.args.rs.now in let H = c.put_header.new.d in let R = c.copy.new.d in
    let Z = c.zero.new.d in
    let f = f3 b rs H R Z c.args.n c.args.k c.requires.0 c.requires.1 c.put_header.ensures c.copy.ensures c.zero.ensures in
    let g = f.long in
    sym (length-take-le 508 (three b (length rs) H R Z) (omega arith))

pub sum-x-requires : goal.sum-x-requires
sum-x-requires c = let b = c.args.b.now in let rs = c.args.rs.now in let H = c.put_header.new.d in let R = c.copy.new.d in
    let Z = c.zero.new.d in
    let f = f3 b rs H R Z c.args.n c.args.k c.requires.0 c.requires.1 c.put_header.ensures c.copy.ensures c.zero.ensures in
    let g = f.long in
    let x = length-take-le 508 (three b (length rs) H R Z) (omega arith) in omega arith

pub returns : goal.returns
returns c = let b = c.args.b.now in let rs = c.args.rs.now in let H = c.put_header.new.d in let R = c.copy.new.d in
    let Z = c.zero.new.d in
    put_all b rs H R Z c.args.n c.args.k c.requires.0 c.requires.1 c.put_header.ensures c.copy.ensures c.zero.ensures
    c.put32.new.d c.sum-x.result c.sum-x.ensures c.put32.ensures
