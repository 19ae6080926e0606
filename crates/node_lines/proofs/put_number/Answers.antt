use native.Mathlib.Omega.{arith}
use Rattle.node_lines.specs.Laws.{twenty, put_decimal}
use Rattle.node_lines.proofs.put_number.Goals as goal

pub put-requires : goal.put-requires
put-requires c = let e = c.decimal-k.ensures in
    let h = twenty c.args.n c.decimal-k.result c.ranges.n.fits e.len in let t = e.in_bounds in
    omega arith

pub returns : goal.returns
returns c = let e = c.decimal-k.ensures in
    put_decimal c.args.n c.decimal-k.result c.decimal-k.new.out
    (twenty c.args.n c.decimal-k.result c.ranges.n.fits e.len) e.len e.digits c.put.ensures
