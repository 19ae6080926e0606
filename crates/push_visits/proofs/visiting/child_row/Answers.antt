use native.Mathlib.Omega.{arith}
use Prim.Native.Nat.{◌*◌}
use Rattle.arena.specs.Arena.{slot}
use Rattle.arena.specs.Laws.{below_at}
use Rattle.push_visits.specs.Visiting.{shown, row_child, row_none}
use Rattle.push_visits.proofs.visiting.child_row.Goals as goal

pub child-k-requires : goal.child-k-requires
child-k-requires c = let a = c.args.a.now in let ua = c.args.ua in let i = c.args.i in let g = c.requires.0 in
    let l = c.requires.1 in let k = shown a ua i g l in let x = k.count in let y = k.few in let z = g.slots in let n = c.child_count.ensures in
    let t = c.if-j-child_count.true in (omega arith, omega arith, omega arith)

pub kept_at-requires : goal.kept_at-requires
kept_at-requires c = let a = c.args.a.now in let ua = c.args.ua in let i = c.args.i in
    let g = c.requires.0 in let l = c.requires.1 in let k = shown a ua i g l in let x = k.count in let y = k.few in let z = g.slots in
    let n = c.child_count.ensures in let t = c.if-j-child_count.true in
    let b = below_at (2 * i) (slot a i).kids c.args.j k.below (omega arith) in let e = c.child-k.ensures in omega arith

pub returns-then-j-child_count : goal.returns-then-j-child_count
returns-then-j-child_count c = let a = c.args.a.now in let ua = c.args.ua in let i = c.args.i in
    let g = c.requires.0 in let l = c.requires.1 in let k = shown a ua i g l in let x = k.count in let y = k.few in
    let n = c.child_count.ensures in let t = c.if-j-child_count.true in
    row_child a ua i g l c.args.j _ c.child-k.result (omega arith) c.child-k.ensures c.kept_at.ensures

pub returns : goal.returns
returns c = let a = c.args.a.now in let ua = c.args.ua in let i = c.args.i in let g = c.requires.0 in
    let l = c.requires.1 in let k = shown a ua i g l in let x = k.count in let y = k.few in let n = c.child_count.ensures in
    let t = c.if-j-child_count.false in row_none a ua i g l c.args.j _ (omega arith) c.kept_at-2.ensures
