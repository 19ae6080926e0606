use native.Mathlib.Omega.{arith}
use mathlib.Core.Path.{ap, ◌∙◌}
use lib.ListN.{length}
use Rattle.arena.specs.Arena.{slot}
use Rattle.arena.specs.Keeping.{kept_long}
use Rattle.settling.specs.Settling.{child_asks, child_here, child_shows, row_is}
use native.Mathlib.Omega.{arith}
use Rattle.settling.proofs.child_row.Goals as goal

pub child-k-requires : goal.child-k-requires
child-k-requires c = child_asks c.args.m.now c.args.i c.requires.0 c.args.j c.requires.1

pub kept_at-requires : goal.kept_at-requires
kept_at-requires c = let k = c.child-k in
    (child_here c.args.m.now c.args.i c.requires.0 c.args.j c.requires.1 k.result k.ensures).slot

pub row-requires : goal.row-requires
row-requires c = let k = c.child-k in
    let z = ap length c.kept_at.ensures ∙ kept_long c.args.m.now _ (child_here c.args.m.now c.args.i c.requires.0 c.args.j c.requires.1
    k.result k.ensures).slot in omega arith

pub returns : goal.returns
returns c = let k = c.child-k in
    let l = kept_long c.args.m.now _ (child_here c.args.m.now c.args.i c.requires.0 c.args.j c.requires.1 k.result k.ensures).slot in
    let q = row_is _ _ _ c.row.ensures c.kept_at.ensures l in
    (q.0, child_shows c.args.m.now c.args.i c.requires.0 c.args.j c.requires.1 k.result k.ensures _ q.1)
