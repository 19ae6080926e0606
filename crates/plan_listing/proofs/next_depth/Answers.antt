use native.Mathlib.Omega.{arith}
use lib.ListN.{set, length-set}
use Rattle.plan_listing.specs.Laws.{pending, down, over}
use Rattle.plan_listing.proofs.next_depth.Goals as goal

pub returns-then-children-gt0 : goal.returns-then-children-gt0
returns-then-children-gt0 c = let h = c.requires in (
  omega arith,
  down c.args.left.now c.args.depth c.args.children c.saturating_sub.result h c.if-children-gt0.true
      c.saturating_sub.ensures,
)

pub risen-requires : goal.risen-requires
risen-requires c = let h = c.requires in
    let w = length-set c.args.left.now c.args.depth c.saturating_sub.result in
    omega arith

pub returns : goal.returns
returns c = let h = c.requires in
    let r = c.risen.ensures in let l = c.args.left.now in let x = c.saturating_sub.result in (
      let g = r.0 in omega arith,
      over l (pending (set l c.args.depth x) c.risen.result) c.args.depth c.args.children x (omega arith)
          c.if-children-gt0.false c.saturating_sub.ensures r.1,
    )
