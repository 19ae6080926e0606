use native.Mathlib.Omega.{arith}
use mathlib.Core.Path.{◌≡◌, refl, sym, ap, ◌∙◌}
use Prim.Native.Nat.{◌-◌}
use lib.ListN.{length, take, length-set}
use lib.Seq.{take-length}
use Rattle.arena.specs.Arena.{slot}
use Rattle.bottleneck_removal.specs.Shown.{view, room, kid_asks}
use Rattle.bottleneck_removal.specs.IdleNodes.{copied_more}
use Rattle.bottleneck_removal.proofs.bottlenecks.children_of.Goals as goal

pub child_count-n-requires : goal.child_count-n-requires
child_count-n-requires c = room c.args.m.now c.args.i c.requires

pub loop-j-init : goal.loop-j-init
loop-j-init c = (
  c.child_count-n.ensures ∙ (view c.args.m.now c.args.i c.requires).count,
  refl,
  refl,
)

pub child-requires : goal.child-requires
child-requires c = let i₀ = c.loop-j.invariant.0 in let x = c.loop-j-test.true in
    kid_asks c.args.m.now c.args.i c.requires
    c.loop-j.j (omega arith)

pub offset_bounds-kids-j : goal.offset_bounds-kids-j
offset_bounds-kids-j c = let i₀ = c.loop-j.invariant.0 in let x = c.loop-j-test.true in
    let f = (view c.args.m.now c.args.i
    c.requires).few in omega arith

pub bounds-kids-j : goal.bounds-kids-j
bounds-kids-j c = let i₀ = c.loop-j.invariant.0 in let x = c.loop-j-test.true in
    let f = (view c.args.m.now c.args.i
    c.requires).few in let w = c.loop-j.invariant.1 in omega arith

pub loop-j-preserved : goal.loop-j-preserved
loop-j-preserved c = let i₀ = c.loop-j.invariant.0 in let x = c.loop-j-test.true in
    let f = (view c.args.m.now c.args.i
    c.requires).few in (
      i₀,
      length-set c.loop-j.kids c.loop-j.j _ ∙ c.loop-j.invariant.1,
      copied_more (slot c.args.m.now c.args.i).kids
          c.loop-j.kids c.loop-j.j c.child.result c.loop-j.invariant.1 (omega arith)
          (omega arith) c.loop-j.invariant.2 c.child.ensures,
    )

pub returns : goal.returns
returns c = let i₀ = c.loop-j.invariant.0 in let x = c.loop-j-test.false in
    let y : c.loop-j.j ≡ length (slot c.args.m.now c.args.i).kids =
    omega arith in (
      c.loop-j.invariant.1,
      ap (λ n. take n c.loop-j.kids) (sym y) ∙ c.loop-j.invariant.2
          ∙ ap (λ n. take n (slot c.args.m.now c.args.i).kids) y
          ∙ take-length (slot c.args.m.now c.args.i).kids,
    )
