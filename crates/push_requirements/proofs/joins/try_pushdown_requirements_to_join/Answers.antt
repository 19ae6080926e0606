use native.Mathlib.Omega.{arith}
use mathlib.Core.Path.{sym, ap, ◌∙◌}
use Prim.Native.Nat.{ℕ}
use Rattle.asked_facts.specs.Asked.{told}
use Rattle.join_sides.proofs.Room.{roomy}
use Rattle.push_requirements.specs.Joins.{left_keys, pushed_left, right_off, right_keys, right_inside, pushed_right, pushed_neither}
use Rattle.plan.specs.WellFormed.{join_width}
use Rattle.push_requirements.proofs.joins.try_pushdown_requirements_to_join.Goals as goal

pub width-requires : goal.width-requires
width-requires c = c.requires.0.first

pub expr_source_side-side-requires : goal.expr_source_side-side-requires
expr_source_side-side-requires c = let t = c.args.t in let own = c.args.own.now in
    let b = c.args.b.now in let j = c.requires.0 in (
      j.here,
      c.requires.1,
      roomy t _ (told b).width (told own).width
          (j.width ∙ ap (λ (w : ℕ). join_width t w (told b).width) (sym c.width.ensures.0)),
    )

pub try_left-requires : goal.try_left-requires
try_left-requires c = let t = c.args.t in
    let r = c.args.r.now in let own = c.args.own.now in let a = c.args.a.now in let b = c.args.b.now in let j = c.requires.0 in
    let ps = c.args.parent in let i = c.requires.2 in let x = left_keys t r own a b j ps i _ c.width.ensures.0
    c.expr_source_side-side.result c.expr_source_side-side.ensures _ c.in-Left.is in
    (j, x.0, x.1)

pub width-requires-in-Right : goal.width-requires-in-Right
width-requires-in-Right c = c.requires.0.here

pub width-requires-in-Right-2 : goal.width-requires-in-Right-2
width-requires-in-Right-2 c = c.requires.0.second

pub overflow_sub-off : goal.overflow_sub-off
overflow_sub-off c = let t = c.args.t in
    let r = c.args.r.now in let own = c.args.own.now in let a = c.args.a.now in let b = c.args.b.now in let j = c.requires.0 in
    let ps = c.args.parent in let i = c.requires.2 in
    let z = right_off t r own a b j ps i _ c.width.ensures.0
    c.expr_source_side-side.result c.expr_source_side-side.ensures _
    c.in-Right.is in let x = c.width-in-Right.ensures.0 in let y = c.width-in-Right-2.ensures.0 in omega arith

pub moved_back-requires : goal.moved_back-requires
moved_back-requires c = let t = c.args.t in
    let r = c.args.r.now in let own = c.args.own.now in let a = c.args.a.now in let b = c.args.b.now in let j = c.requires.0 in
    let ps = c.args.parent in let i = c.requires.2 in right_keys t r own a b j ps i _ c.width.ensures.0
    c.expr_source_side-side.result c.expr_source_side-side.ensures _
    c.in-Right.is _ _ c.width-in-Right.ensures.0 c.width-in-Right-2.ensures.0

pub try_right-requires : goal.try_right-requires
try_right-requires c = let t = c.args.t in
    let r = c.args.r.now in let own = c.args.own.now in let a = c.args.a.now in let b = c.args.b.now in let j = c.requires.0 in
    let ps = c.args.parent in let i = c.requires.2 in
    let x = right_inside t r own a b j ps i _ c.width.ensures.0
    c.expr_source_side-side.result
    c.expr_source_side-side.ensures _ c.in-Right.is _ _
    c.width-in-Right.ensures.0 c.width-in-Right-2.ensures.0 c.moved_back.result c.moved_back.ensures in (j, x.0, x.1)

pub returns-in-Left : goal.returns-in-Left
returns-in-Left c = let t = c.args.t in let r = c.args.r.now in
    let own = c.args.own.now in let a = c.args.a.now in let b = c.args.b.now in let j = c.requires.0 in let ps = c.args.parent in
    let i = c.requires.2 in pushed_left t r own a b j ps i _ c.width.ensures.0
    c.expr_source_side-side.result c.expr_source_side-side.ensures _
    c.in-Left.is _ c.try_left.ensures

pub returns-in-Right : goal.returns-in-Right
returns-in-Right c = let t = c.args.t in
    let r = c.args.r.now in let own = c.args.own.now in let a = c.args.a.now in let b = c.args.b.now in let j = c.requires.0 in
    let ps = c.args.parent in let i = c.requires.2 in
    pushed_right t r own a b j ps i _ c.width.ensures.0
    c.expr_source_side-side.result
    c.expr_source_side-side.ensures _ c.in-Right.is _
    _ c.width-in-Right.ensures.0 c.width-in-Right-2.ensures.0 c.moved_back.result
    c.moved_back.ensures _ c.try_right.ensures

pub returns-in-Neither : goal.returns-in-Neither
returns-in-Neither c = let t = c.args.t in let r = c.args.r.now in
    let own = c.args.own.now in let a = c.args.a.now in let b = c.args.b.now in let j = c.requires.0 in let ps = c.args.parent in
    let i = c.requires.2 in pushed_neither t r own a b j ps i _ c.width.ensures.0 c.expr_source_side-side.result
    c.expr_source_side-side.ensures c.in-Neither.is
