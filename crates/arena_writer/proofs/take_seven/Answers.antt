use native.Mathlib.Omega.{arith}
use mathlib.Core.Path.{◌≡◌, refl, sym, ap, ◌∙◌}
use lib.ListN.{length, length-take, length-drop}
use Rattle.arena_writer.specs.Flat.{top-here, top_fine, top-room, taking_more, took_seven, took_all}
use Rattle.arena_writer.proofs.take_seven.Goals as goal

pub loop-c-init : goal.loop-c-init
loop-c-init c = (refl, record { few = omega arith; long = c.requires.1; stack = c.requires.0; done = refl })

pub record_at-requires : goal.record_at-requires
record_at-requires c = let p = c.loop-c.invariant.1.stack in let h = top-here p c.if-w-top.false in let b = p.slots in omega arith

pub read64-row-requires : goal.read64-row-requires
read64-row-requires c = ap length c.record_at.ensures ∙ (top_fine c.loop-c.invariant.1.stack c.if-w-top.false).long

pub copy-requires : goal.copy-requires
copy-requires c = let e = ap length (c.read64-row.ensures ∙ c.record_at.ensures)
    ∙ (top_fine c.loop-c.invariant.1.stack c.if-w-top.false).long in
    simp (length-take, length-drop) (omega arith)

pub push_children-top-requires : goal.push_children-top-requires
push_children-top-requires c = let l = c.loop-c in let p = l.invariant.1.stack in let x = c.if-w-top.false in
    let h = top-here p x in let b = p.slots in (omega arith, (top_fine p x).few, top-room p x, omega arith)

pub loop-c-preserved : goal.loop-c-preserved
loop-c-preserved c = let l = c.loop-c in let h = c.loop-c-test.true in let x = c.if-w-top.false in
    let y = c.push_children-top in let e = y.ensures.0 in (
      y.auto.w ∙ l.invariant.0,
      taking_more l.invariant.1.stack x _ (omega arith) y.auto.w (omega arith) y.ensures.1
          (c.copy.ensures ∙ c.read64-row.ensures ∙ c.record_at.ensures) l.invariant.1,
    )

pub shape_of-rs-then-w-top : goal.shape_of-rs-then-w-top
shape_of-rs-then-w-top c = c.loop-c.invariant.1.long ∙ sym c.requires.1

pub shape_of-w-then-w-top : goal.shape_of-w-then-w-top
shape_of-w-then-w-top c = c.loop-c.invariant.0

pub returns-then-w-top : goal.returns-then-w-top
returns-then-w-top c = took_all c.loop-c.invariant.1 c.if-w-top.true

pub shape_of-rs : goal.shape_of-rs
shape_of-rs c = c.loop-c.invariant.1.long ∙ sym c.requires.1

pub shape_of-w : goal.shape_of-w
shape_of-w c = c.loop-c.invariant.0

pub returns : goal.returns
returns c = let l = c.loop-c in let e : l.c ≡ 7 = omega arith in rw e at (took_seven l.invariant.1 c.loop-c-test.false)
