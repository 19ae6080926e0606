use native.Mathlib.Omega.{arith}
use mathlib.Core.Path.{sym, ◌∙◌}
use borrow.Author.Tests.{not-true, not-false}
use Rattle.arena.specs.Arena.{slot}
use Rattle.plan_context.specs.Nodes.{seen}
use Rattle.transform_up.specs.Finishing.{no_room, finish_over, finish_opened, finish_ending, finish_ended}
use Rattle.std.proofs.Common.{ap}
use Rattle.std.specs.Prelude.{not}
use Rattle.transform_up.proofs.finish.Goals as goal

pub overflow_mul-before : goal.overflow_mul-before
overflow_mul-before c = let p = c.requires in let m = c.args.m.now in let v = c.args.v in let u = c.args.u in
    let ks = c.args.ks.now in let i = c.args.i in let n = c.args.n in let b = c.args.before in let k = c.args.c.now in let x = p.part in
    let y = p.many in omega arith

pub overflow_add-u : goal.overflow_add-u
overflow_add-u c = let p = c.requires in let m = c.args.m.now in let v = c.args.v in let u = c.args.u in
    let ks = c.args.ks.now in let i = c.args.i in let n = c.args.n in let b = c.args.before in let k = c.args.c.now in let x = p.part in
    let y = p.many in let z = p.low in omega arith

pub overflow_add-u-2 : goal.overflow_add-u-2
overflow_add-u-2 c = let p = c.requires in let m = c.args.m.now in let v = c.args.v in let u = c.args.u in
    let ks = c.args.ks.now in let i = c.args.i in let n = c.args.n in let b = c.args.before in let k = c.args.c.now in let x = p.part in
    let y = p.many in let z = p.low in omega arith

pub returns-then-not-has_room : goal.returns-then-not-has_room
returns-then-not-has_room c = let p = c.requires in let m = c.args.m.now in let v = c.args.v in let u = c.args.u in
    let ks = c.args.ks.now in let i = c.args.i in let n = c.args.n in let b = c.args.before in let k = c.args.c.now in
    no_room m v u ks i n b k p (sym c.has_room.ensures ∙ not-true _ (ap not c.if-not-has_room.true))

pub record_at-requires : goal.record_at-requires
record_at-requires c = let p = c.requires in let m = c.args.m.now in let v = c.args.v in
    let u = c.args.u in let ks = c.args.ks.now in let i = c.args.i in let n = c.args.n in let b = c.args.before in let k = c.args.c.now in
    let x = p.arena.slots in let y = p.hint in let z = p.more in omega arith

pub read64-r-requires : goal.read64-r-requires
read64-r-requires c = let p = c.requires in let m = c.args.m.now in
    let v = c.args.v in let u = c.args.u in let ks = c.args.ks.now in let i = c.args.i in let n = c.args.n in let b = c.args.before in
    let k = c.args.c.now in rw c.record_at.ensures (seen m i (let y = p.hint in let z = p.more in (p.arena.all i (omega arith)).proper)).long

pub rebuilt-x-requires : goal.rebuilt-x-requires
rebuilt-x-requires c = let p = c.requires in
    let m = c.args.m.now in let v = c.args.v in let u = c.args.u in let ks = c.args.ks.now in let i = c.args.i in let n = c.args.n in
    let b = c.args.before in let k = c.args.c.now in
    let big = (sym c.has_room.ensures
    ∙ not-false _ (ap not c.if-not-has_room.false)) in
    rw (c.read64-r.ensures, c.record_at.ensures) (finish_over m v u ks i n b k p big)

pub step-s-requires : goal.step-s-requires
step-s-requires c = let p = c.requires in
    let m = c.args.m.now in let v = c.args.v in let u = c.args.u in let ks = c.args.ks.now in let i = c.args.i in let n = c.args.n in
    let b = c.args.before in let k = c.args.c.now in
    let big = (sym c.has_room.ensures
    ∙ not-false _ (ap not c.if-not-has_room.false)) in
    finish_opened m v u ks i n b k p big _
    (rw (c.read64-r.ensures, c.record_at.ensures) at
    c.rebuilt-x.ensures)

pub end_step-requires : goal.end_step-requires
end_step-requires c = let p = c.requires in let m = c.args.m.now in let v = c.args.v in let u = c.args.u in let ks = c.args.ks.now in
    let i = c.args.i in let n = c.args.n in let b = c.args.before in let k = c.args.c.now in
    let big = (sym c.has_room.ensures ∙ not-false _ (ap not c.if-not-has_room.false)) in
    finish_ending m v u ks i n b k p big _
    (rw (c.read64-r.ensures, c.record_at.ensures) at c.rebuilt-x.ensures) c.args.w _
    c.step-s.auto.m _ c.step-s.ensures

pub returns : goal.returns
returns c = let p = c.requires in let m = c.args.m.now in let v = c.args.v in let u = c.args.u in let ks = c.args.ks.now in
    let i = c.args.i in let n = c.args.n in let b = c.args.before in let k = c.args.c.now in
    let big = (sym c.has_room.ensures ∙ not-false _ (ap not c.if-not-has_room.false)) in
    finish_ended m v u ks i n b k p big _
    (rw (c.read64-r.ensures, c.record_at.ensures) at c.rebuilt-x.ensures) c.args.w _
    c.step-s.auto.m _ c.step-s.ensures
    c.end_step.result c.end_step.new.m
    c.end_step.ensures
