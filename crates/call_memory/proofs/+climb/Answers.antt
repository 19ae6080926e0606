use native.Mathlib.Omega.{arith}
use mathlib.Core.Path.{ap, ◌∙◌, subst}
use Rattle.std.specs.Prelude.{Err}
use Prim.Native.Nat.{ℕ}
use Rattle.plan_codec.specs.Reading.{reading}
use Rattle.plan_calls.specs.Results.{result_of}
use Rattle.call_answers.specs.Answers.{after_reading}
use Rattle.call_parts.specs.Calls.{CalledAs}
use Rattle.call_rungs.specs.Replies.{Answered}
use Rattle.call_rungs.specs.Rungs.{ok_answered, refused_answered}
use Rattle.call_parts.specs.declared.Stop.TheVariants.{Refused, NoRoom}
use Rattle.call_memory.specs.Memory.{as_error, no_room_same, met}
use Rattle.call_memory.proofs.+climb.Goals as goal
use Rattle.call_memory.proofs.+climb.Goals.{Joined-slots-lt8, in-0-to-7, in-8-to-14, in-15-to-42, in-43-to-84, in-85-to-126, in-127-to-129, in-130-to-254, in_default}

-- what the rung answered, and left in the output
rung : (t : ℕ) (c : Joined-slots-lt8 t) → CalledAs c.if-slots-lt8.r (after_reading (result_of c.args.k) (reading c.args.plan.now)) c.args.out.now c.if-slots-lt8.out 1
rung t c = elim c.if-slots-lt8.branch [
  | in-0-to-7 w ↦ (met (after_reading (result_of c.args.k) (reading c.args.plan.now)) c.args.out.now c.if-slots-lt8.r w.call_in_arena-r.result c.if-slots-lt8.out w.call_in_arena-r.new.out _ w.out-is w.r-is w.call_in_arena-r.ensures).0
  | in-8-to-14 w ↦ (met (after_reading (result_of c.args.k) (reading c.args.plan.now)) c.args.out.now c.if-slots-lt8.r w.call_in_arena-r-in-8-to-14.result c.if-slots-lt8.out w.call_in_arena-r-in-8-to-14.new.out _ w.out-is w.r-is w.call_in_arena-r-in-8-to-14.ensures).0
  | in-15-to-42 w ↦ (met (after_reading (result_of c.args.k) (reading c.args.plan.now)) c.args.out.now c.if-slots-lt8.r w.call_in_arena-r-in-15-to-42.result c.if-slots-lt8.out w.call_in_arena-r-in-15-to-42.new.out _ w.out-is w.r-is w.call_in_arena-r-in-15-to-42.ensures).0
  | in-43-to-84 w ↦ (met (after_reading (result_of c.args.k) (reading c.args.plan.now)) c.args.out.now c.if-slots-lt8.r w.call_in_arena-r-in-43-to-84.result c.if-slots-lt8.out w.call_in_arena-r-in-43-to-84.new.out _ w.out-is w.r-is w.call_in_arena-r-in-43-to-84.ensures).0
  | in-85-to-126 w ↦ (met (after_reading (result_of c.args.k) (reading c.args.plan.now)) c.args.out.now c.if-slots-lt8.r w.call_in_arena-r-in-85-to-126.result c.if-slots-lt8.out w.call_in_arena-r-in-85-to-126.new.out _ w.out-is w.r-is w.call_in_arena-r-in-85-to-126.ensures).0
  | in-127-to-129 w ↦ (met (after_reading (result_of c.args.k) (reading c.args.plan.now)) c.args.out.now c.if-slots-lt8.r w.call_in_arena-r-in-127-to-129.result c.if-slots-lt8.out w.call_in_arena-r-in-127-to-129.new.out _ w.out-is w.r-is w.call_in_arena-r-in-127-to-129.ensures).0
  | in-130-to-254 w ↦ (met (after_reading (result_of c.args.k) (reading c.args.plan.now)) c.args.out.now c.if-slots-lt8.r w.call_in_arena-r-in-130-to-254.result c.if-slots-lt8.out w.call_in_arena-r-in-130-to-254.new.out _ w.out-is w.r-is w.call_in_arena-r-in-130-to-254.ensures).0
  | in_default w ↦ (met (after_reading (result_of c.args.k) (reading c.args.plan.now)) c.args.out.now c.if-slots-lt8.r w.call_in_arena-r-in_default.result c.if-slots-lt8.out w.call_in_arena-r-in_default.new.out _ w.out-is w.r-is w.call_in_arena-r-in_default.ensures).0
]

pub call_in_largest-requires : goal.call_in_largest-requires
call_in_largest-requires t c = c.requires.1

pub returns-then-slots-gt382 : goal.returns-then-slots-gt382
returns-then-slots-gt382 t c = c.call_in_largest.ensures

pub above-requires : goal.above-requires
above-requires t c = let x = c.if-slots-gt382.false in omega arith

pub returns-in-Ok : goal.returns-in-Ok
returns-in-Ok t c = ok_answered c.if-slots-lt8.r (after_reading (result_of c.args.k) (reading c.args.plan.now)) c.args.out.now c.if-slots-lt8.out 1
    (rung t (goal.at.returns-in-Ok t c).Joined-slots-lt8) c.in-Ok.passes c.as_reply.result c.in-Ok.is c.as_reply.ensures

pub returns-in-Err-Refused : goal.returns-in-Err-Refused
returns-in-Err-Refused t c = refused_answered c.if-slots-lt8.r (after_reading (result_of c.args.k) (reading c.args.plan.now)) c.args.out.now c.if-slots-lt8.out 1
    (rung t (goal.at.returns-in-Err-Refused t c).Joined-slots-lt8) c.in-Err-Refused.x c.as_reply-in-Err-Refused.result
    (as_error c.if-slots-lt8.r c.in-Err-Refused.field-0 (Refused c.in-Err-Refused.x) c.in-Err-Refused.is (rw c.in-Err-Refused.is at c.in-Err-Refused.field-0-is)) c.as_reply-in-Err-Refused.ensures

pub climb-requires : goal.climb-requires
climb-requires t c = let p = c.requires in let m = c.decreases in let x = c.if-slots-gt382.false in let y = p.0 in let z = p.2 in let a = c.above.ensures in
    (omega arith, (p.0, p.1, omega arith))

pub returns-in-Err-NoRoom : goal.returns-in-Err-NoRoom
returns-in-Err-NoRoom t c = let y = c.climb in subst (λ x. Answered y.result (after_reading (result_of c.args.k) (reading c.args.plan.now)) x y.new.out)
    (no_room_same (after_reading (result_of c.args.k) (reading c.args.plan.now)) c.args.out.now c.if-slots-lt8.r c.if-slots-lt8.out 1
    (as_error c.if-slots-lt8.r c.in-Err-NoRoom.field-0 NoRoom c.in-Err-NoRoom.is (rw c.in-Err-NoRoom.is at c.in-Err-NoRoom.field-0-is)) (rung t (goal.at.returns-in-Err-NoRoom t c).Joined-slots-lt8)) y.ensures
