use native.Mathlib.Omega.{arith}
use mathlib.Core.Path.{ap, ◌∙◌, subst}
use Rattle.std.specs.Prelude.{Err}
use Prim.Native.Nat.{ℕ}
use Rattle.walks.specs.Counted.{pushed}
use Rattle.call_answers.specs.Answers.{rewrites}
use Rattle.call_parts.specs.Calls.{CalledAs}
use Rattle.call_rungs.specs.Replies.{Answered}
use Rattle.call_rungs.specs.Rungs.{ok_answered, refused_answered}
use Rattle.call_parts.specs.declared.Stop.TheVariants.{Refused, NoRoom}
use Rattle.call_memory.specs.Memory.{as_error, no_room_same, met}
use Rattle.call_memory.proofs.+climb_pushing.Goals as goal
use Rattle.call_memory.proofs.+climb_pushing.Goals.{Joined-slots-lt8, in-0-to-7, in-8-to-21, in_default}

-- what the rung answered, and left in the output
rung : (t : ℕ) (c : Joined-slots-lt8 t) → CalledAs c.if-slots-lt8.r (rewrites pushed c.args.plan.now) c.args.out.now c.if-slots-lt8.out 1
rung t c = elim c.if-slots-lt8.branch [
  | in-0-to-7 w ↦ (met (rewrites pushed c.args.plan.now) c.args.out.now c.if-slots-lt8.r w.push_in_arenas-r.result c.if-slots-lt8.out w.push_in_arenas-r.new.out _ w.out-is w.r-is w.push_in_arenas-r.ensures).0
  | in-8-to-21 w ↦ (met (rewrites pushed c.args.plan.now) c.args.out.now c.if-slots-lt8.r w.push_in_arenas-r-in-8-to-21.result c.if-slots-lt8.out w.push_in_arenas-r-in-8-to-21.new.out _ w.out-is w.r-is w.push_in_arenas-r-in-8-to-21.ensures).0
  | in_default w ↦ (met (rewrites pushed c.args.plan.now) c.args.out.now c.if-slots-lt8.r w.push_in_arenas-r-in_default.result c.if-slots-lt8.out w.push_in_arenas-r-in_default.new.out _ w.out-is w.r-is w.push_in_arenas-r-in_default.ensures).0
]

pub push_in_largest-requires : goal.push_in_largest-requires
push_in_largest-requires t c = c.requires.1

pub returns-then-slots-gt63 : goal.returns-then-slots-gt63
returns-then-slots-gt63 t c = c.push_in_largest.ensures

pub overflow_mul-slots : goal.overflow_mul-slots
overflow_mul-slots t c = let x = c.if-slots-gt63.false in omega arith

pub returns-in-Ok : goal.returns-in-Ok
returns-in-Ok t c = ok_answered c.if-slots-lt8.r (rewrites pushed c.args.plan.now) c.args.out.now c.if-slots-lt8.out 1
    (rung t (goal.at.returns-in-Ok t c).Joined-slots-lt8) c.in-Ok.passes c.as_reply.result c.in-Ok.is c.as_reply.ensures

pub returns-in-Err-Refused : goal.returns-in-Err-Refused
returns-in-Err-Refused t c = refused_answered c.if-slots-lt8.r (rewrites pushed c.args.plan.now) c.args.out.now c.if-slots-lt8.out 1
    (rung t (goal.at.returns-in-Err-Refused t c).Joined-slots-lt8) c.in-Err-Refused.x c.as_reply-in-Err-Refused.result
    (as_error c.if-slots-lt8.r c.in-Err-Refused.field-0 (Refused c.in-Err-Refused.x) c.in-Err-Refused.is (rw c.in-Err-Refused.is at c.in-Err-Refused.field-0-is)) c.as_reply-in-Err-Refused.ensures

pub climb_pushing-requires : goal.climb_pushing-requires
climb_pushing-requires t c = let p = c.requires in let m = c.decreases in let x = c.if-slots-gt63.false in let y = p.0 in let z = p.2 in
    (omega arith, (p.0, p.1, omega arith))

pub returns-in-Err-NoRoom : goal.returns-in-Err-NoRoom
returns-in-Err-NoRoom t c = let y = c.climb_pushing in subst (λ x. Answered y.result (rewrites pushed c.args.plan.now) x y.new.out)
    (no_room_same (rewrites pushed c.args.plan.now) c.args.out.now c.if-slots-lt8.r c.if-slots-lt8.out 1
    (as_error c.if-slots-lt8.r c.in-Err-NoRoom.field-0 NoRoom c.in-Err-NoRoom.is (rw c.in-Err-NoRoom.is at c.in-Err-NoRoom.field-0-is)) (rung t (goal.at.returns-in-Err-NoRoom t c).Joined-slots-lt8)) y.ensures
