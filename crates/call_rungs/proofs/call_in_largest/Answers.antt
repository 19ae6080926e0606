use native.Mathlib.Omega.{arith}
use mathlib.Core.Path.{ap, sym, subst, ◌∙◌}
use Prim.Native.Nat.{ℕ, ◌*◌, ◌-◌}
use lib.ListN.{length-replicate}
use Rattle.arena.specs.Arena.{slot_size}
use Rattle.step_ends.specs.Tidying.{full_slots}
use Rattle.call_parts.specs.Calls.{CalledAs}
use Rattle.std.specs.Prelude.{Err}
use Rattle.plan_codec.specs.Reading.{reading}
use Rattle.call_answers.specs.Answers.{after_reading}
use Rattle.plan_calls.specs.Results.{result_of}
use Rattle.call_rungs.specs.Rungs.{ok_answered, refused_answered, full_done}
use Rattle.call_rungs.proofs.call_in_largest.Goals as goal

pub call_in_arena-requires : goal.call_in_arena-requires
call_in_arena-requires c = let h = c.requires in (omega arith, (λ f. omega arith), omega arith, omega arith)

pub returns-in-Ok : goal.returns-in-Ok
returns-in-Ok c = let y = c.call_in_arena in
    ok_answered y.result (after_reading (result_of c.args.k) (reading c.args.plan.now)) c.args.out.now y.new.out _ y.ensures _ _ c.in-Ok.is c.as_reply.ensures

pub returns-in-Err-Refused : goal.returns-in-Err-Refused
returns-in-Err-Refused c = let y = c.call_in_arena in
    refused_answered y.result (after_reading (result_of c.args.k) (reading c.args.plan.now)) c.args.out.now y.new.out _ y.ensures _ _ (c.in-Err-Refused.is ∙ ap (λ y. Err y) c.in-Err-Refused.field-0-is) c.as_reply-in-Err-Refused.ensures

pub unreachable-requires : goal.unreachable-requires
unreachable-requires c = let y = c.call_in_arena in
    full_done y.result (after_reading (result_of c.args.k) (reading c.args.plan.now)) c.args.out.now y.new.out (full_slots * slot_size) 148224 (omega arith)
    (c.in-Err-NoRoom.is ∙ ap (λ y. Err y) c.in-Err-NoRoom.field-0-is)
    (subst (λ n. CalledAs y.result (after_reading (result_of c.args.k) (reading c.args.plan.now)) c.args.out.now y.new.out (full_slots * slot_size - n))
    (sym (length-replicate {A = ℕ} 148224 0)) y.ensures)
