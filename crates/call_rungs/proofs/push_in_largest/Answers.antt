use native.Mathlib.Omega.{arith}
use mathlib.Core.Path.{ap, sym, subst, ◌∙◌}
use Prim.Native.Nat.{ℕ, ◌*◌, ◌-◌}
use lib.ListN.{length-replicate}
use Rattle.arena.specs.Arena.{slot_size}
use Rattle.call_parts.specs.Calls.{CalledAs}
use Rattle.std.specs.Prelude.{Err}
use Rattle.walks.specs.Counted.{pushed}
use Rattle.call_answers.specs.Answers.{rewrites}
use Rattle.call_rungs.specs.Rungs.{ok_answered, refused_answered, full_done}
use Rattle.call_rungs.proofs.push_in_largest.Goals as goal

pub push_in_arenas-requires : goal.push_in_arenas-requires
push_in_arenas-requires c = let h = c.requires in (omega arith, omega arith, omega arith)

pub returns-in-Ok : goal.returns-in-Ok
returns-in-Ok c = let y = c.push_in_arenas in
    ok_answered y.result (rewrites pushed c.args.plan.now) c.args.out.now y.new.out _ y.ensures _ _ c.in-Ok.is c.as_reply.ensures

pub returns-in-Err-Refused : goal.returns-in-Err-Refused
returns-in-Err-Refused c = let y = c.push_in_arenas in
    refused_answered y.result (rewrites pushed c.args.plan.now) c.args.out.now y.new.out _ y.ensures _ _ (c.in-Err-Refused.is ∙ ap (λ y. Err y) c.in-Err-Refused.field-0-is) c.as_reply-in-Err-Refused.ensures

pub unreachable-requires : goal.unreachable-requires
unreachable-requires c = let y = c.push_in_arenas in
    full_done y.result (rewrites pushed c.args.plan.now) c.args.out.now y.new.out (378 * slot_size) 72576 (omega arith)
    (c.in-Err-NoRoom.is ∙ ap (λ y. Err y) c.in-Err-NoRoom.field-0-is)
    (subst (λ n. CalledAs y.result (rewrites pushed c.args.plan.now) c.args.out.now y.new.out (378 * slot_size - n))
    (sym (length-replicate {A = ℕ} 72576 0)) y.ensures)
