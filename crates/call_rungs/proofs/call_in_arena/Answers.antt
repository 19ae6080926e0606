use mathlib.Core.Path.{subst}
use Prim.Native.Nat.{ℕ, ◌*◌, ◌-◌}
use lib.ListN.{length-replicate}
use Rattle.arena.specs.Arena.{slot_size}
use Rattle.step_ends.specs.Tidying.{full_slots}
use Rattle.plan_codec.specs.Reading.{reading}
use Rattle.call_answers.specs.Answers.{after_reading}
use Rattle.plan_calls.specs.Results.{result_of}
use Rattle.call_parts.specs.Calls.{CalledAs}
use Rattle.call_rungs.specs.Rungs.{zeros_are_memory}
use Rattle.call_rungs.proofs.call_in_arena.Goals as goal

pub call_in-requires : goal.call_in-requires
call_in-requires g c = zeros_are_memory c.args.plan.now g.row.ARENA g.row.SCRATCH c.requires.0 c.requires.1

pub returns : goal.returns
returns g c = let y = c.call_in in
    subst (λ n. CalledAs y.result (after_reading (result_of c.args.k) (reading c.args.plan.now)) c.args.out.now y.new.out (full_slots * slot_size - n))
    (length-replicate {A = ℕ} g.row.ARENA 0) y.ensures
