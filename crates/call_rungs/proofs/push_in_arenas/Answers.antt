use mathlib.Core.Path.{subst}
use Prim.Native.Nat.{ℕ, ◌*◌, ◌-◌}
use lib.ListN.{length-replicate}
use Rattle.arena.specs.Arena.{slot_size}
use Rattle.walks.specs.Counted.{pushed}
use Rattle.call_answers.specs.Answers.{rewrites}
use Rattle.call_parts.specs.Calls.{CalledAs}
use Rattle.call_rungs.specs.Rungs.{zeros_are_room}
use Rattle.call_rungs.proofs.push_in_arenas.Goals as goal

pub push_plan-requires : goal.push_plan-requires
push_plan-requires g c = zeros_are_room c.args.plan.now g.row.ARENA c.requires.0

pub returns : goal.returns
returns g c = let y = c.push_plan in
    subst (λ n. CalledAs y.result (rewrites pushed c.args.plan.now) c.args.out.now y.new.out (378 * slot_size - n))
    (length-replicate {A = ℕ} g.row.MADE 0) y.ensures
