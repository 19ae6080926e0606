-- A call in arenas of zeros: what it asks of them, and what it answers.
use Rattle.std.specs.Prelude.{◌≡◌, Bool, List, ℕ, ◌*◌, ◌-◌, ◌≤◌, Ok, Err, length, replicate}
use Rattle.std.proofs.Common.{ap, subst, arith}
use Rattle.std.proofs.lemmas.List.{length-replicate}
use Rattle.plan.specs.Numbers.{number_of}
use Rattle.plan.specs.declared.Refusal.{Refusal}
use Rattle.plan_format.specs.Blocks.{block_count}
use Rattle.arena.specs.Arena.{slot_size}
use Rattle.plan_arena.specs.ReadFile.{block_slots}
use Rattle.step_ends.specs.Tidying.{full_slots}
use Rattle.call_parts.specs.declared.Stop.TheVariants.{Refused, NoRoom}
use Rattle.call_answers.specs.Answers.{Result}
use Rattle.call_parts.specs.Calls.{Called, CalledAs, Memory}
use Rattle.call_rungs.specs.declared.Reply.{Reply}
use Rattle.call_rungs.specs.Replies.{Answered, reply_of}

-- An arena of a zeros. The law tells its length: to count it, byte by byte, takes seconds
pub zeros_are_room : (s : List ℕ) (a : ℕ) → block_slots * block_count s ≤ a → block_slots * block_count s ≤ length (replicate {A = ℕ} a 0)
zeros_are_room s a h = let l = length-replicate {A = ℕ} a 0 in omega arith

-- and scratch of b zeros
pub zeros_are_memory : (s : List ℕ) (a b : ℕ) → block_slots * block_count s ≤ a → (full_slots * slot_size ≤ a → 126 * slot_size ≤ b)
    → Memory s (replicate a 0) (replicate b 0)
zeros_are_memory s a b h k =
    let l = length-replicate {A = ℕ} a 0 in let m = length-replicate {A = ℕ} b 0 in
    record { room = zeros_are_room s a h; scratch = λ f. let z = k (omega arith) in omega arith }

module _ (r : Called) (R : Result) (out out' : List ℕ) (a : ℕ) (x : CalledAs r R out out' a) where
  -- a call that is answered, and one that is refused
  pub ok_answered : (b : Bool) (y : Reply) → r ≡ Ok b → y ≡ reply_of (Ok b) → Answered y R out out'
  ok_answered b y e f = let z : CalledAs (Ok b) R out out' a = subst (λ q. CalledAs q R out out' a) e x in rw f (ap number_of z.0, z.1, z.2)

  pub refused_answered : (s : Refusal) (y : Reply) → r ≡ Err (Refused s) → y ≡ reply_of (Err s) → Answered y R out out'
  refused_answered s y e f = let z : CalledAs (Err (Refused s)) R out out' a = subst (λ q. CalledAs q R out out' a) e x in rw f (ap number_of z.0, z.1, z.2)

  -- a call that is short of nothing has room
  pub has_room : a ≡ 0 → r ≡ Err NoRoom → ⊥
  has_room z e = let y = (subst (λ q. CalledAs q R out out' a) e x).1 in omega arith

module _ (r : Called) (R : Result) (out out' : List ℕ) where
  -- an arena of a zeros that is short of nothing has room
  pub full_done : (most a : ℕ) → most ≤ a → r ≡ Err NoRoom → CalledAs r R out out' (most - length (replicate {A = ℕ} a 0)) → ⊥
  full_done most a h e x =
      let z = length-replicate {A = ℕ} a 0 in
      has_room r R out out' (most - length (replicate {A = ℕ} a 0)) x (omega arith) e
