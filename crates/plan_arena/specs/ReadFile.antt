-- What reading into the arena answers.
use Rattle.std.specs.Prelude.{◌≡◌, List, ℕ, ◌*◌, ◌≤◌, Result, Ok, Err, IfOk, OnErr}
use Rattle.std.proofs.Common.{sym, ◌∙◌, arith}
use Rattle.plan.specs.Numbers.{Verdict, Accepted, number_of}
use Rattle.plan.specs.declared.Refusal.{Refusal}
use Rattle.plan_format.specs.Blocks.{block_count, record_count}
use Rattle.plan_format.specs.Passed.{accepted, passed, few_records}
use Rattle.plan_format.specs.Reading.{refusal_of}
use Rattle.arena.specs.declared.At.{At}
use Rattle.arena.specs.Arena.{slot_size}
use Rattle.plan_arena.specs.Fill.{HoldsTree, Fillable}

-- The bytes of the slots for the records that a block can hold
abbrev pub block_slots : ℕ
block_slots = 7 * slot_size

-- Whether a file was read, or why not
abbrev pub verdict_of : Result At Refusal → Verdict
verdict_of (Ok a) = Accepted
verdict_of (Err x) = Err x

-- The file s is refused as 01 says, and the memory m stays; or m becomes m', which holds the file's tree
pub record ReadAs (s m m' : List ℕ) (r : Result At Refusal) : Type 0 where
  pub refusal : verdict_of r ≡ refusal_of s
  pub holds : IfOk r (λ a. HoldsTree s m' a.used a.root)
  pub stays : OnErr r (m' ≡ m)

-- a file that was read is accepted, and one that was not is refused
pub read_ok : {s m m' : List ℕ} {r : Result At Refusal} {a : At} → ReadAs s m m' r → r ≡ Ok a → (refusal_of s ≡ Accepted) × HoldsTree s m' a.used a.root
read_ok q e = let z = q.refusal in let h = q.holds in (sym (rw e at z), rw e at h)

pub read_err : {s m m' : List ℕ} {r : Result At Refusal} {x : Refusal} → ReadAs s m m' r → r ≡ Err x → refusal_of s ≡ Err x
read_err q e = let z = q.refusal in sym (rw e at z)

pub few_blocks : (s : List ℕ) → refusal_of s ≡ Accepted → (1 ≤ block_count s) × (block_count s ≤ 18)
few_blocks s e = let f = few_records s (passed s e) in (f.0, f.1)

pub fillable : (s : List ℕ) (c room : ℕ) → refusal_of s ≡ Accepted → c ≡ record_count s → block_slots * block_count s ≤ room → Fillable s c room
fillable s c room e q h =
    let v = passed s e in
    let f = few_records s v in let b = f.1 in let l = f.2 in
    record { count = q; blocks = omega arith; most = omega arith; kinds = v.kinds; shape = v.shape; fits = omega arith }

pub is_accepted : (s : List ℕ) (x : Verdict) → x ≡ refusal_of s → number_of x ≡ 0 → refusal_of s ≡ Accepted
is_accepted s x e h = sym e ∙ accepted x h
