-- What the definitions of the exports' answers say of the output, of the order check's lent number and of settings (01, 'A plan file comes in',
-- 'From the state'). Assumes nothing.
use Rattle.std.specs.Prelude.{◌≡◌, refl, Bool, true, false, cond, not, List, ◌++◌, ℕ, suc, ◌≤◌, ◌<◌, eqb, ltb, length, take, drop, Err}
use Rattle.std.proofs.Common.{arith, eqb-true, ltb-true, ltb-false, take_at, drop_at}
use Rattle.plan.specs.Op.{Plan}
use Rattle.plan.specs.Numbers.{Accepted, number_of}
use Rattle.plan.specs.declared.Refusal.{Refusal}
use Rattle.plan.specs.declared.Refusal.TheVariants.{OutputTooShort}
use Rattle.plan_codec.specs.Reading as codec
use Rattle.plan_codec.specs.Writing.{file_of_plan}
use Rattle.call_answers.specs.Answers.{check_answer, checks, gives, output_in, refusal_in, refuses, Result, setting, settings_in, too_short}

-- "A refusal .. leaves tree and buffers alone": whatever number but 0 a call answers, the output is as it was
pub refusal_leaves_output : (g : Result) (out : List ℕ) → (number_of (refusal_in g out) ≡ 0 → ⊥) → output_in g out ≡ out
refusal_leaves_output (refuses x) out n = refl
refusal_leaves_output (checks b) out n = refl
refusal_leaves_output (gives f) out n = go (too_short f out) n
  where
    go : (b : Bool) → (number_of (cond b (Err OutputTooShort) Accepted) ≡ 0 → ⊥) → cond b out (file_of_plan f ++ drop (length (file_of_plan f)) out) ≡ out
    go true n = refl
    go false n = absurd (n refl)

-- and so is the number that is lent to the order check
pub refusal_leaves_number : (x : Refusal) (p : ℕ) → check_answer (codec.refused x) p ≡ p
unfolding check_answer
refusal_leaves_number x p = refl

-- where a plan is to be written
module _ (f : Plan) (out : List ℕ) where
  -- "24: the output buffer is shorter than the file to write", and not where the file just fits
  pub short_refused : length out < length (file_of_plan f) → refusal_in (gives f) out ≡ Err OutputTooShort
  short_refused h = go (too_short f out) refl
    where
      go : (b : Bool) → ltb (length out) (length (file_of_plan f)) ≡ b → cond b (Err OutputTooShort) Accepted ≡ Err OutputTooShort
      go true e = refl
      go false e = absurd (omega (arith, ltb-false (length out) (length (file_of_plan f)) e))

  module _ (room : length (file_of_plan f) ≤ length out) where
    fits : (b : Bool) → ltb (length out) (length (file_of_plan f)) ≡ b → b ≡ false
    fits true e = absurd (omega (arith, ltb-true (length out) (length (file_of_plan f)) e))
    fits false e = refl

    pub fit_accepted : refusal_in (gives f) out ≡ Accepted
    fit_accepted = rw (fits (too_short f out) refl)

    pub fit_written : output_in (gives f) out ≡ file_of_plan f ++ drop (length (file_of_plan f)) out
    fit_written = rw (fits (too_short f out) refl)

    -- the file stands at the output's start
    pub file_first : take (length (file_of_plan f)) (output_in (gives f) out) ≡ file_of_plan f
    file_first = rw fit_written (take_at (file_of_plan f) (drop (length (file_of_plan f)) out) (length (file_of_plan f)) refl)

    -- "bytes past the file stay"
    pub past_stays : drop (length (file_of_plan f)) (output_in (gives f) out) ≡ drop (length (file_of_plan f)) out
    past_stays = rw fit_written (drop_at (file_of_plan f) (drop (length (file_of_plan f)) out) (length (file_of_plan f)) refl)

-- "A setting is one byte: zero is off, all else on"
pub zero_off : setting 0 ≡ false
zero_off = refl

pub else_on : (n : ℕ) → setting (suc n) ≡ true
else_on n = go (eqb (suc n) 0) refl
  where
    go : (b : Bool) → eqb (suc n) 0 ≡ b → not b ≡ true
    go true e = absurd (let z : suc n ≡ 0 = eqb-true (suc n) 0 e in omega arith)
    go false e = refl

-- each byte is its own setting's: "settings: spr better, spm better, prefer existing"
pub each_its_own :
    (settings_in 1 0 0 ≡ record { spr = true; spm = false; prefer = false })
    × (settings_in 0 1 0 ≡ record { spr = false; spm = true; prefer = false })
    × (settings_in 0 0 1 ≡ record { spr = false; spm = false; prefer = true })
each_its_own = (refl, refl, refl)
