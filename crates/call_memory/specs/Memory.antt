-- The ladders of arenas.
use Rattle.std.specs.Prelude.{◌≡◌, refl, Bool, true, false, ◌||◌, List, ℕ, ◌≤◌, Ok, Err, eqb, ltb, length}
use Rattle.std.proofs.Common.{sym, ap, ◌∙◌, subst, arith, eqb-true, ltb-true, ltb-false}
use Rattle.std.proofs.lemmas.Bool.{eqb-false}
use Rattle.plan.specs.Numbers.{Verdict, number_of}
use Rattle.plan.specs.Op.{Plan}
use Rattle.plan_format.specs.Blocks.{block_count}
use Rattle.plan_format.specs.Reading.{refusal_of}
use Rattle.plan_codec.specs.Reading.{reading}
use Rattle.plan_arena.specs.ReadFile.{few_blocks}
use Rattle.call_parts.specs.declared.Stop.{Stop}
use Rattle.call_parts.specs.declared.Stop.TheVariants.{Refused, NoRoom}
use Rattle.call_answers.specs.Answers.{Result, after_reading}
use Rattle.call_parts.specs.Calls.{Called, CalledAs}
use Rattle.plan_calls.specs.Calling.{file_refused}
use Rattle.call_rungs.specs.Replies.{Answered}

-- an error, named
pub as_error : (r : Called) (s t : Stop) → r ≡ Err s → s ≡ t → r ≡ Err t
as_error r s t e f = subst (λ (y : Stop). r ≡ Err y) f e

module _ (R : Result) (out : List ℕ) where
  pub no_room_same : (r : Called) (out' : List ℕ) (a : ℕ) → r ≡ Err NoRoom → CalledAs r R out out' a → out' ≡ out
  no_room_same r out' a e x = (subst (λ y. CalledAs y R out out' a) e x).0

  -- memory that may be too small
  not_full : (r : Called) (out' : List ℕ) (a : ℕ) → CalledAs r R out out' a → CalledAs r R out out' 1
  not_full (Ok b) out' a x = x
  not_full (Err (Refused e)) out' a x = x
  not_full (Err NoRoom) out' a x = (x.0, omega arith)

  -- what a rung answered and left, where the rungs meet
  pub met : (r q : Called) (out' x : List ℕ) (a : ℕ) → out' ≡ x → r ≡ q → CalledAs q R out x a
      → CalledAs r R out out' 1 × (length x ≡ length out → length out' ≡ length out)
  met r q out' x a e f y = (subst (λ z. CalledAs z R out out' 1) (sym f) (subst (λ z. CalledAs q R out z 1) (sym e) (not_full q x a y)), λ l. ap length e ∙ l)

-- a file of no block, or of more than eighteen, is refused
or_so : (a b : Bool) → (a || b) ≡ true → (a ≡ false → b ≡ true)
or_so true b e f = absurd (let z : ◌≡◌ {A = ℕ} 0 1 = cc in omega arith)
or_so false b e f = e

or_left : (a b : Bool) → (a || b) ≡ false → (a ≡ false) × (b ≡ false)
or_left true b e = absurd (let z : ◌≡◌ {A = ℕ} 0 1 = cc in omega arith)
or_left false b e = (refl, e)

pub inside : (n : ℕ) → (eqb n 0 || ltb 18 n) ≡ false → (1 ≤ n) × (n ≤ 18)
inside n e = let x = or_left (eqb n 0) (ltb 18 n) e in let y = eqb-false n 0 x.0 in let z = ltb-false 18 n x.1 in (omega arith, omega arith)

pub outside : (g : Plan → Result) (s out : List ℕ) (n : ℕ) → n ≡ number_of (refusal_of s) → (eqb (block_count s) 0 || ltb 18 (block_count s)) ≡ true
    → Answered (record { number = n; passes = false }) (after_reading g (reading s)) out out
outside g s out n e h = go (refusal_of s) refl
  where
    clash : (1 ≤ block_count s) × (block_count s ≤ 18) → ⊥
    clash b = go (eqb (block_count s) 0) refl
      where
        go : (x : Bool) → eqb (block_count s) 0 ≡ x → ⊥
        go true q = let y = eqb-true (block_count s) 0 q in let z = b.0 in omega arith
        go false q = let y = ltb-true 18 (block_count s) (or_so (eqb (block_count s) 0) (ltb 18 (block_count s)) h q) in let z = b.1 in omega arith

    go : (v : Verdict) → refusal_of s ≡ v → Answered (record { number = n; passes = false }) (after_reading g (reading s)) out out
    go (Ok x) q = absurd (clash (few_blocks s q))
    go (Err x) q = let z = file_refused g s out x q 0 in (e ∙ ap number_of (q ∙ z.0), z.1, z.2)
