-- The output after an answer (02, P3; 01: "A refusal .. leaves tree and buffers alone", "bytes past the file stay").
-- Definitions: Answer, number, output (Answers).
use Rattle.std.specs.Prelude.{◌≡◌, refl, List, ℕ, length, take, drop}
use Rattle.std.proofs.Common.{take_at, drop_at}
use Rattle.stepping.specs.Answers.{Answer, refused, written, number, output}

-- Whatever number but 0 is answered, the output is as it was
pub left_alone : (a : Answer) (out : List ℕ) → (number a ≡ 0 → ⊥) → output a out ≡ out
left_alone (refused n) out h = refl
left_alone (written w) out h = absurd (h refl)

-- What is written stands first, and the bytes past it are the lent output's
pub written_first : (w out : List ℕ) → take (length w) (output (written w) out) ≡ w
written_first w out = take_at w (drop (length w) out) (length w) refl

pub written_past : (w out : List ℕ) → drop (length w) (output (written w) out) ≡ drop (length w) out
written_past w out = drop_at w (drop (length w) out) (length w) refl
