-- A block is written part after part, and the file block after block.
use Rattle.std.specs.Prelude.{◌≡◌, ℕ, ◌+◌, ◌*◌, ◌-◌, ◌/◌, ◌≤◌, ◌<◌, take, drop, replicate, ltb, true, false}
use Rattle.std.proofs.Math.Path.{refl, ap, ap₂}
use Rattle.std.proofs.Common.{sym, ◌∙◌, arith, length-drop, take-append-drop, lt-ltb, le-ltb, length-take-le, drop-drop, add-one}
use mathlib.Core.List.{List, ◌++◌}
use Rattle.std.proofs.Math.ListN.{length}
use Rattle.std.proofs.lemmas.List.{length-replicate}
use Rattle.scan.specs.Bytes.{total}
use Rattle.plan_format.specs.Written.{length_block, length_seven}
use Rattle.plan_format.specs.Writing.{header, four_bytes, body, block_of, seven_at, blocks_to, blocks_for, file_of_bytes, written}
use Rattle.scan.specs.Parts.{splice, splice-drop, Front, front-none, front_more, front_all}

-- ---- a block, part after part

abbrev pub three : List ℕ → ℕ → List ℕ → List ℕ → List ℕ → List ℕ
three b l H R Z = splice (splice (splice b 0 8 H) 8 (8 + l - 8) R) (8 + l) (508 - (8 + l)) Z

module _ (b rs H R Z : List ℕ) (n k : ℕ) (lb : length b ≡ 512) (lr : length rs ≤ 448) (eH : H ≡ header k n (length rs / 64)) (eR : R ≡ rs)
    (eZ : Z ≡ replicate (length (take (508 - (8 + length rs)) (drop (8 + length rs) (splice (splice b 0 8 H) 8 (8 + length rs - 8) R)))) 0) where
  f2 : Front 512 (8 + length rs) (H ++ R) (splice (splice b 0 8 H) 8 (8 + length rs - 8) R)
  f2 = front_more R 8 (8 + length rs - 8) (8 + length rs) (omega arith) (omega arith) (ap length eR ∙ omega arith)
      (front_more H 0 8 8 refl (omega arith) (ap length eH) (front-none 512 b lb))

  gap : length (take (508 - (8 + length rs)) (drop (8 + length rs) (splice (splice b 0 8 H) 8 (8 + length rs - 8) R))) ≡ 508 - (8 + length rs)
  gap =
      let c : List ℕ = splice (splice b 0 8 H) 8 (8 + length rs - 8) R in
      let x : length c ≡ 512 = f2.long in
      length-take-le (508 - (8 + length rs)) (drop (8 + length rs) c) (let y = length-drop (8 + length rs) c in omega arith)

  is_z : Z ≡ replicate (500 - length rs) 0
  is_z = let q : 508 - (8 + length rs) ≡ 500 - length rs = omega arith in eZ ∙ ap (λ (x : ℕ). replicate x 0) (gap ∙ q)

  l_z : length Z ≡ 508 - (8 + length rs)
  l_z = ap length is_z ∙ length-replicate (500 - length rs) 0 ∙ omega arith

  pub f3 : Front 512 508 ((H ++ R) ++ Z) (three b (length rs) H R Z)
  f3 = front_more Z (8 + length rs) (508 - (8 + length rs)) 508 (omega arith) (omega arith) l_z f2

  is_body : ((H ++ R) ++ Z) ≡ body n k rs
  unfolding body
  is_body = ap₂ ◌++◌ (ap₂ ◌++◌ eH eR) is_z

  pub put_all : (S : List ℕ) (x : ℕ) → x ≡ total (take 508 (three b (length rs) H R Z)) → S ≡ four_bytes x → splice (three b (length rs) H R Z) 508 4 S
      ≡ block_of n k rs
  unfolding block_of
  put_all S x ex eS =
      front_all (front_more S 508 4 512 refl (omega arith) (ap length eS) f3)
      ∙ ap₂ ◌++◌ is_body (eS ∙ ap four_bytes (ex ∙ ap total (f3.is ∙ is_body)))

-- ---- the file, block after block

pub record Blocks (out₀ rs : List ℕ) (n k : ℕ) (out : List ℕ) : Type 0 where
  pub low : k ≤ n
  pub front : Front (length out₀) (k * 512) (blocks_to n rs k) out
  pub rest : drop (k * 512) out ≡ drop (k * 512) out₀

pub blocks_none : (out₀ rs : List ℕ) (n : ℕ) → Blocks out₀ rs n 0 out₀
unfolding blocks_to
blocks_none out₀ rs n = record { low = omega arith; front = front-none (length out₀) out₀ refl; rest = refl }

-- what the code lends: k * 512 to k * 512 + 512
pub blocks_more : (out₀ rs out p : List ℕ) (n k : ℕ) → n * 512 ≤ length out₀ → k < n → p ≡ block_of n k (seven_at rs k) → Blocks out₀ rs n k out
    → Blocks out₀ rs n (k + 1) (splice out (k * 512) (k * 512 + 512 - k * 512) p)
unfolding blocks_to
blocks_more out₀ rs out p n k h l e c =
    let q : k * 512 + 512 - k * 512 ≡ 512 = omega arith in
    let g : (k + 1) * 512 ≡ k * 512 + 512 = omega arith in
    let m : length p ≡ 512 = ap length e ∙ length_block n k (seven_at rs k) (length_seven rs k) in
    let o = c.front.long in
    let f : Front (length out₀) ((k + 1) * 512) (blocks_to n rs k ++ p) (splice out (k * 512) 512 p) = front_more p (k * 512) 512 ((k + 1) * 512)
    (omega arith) (omega arith) m c.front in
    let w : (blocks_to n rs k ++ p) ≡ blocks_to n rs (k + 1) = rw (add-one k) (ap (λ (x : List ℕ). blocks_to n rs k ++ x) e) in
    rw q (record {
      low = omega arith;
      front = rw w at f;
      rest = rw g (splice-drop out p (k * 512) 512 (omega arith) m ∙ sym (drop-drop 512 (k * 512) out) ∙ ap (drop 512) c.rest
          ∙ drop-drop 512 (k * 512) out₀);
    })

pub blocks_end : (out₀ rs out : List ℕ) (n k : ℕ) → n ≡ blocks_for (length rs) → n * 512 ≤ length out₀ → n ≤ k → Blocks out₀ rs n k out
    → out ≡ written rs out₀
unfolding written file_of_bytes
blocks_end out₀ rs out n k e h l c =
    let lo = c.low in
    let z : k ≡ n = omega arith in
    let t : ltb (length out₀) (blocks_for (length rs) * 512) ≡ false = le-ltb (length out₀) (blocks_for (length rs) * 512) (omega arith) in
    sym (take-append-drop (k * 512) out) ∙ ap₂ ◌++◌ c.front.is c.rest ∙ ap (λ (x : ℕ). blocks_to n rs x ++ drop (x * 512) out₀) z
    ∙ ap (λ (x : ℕ). blocks_to x rs x ++ drop (x * 512) out₀) e ∙ rw t

pub short_out : (out₀ rs : List ℕ) (n : ℕ) → n ≡ blocks_for (length rs) → length out₀ < n * 512 → out₀ ≡ written rs out₀
unfolding written
short_out out₀ rs n e h = let t : ltb (length out₀) (blocks_for (length rs) * 512) ≡ true = lt-ltb (length out₀) (blocks_for (length rs) * 512)
    (omega arith) in rw t
