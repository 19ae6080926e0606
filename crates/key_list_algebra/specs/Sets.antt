-- The set of a list's columns, collected from the last key on. Assumes nothing.
use Rattle.std.specs.Prelude.{◌≡◌, List, ◌∷◌, map, ℕ, ◌+◌, ◌-◌, ◌*◌, ◌/◌, ◌^◌, ◌≤◌, ◌<◌}
use Rattle.std.proofs.Common.{sym, ap, ap₂, ◌∙◌, arith, shr-shr}
use Rattle.std.specs.Int.Bits.{bit_or}
use Rattle.row_order.specs.Packed.{key_of}
use Rattle.semantics.specs.Properties.{column_set}
use Rattle.key_lists.specs.declared.Keys.{Keys}
use Rattle.key_lists.specs.Keys.{keys_in, keys_of}
use Rattle.key_lists.specs.Lists.{next, end}

-- the columns of n keys from key i on
abbrev pub columns_from : ℕ → ℕ → ℕ → List ℕ
columns_from n w i = map (λ k. k.col) (keys_in (n - i) (w / 2 ^ (8 * i)))

pub set_none : (n w : ℕ) → 0 ≡ column_set (columns_from n w n)
set_none n w = sym (ap (λ l. column_set (map (λ k. k.col) l)) (end (n - n) (w / 2 ^ (8 * n)) (omega arith)))

pub set_more : (n w i s c : ℕ) → 0 < i → i ≤ n → s ≡ column_set (columns_from n w i) → c ≡ (key_of (w / 2 ^ (8 * (i - 1)))).col → bit_or s (2 ^ c) ≡ column_set
    (columns_from n w (i - 1))
set_more n w i s c h l e d =
    let j : ℕ = i - 1 in
    let a : (n - j) - 1 ≡ n - i = omega arith in
    let b : w / 2 ^ (8 * j) / 256 ≡ w / 2 ^ (8 * i) = shr-shr w (8 * j) 8 ∙ ap (λ x. w / 2 ^ x) (let z : 8 * j + 8 ≡ 8 * i = omega arith in z) in
    ap₂ (λ x y. bit_or x (2 ^ y)) e d
    ∙ sym (ap (λ l. column_set (map (λ k. k.col) l)) (next (n - j) (w / 2 ^ (8 * j)) (omega arith) ∙ ap₂ (λ m v. key_of (w / 2 ^ (8 * j)) ∷ keys_in m v) a b))

pub set_all : (k : Keys) (s i : ℕ) → s ≡ column_set (columns_from k.len k.word i) → i ≤ 0 → s ≡ column_set (map (λ k. k.col) (keys_of k))
set_all k s i e h =
    let z : i ≡ 0 = omega arith in
    e ∙ ap (λ x. column_set (columns_from k.len k.word x)) z ∙ ap₂ (λ m v. column_set (map (λ k. k.col) (keys_in m v)))
    (let a : k.len - 0 ≡ k.len = omega arith in a) (let b : k.word / 1 ≡ k.word = omega arith in b)
