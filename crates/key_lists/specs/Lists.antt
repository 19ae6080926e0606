-- Lists in a word: the one lemma over their length that every loop shares, one key more, and lists that a loop builds. Assumes nothing.
use Rattle.std.specs.Prelude.{◌≡◌, refl, List, [], ◌∷◌, ◌++◌, map, ℕ, zero, suc, ◌+◌, ◌-◌, ◌*◌, ◌/◌, ◌%◌, ◌^◌, ◌≤◌, ◌<◌, eqb, length, take, get_or}
use Rattle.std.proofs.Common.{ap, ap₂, sym, ◌∙◌, subst, append_assoc, append-nil, arith, add-one, mul_left_comm, pow-add, pow_mono, shl_exact, shl_lt, Fits, ne_eqb}
use Rattle.std.specs.Int.Bits.{bit_and}
use Rattle.std.proofs.lemmas.Nat.{and_mask}
use Rattle.std.specs.Int.{w64}
use Rattle.row_order.specs.Iso.{Key}
use Rattle.row_order.specs.Packed.{key_of}
use Rattle.row_order.specs.Lists.{All, all_cons}
use Rattle.semantics.specs.Facts.{is_nil}
use Rattle.key_lists.specs.declared.Keys.{Keys}
use Rattle.key_lists.specs.Keys.{keys_in, keys_of, Keyed, Tight, Longer}
use Rattle.key_lists.specs.Packing.{seven_bits, same_low}

-- ---- the first key and the rest

pub next : (n w : ℕ) → 0 < n → keys_in n w ≡ key_of w ∷ keys_in (n - 1) (w / 256)
next zero w h = absurd (omega arith)
next (suc n) w h = ap (λ m. key_of w ∷ keys_in m (w / 256)) (let e : n ≡ suc n - 1 = omega arith in e)

pub end : (n w : ℕ) → n ≤ 0 → keys_in n w ≡ []
end zero w h = refl
end (suc n) w h = absurd (omega arith)

pub length_keys : (n w : ℕ) → length (keys_in n w) ≡ n
length_keys zero w = refl
length_keys (suc n) w = ap suc (length_keys n (w / 256))

pub take_keys : (n m w : ℕ) → n ≤ m → keys_in n w ≡ take n (keys_in m w)
take_keys zero m w h = refl
take_keys (suc n) zero w h = absurd (omega arith)
take_keys (suc n) (suc m) w h = ap (λ l. key_of w ∷ l) (take_keys n m (w / 256) (omega arith))

pub no_keys_is : (n w : ℕ) → is_nil (keys_in n w) ≡ eqb n 0
no_keys_is zero w = refl
no_keys_is (suc n) w = sym (ne_eqb (suc n) 0 (λ e. absurd (omega arith)))

-- the first key has what all keys have, and so have the rest
pub first_of : (P : Key → Type 0) {k : Key} {l m : List Key} → l ≡ k ∷ m → All P l → P k
first_of P {k} {l} {m} e a = go (subst (All P) e a)
  where
    go : All P (k ∷ m) → P k
    go (all_cons p ps) = p

pub rest_of : (P : Key → Type 0) {k : Key} {l m : List Key} → l ≡ k ∷ m → All P l → All P m
rest_of P {k} {l} {m} e a = go (subst (All P) e a)
  where
    go : All P (k ∷ m) → All P m
    go (all_cons p ps) = ps

-- ---- one key more

module _ (m x : ℕ) where
  byte_more : 2 ^ (8 * suc m) ≡ 256 * 2 ^ (8 * m)
  byte_more = ap (λ k. 2 ^ k) (let e : 8 * suc m ≡ 8 + 8 * m = omega arith in e) ∙ pow-add 2 8 (8 * m)

  scaled : x * 2 ^ (8 * suc m) ≡ 256 * (x * 2 ^ (8 * m))
  scaled = ap (λ p. x * p) byte_more ∙ mul_left_comm x 256 (2 ^ (8 * m))

behind : (n w x : ℕ) → w < 2 ^ (8 * n) → keys_in (suc n) (w + x * 2 ^ (8 * n)) ≡ keys_in n w ++ (key_of x ∷ [])
behind zero w x h = ap (λ k. key_of k ∷ []) (let e : w + x * 1 ≡ x = omega arith in e)
behind (suc m) w x h =
    let q : ℕ = x * 2 ^ (8 * m) in
    let e : w + x * 2 ^ (8 * suc m) ≡ w + 256 * q = ap (λ z. w + z) (scaled m x) in
    let l : w < 256 * 2 ^ (8 * m) = subst (λ p. w < p) (byte_more m x) h in
    let a : (w + 256 * q) % 256 ≡ w % 256 = omega arith in
    let d : (w + 256 * q) / 256 ≡ w / 256 + q = omega arith in
    ap (keys_in (suc (suc m))) e ∙ ap₂ (λ k r. k ∷ keys_in (suc m) r) (same_low (w + 256 * q) w a) d
    ∙ ap (λ r. key_of w ∷ r) (behind m (w / 256) x (omega arith))

-- what the code adds, and that there is room for it
pub placed_is : (n x : ℕ) → n < 8 → bit_and x 127 * 2 ^ (8 * n) % 2 ^ 64 ≡ (x % 128) * 2 ^ (8 * n)
placed_is n x h = ap (λ z. z * 2 ^ (8 * n) % 2 ^ 64) (and_mask x 7) ∙ shl_exact 7 (8 * n) 64 (omega arith) (omega arith)

tighter : (n w x : ℕ) → w < 2 ^ (8 * n) → w + (x % 128) * 2 ^ (8 * n) < 2 ^ (8 * suc n)
tighter n w x h =
    let l : x % 128 < 2 ^ 7 = omega arith in
    let a : (x % 128) * 2 ^ (8 * n) < 2 ^ (7 + 8 * n) = shl_lt 7 (8 * n) l in
    let b : 2 ^ (7 + 8 * n) ≡ 128 * 2 ^ (8 * n) = pow-add 2 7 (8 * n) in
    let d = byte_more n x in
    omega arith

pub fits : (n w x y : ℕ) → w < 2 ^ (8 * n) → n < 8 → y ≡ (x % 128) * 2 ^ (8 * n) → Fits w64 (w + y)
fits n w x y h l e =
    let a : 2 ^ (8 * suc n) ≤ 2 ^ 64 = pow_mono {i = 8 * suc n} {j = 64} (omega arith) in
    let b = tighter n w x h in
    record { fits = rw e (omega arith) }

pub longer : (k : Keys) (key : ℕ) (r : Keys) → Tight k → k.len < 8 → r.word ≡ k.word + (key % 128) * 2 ^ (8 * k.len) → r.len ≡ k.len + 1
    → Longer k key r
longer k key r t l e d =
    let n : r.len ≡ suc k.len = d ∙ add-one k.len in
    record {
      is = ap₂ keys_in n e ∙ behind k.len k.word (key % 128) t ∙ ap (λ x. keys_of k ++ (x ∷ [])) (seven_bits key);
      len = n;
      tight = subst (λ m. r.word < 2 ^ (8 * m)) (sym n) (subst (λ w. w < 2 ^ (8 * suc k.len)) (sym e) (tighter k.len k.word key t));
    }

-- ---- a row of numbers as a word

abbrev word_of : List ℕ → ℕ
word_of [] = 0
word_of (k ∷ l) = k % 128 + 256 * word_of l

word_keys : (n : ℕ) (l : List ℕ) → n ≤ length l → keys_in n (word_of l) ≡ map key_of (take n l)
word_keys zero l h = refl
word_keys (suc n) [] h = absurd (omega arith)
word_keys (suc n) (k ∷ l) h =
    let a : (k % 128 + 256 * word_of l) % 256 ≡ k % 128 % 256 = omega arith in
    let d : (k % 128 + 256 * word_of l) / 256 ≡ word_of l = omega arith in
    ap₂ (λ x r. x ∷ keys_in n r) (same_low (k % 128 + 256 * word_of l) (k % 128) a ∙ seven_bits k) d ∙ ap (λ r. key_of k ∷ r) (word_keys n l (omega arith))

-- the sum that the code makes
pub row_keys : (l : List ℕ) (n w : ℕ) → length l ≡ 8 → n ≤ 8
    → w ≡ ((get_or l 0 0 % 128) * 1 + (get_or l 1 0 % 128) * 256 + (get_or l 2 0 % 128) * 65536 + (get_or l 3 0 % 128) * 16777216)
    + ((get_or l 4 0 % 128) * 4294967296 + (get_or l 5 0 % 128) * 1099511627776 + (get_or l 6 0 % 128) * 281474976710656 + (get_or l 7 0 % 128) * 72057594037927936)
    → keys_in n w ≡ map key_of (take n l)
row_keys l n w h m e = ap (keys_in n) (e ∙ sum l h) ∙ word_keys n l (omega arith)
  where
    sum : (l : List ℕ) → length l ≡ 8
        → ((get_or l 0 0 % 128) * 1 + (get_or l 1 0 % 128) * 256 + (get_or l 2 0 % 128) * 65536 + (get_or l 3 0 % 128) * 16777216)
        + ((get_or l 4 0 % 128) * 4294967296 + (get_or l 5 0 % 128) * 1099511627776 + (get_or l 6 0 % 128) * 281474976710656 + (get_or l 7 0 % 128)
        * 72057594037927936)
        ≡ word_of l
    sum (a ∷ b ∷ c ∷ d ∷ e ∷ f ∷ g ∷ h ∷ []) p = omega arith
    sum [] p = absurd (omega arith)
    sum (a ∷ []) p = absurd (omega arith)
    sum (a ∷ b ∷ []) p = absurd (omega arith)
    sum (a ∷ b ∷ c ∷ []) p = absurd (omega arith)
    sum (a ∷ b ∷ c ∷ d ∷ []) p = absurd (omega arith)
    sum (a ∷ b ∷ c ∷ d ∷ e ∷ []) p = absurd (omega arith)
    sum (a ∷ b ∷ c ∷ d ∷ e ∷ f ∷ []) p = absurd (omega arith)
    sum (a ∷ b ∷ c ∷ d ∷ e ∷ f ∷ g ∷ []) p = absurd (omega arith)
    sum (a ∷ b ∷ c ∷ d ∷ e ∷ f ∷ g ∷ h ∷ i ∷ l) p = absurd (omega arith)

-- ---- the list so far, and what is still to come, are the whole list

pub record Building (whole : List Key) (k : Keys) (more : List Key) : Type 0 where
  pub tight : Tight k
  pub is : keys_of k ++ more ≡ whole

pub begun : (whole : List Key) (k : Keys) → Keyed [] k → Tight k → Building whole k whole
begun whole k h t = record { tight = t; is = ap (λ l. l ++ whole) h.is }

pub no_length : (k : Keys) → Keyed [] k → k.len ≡ 0
no_length k h = sym (length_keys k.len k.word) ∙ ap length h.is

pub rebuilt : {whole : List Key} {k : Keys} {l m : List Key} → l ≡ m → Building whole k l → Building whole k m
rebuilt {k = k} e b = record { tight = b.tight; is = ap (λ l. keys_of k ++ l) (sym e) ∙ b.is }

pub grown : (whole : List Key) (k : Keys) (key : ℕ) (r : Keys) (x : Key) (more : List Key) → Building whole k (x ∷ more) → Longer k key r → key_of key ≡ x
    → Building whole r more
grown whole k key r x more b l e =
    record {
      tight = l.tight;
      is = ap (λ z. z ++ more) (l.is ∙ ap (λ y. keys_of k ++ (y ∷ [])) e) ∙ append_assoc (keys_of k) (x ∷ []) more ∙ b.is;
    }

pub built : (whole : List Key) (k : Keys) → k.len ≤ 8 → Building whole k [] → Keyed whole k
built whole k h b = record { is = sym (append-nil (keys_of k)) ∙ b.is; few = h }

-- the same for a list that a function maps: nothing of it yet, one key more, all of it
pub mapped_none : (f : Key → Key) (l m : List Key) (k : Keys) → m ≡ l → Keyed [] k → Tight k → Building (map f l) k (map f m)
mapped_none f l m k e h t = rebuilt (ap (map f) (sym e)) (begun (map f l) k h t)

pub mapped_more : (f : Key → Key) {whole l m : List Key} {k r : Keys} (w x : ℕ) → l ≡ key_of w ∷ m → Longer k x r → key_of x ≡ f (key_of w)
    → Building whole k (map f l) → Building whole r (map f m)
mapped_more f {whole} {l} {m} {k} {r} w x e g y b = grown whole k x r (f (key_of w)) (map f m) (rebuilt (ap (map f) e) b) g y

pub mapped_all : (f : Key → Key) {whole l : List Key} {k : Keys} → l ≡ [] → k.len ≤ 8 → Building whole k (map f l) → Keyed whole k
mapped_all f {whole} {l} {k} e h b = built whole k h (rebuilt (ap (map f) e) b)
