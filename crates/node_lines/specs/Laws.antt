-- Text put into a buffer word after word; digits; the keys of a record one after another. Assumes nothing.
use Rattle.std.specs.Prelude.{◌≡◌, refl, Bool, true, false, cond, List, [], ◌∷◌, ◌++◌, ℕ, zero, suc, ◌+◌, ◌*◌, ◌-◌, ◌/◌, ◌%◌, ◌^◌, ◌≤◌, ◌<◌, min, ltb, eqb, length, get_or, take, drop, Option, None}
use Rattle.std.proofs.Common.{sym, ap, ap₂, ◌∙◌, append_assoc, append-nil, arith, add-one, pow-suc, length-append, take-append-drop, take_at, drop_at, drop-drop, length-take-le, lt-ltb, le-ltb}
use Rattle.std.proofs.Math.Nat.{one-le-pow, pow-le-pow_right}
use Rattle.std.proofs.Math.Decide.{dec_lt}
use Rattle.std.specs.Int.Bits.{bit_and}
use Rattle.std.proofs.lemmas.Nat.{and_mask}
use Rattle.io.specs.Digits.{hex_digit_ascii, last_digits, IsDigitCount}
use Rattle.scan.specs.Bytes.{part, le32}
use Rattle.scan.specs.Parts.{splice}
use Rattle.row_order.specs.Iso.{Key}
use Rattle.plan.specs.Numbers.{kind_of}
use Rattle.plan.specs.declared.Kind.{Kind}
use Rattle.plan_format.specs.declared.Fields.{Fields}
use Rattle.plan_format.specs.Fields.{fields_of}
use Rattle.plan_codec.specs.Decode.{fetch_of, key_of_bytes, keys_of}
use Rattle.facts.specs.declared.Facts.{Facts as Coded}
use Rattle.fact_slots.specs.Slots.{loaded}
use Rattle.node_lines.specs.Lines.{ascii, space, comma, digits_in, decimal, kind_name, fetch_text, key_text, further, keys_text, line_of, fetch_in, slot_line, Put}

-- ---- text after text

-- a part of the buffer that was lent to a copy of t
pub put_part : (b t r : List ℕ) (at : ℕ) → at + length t ≤ length b → r ≡ t → Put (length t) t at b (at + length t) (splice b at (at + length t - at) r)
put_part b t r at h e =
    let q : at + length t - at ≡ length t = omega arith in
    record {
      few = omega arith;
      ends = refl;
      is = ap₂ (λ (x : List ℕ) (k : ℕ). take at b ++ (x ++ drop k (drop at b))) e q
          ∙ ap (λ (x : List ℕ). take at b ++ (t ++ x)) (drop-drop (length t) at b);
    }

pub put_most : {m at e : ℕ} {t b out : List ℕ} (n : ℕ) → m ≤ n → Put m t at b e out → Put n t at b e out
put_most n h p = let f = p.few in record { few = omega arith; ends = p.ends; is = p.is }

-- the same text by another name
pub put_as : {m at e : ℕ} {t u b out : List ℕ} → t ≡ u → Put m t at b e out → Put m u at b e out
put_as {m} {at} {e} {t} {u} {b} {out} q p = rw q at p

pub put_put : {m n a c e : ℕ} {t u x y z : List ℕ} → a + m ≤ length x → Put m t a x c y → Put n u c y e z → Put (m + n) (t ++ u) a x e z
put_put {m} {n} {a} {c} {e} {t} {u} {x} {y} {z} h p q =
    let f = p.few in let g = q.few in let i = p.ends in let j = q.ends in let k = length-append t u in
    let l = length-take-le a x (omega arith) in
    let s : length (take a x ++ t) ≡ c = length-append (take a x) t ∙ omega arith in
    let v : y ≡ (take a x ++ t) ++ drop c x = p.is ∙ sym (append_assoc (take a x) t (drop c x)) in
    let front : take c y ≡ take a x ++ t = ap (take c) v ∙ take_at (take a x ++ t) (drop c x) c s in
    let back : drop e y ≡ drop e x =
    ap (λ (k : ℕ). drop k y) j ∙ sym (drop-drop (length u) c y) ∙ ap (drop (length u)) (ap (drop c) v ∙ drop_at (take a x ++ t) (drop c x) c s)
    ∙ drop-drop (length u) c x ∙ ap (λ (k : ℕ). drop k x) (sym j) in
    record {
      few = omega arith;
      ends = omega arith;
      is = q.is ∙ ap₂ (λ (v w : List ℕ). v ++ (u ++ w)) front back ∙ append_assoc (take a x) t (u ++ drop e x)
          ∙ ap (λ (v : List ℕ). take a x ++ v) (sym (append_assoc t u (drop e x)));
    }

pub put_none : (b : List ℕ) (at : ℕ) → Put 0 [] at b at b
put_none b at = record { few = omega arith; ends = omega arith; is = sym (take-append-drop at b) }

-- ---- a fetch, and a key's letters

pub fetch_known : (f : Fields) (k n : ℕ) (x : Option ℕ) → f ≡ fields_of k → f.fetch ≡ true → x ≡ fetch_of n → x ≡ fetch_in k n
fetch_known f k n x e h i = i ∙ sym (ap (λ (b : Bool). cond b (fetch_of n) None) (ap (λ (y : Fields). y.fetch) (sym e) ∙ h))

pub fetch_unknown : (f : Fields) (k n : ℕ) → f ≡ fields_of k → f.fetch ≡ false → None ≡ fetch_in k n
fetch_unknown f k n e h = sym (ap (λ (b : Bool). cond b (fetch_of n) None) (ap (λ (y : Fields). y.fetch) (sym e) ∙ h))

pub key_text_lem : (c o x y : ℕ) → x ≡ cond (eqb (bit_and o 1) 1) 100 97 → y ≡ cond (eqb (bit_and (o / 2) 1) 1) 102 108
    → decimal c ++ (x ∷ y ∷ []) ≡ key_text (key_of_bytes c o)
key_text_lem c o x y p q =
    let z : o ≡ o / 1 = omega arith in
    ap₂ (λ (a b : ℕ). decimal c ++ (a ∷ b ∷ []))
    (p ∙ ap (λ (k : ℕ). cond (eqb k 1) 100 97) (and_mask o 1 ∙ ap (λ (k : ℕ). k % 2) z))
    (q ∙ ap (λ (k : ℕ). cond (eqb k 1) 102 108) (and_mask (o / 2) 1))

-- ---- digits

pub digits_few : (k n : ℕ) → length (digits_in k n) ≤ k
unfolding digits_in
digits_few zero n = omega arith
digits_few (suc k) n = go (ltb n 10) (digits_few k (n / 10))
  where
    go : (b : Bool) → length (digits_in k (n / 10)) ≤ k → length (cond b ((48 + n) ∷ []) (digits_in k (n / 10) ++ ((48 + n % 10) ∷ []))) ≤ suc k
    go true h = omega arith
    go false h = let e = length-append (digits_in k (n / 10)) ((48 + n % 10) ∷ []) in omega arith

digit : (n : ℕ) → n < 10 → hex_digit_ascii n ≡ 48 + n
digit n h = ap (λ b. cond b (48 + n) (87 + n)) (lt-ltb n 10 h)

-- the fewest digits that hold n are its digits
pub digits_in_lem : (k r n : ℕ) → 1 ≤ r → r ≤ k → n < 10 ^ r → (1 < r → 10 ^ (r - 1) ≤ n) → last_digits 10 r n ≡ digits_in k n
unfolding digits_in
digits_in_lem zero r n a b c d = absurd (omega arith)
digits_in_lem (suc k) zero n a b c d = absurd (omega arith)
digits_in_lem (suc k) (suc zero) n a b c d =
    let e : n % 10 ≡ n = omega arith in
    ap (λ (x : ℕ). hex_digit_ascii x ∷ []) e ∙ ap (λ (x : ℕ). x ∷ []) (digit n c)
    ∙ sym (ap (λ b. cond b ((48 + n) ∷ []) (digits_in k (n / 10) ++ ((48 + n % 10) ∷ []))) (lt-ltb n 10 c))
digits_in_lem (suc k) (suc (suc r)) n a b c d =
    let p : 10 ^ suc (suc r) ≡ 10 ^ suc r * 10 = pow-suc 10 (suc r) in
    let q : 10 ^ suc r ≡ 10 ^ r * 10 = pow-suc 10 r in
    let s : suc (suc r) - 1 ≡ suc r = omega arith in
    let t : suc r - 1 ≡ r = omega arith in
    let low : 10 ^ suc r ≤ n = rw s at (d (omega arith)) in
    let one : 1 ≤ 10 ^ r = one-le-pow r 10 (omega arith) in
    let ih : last_digits 10 (suc r) (n / 10) ≡ digits_in k (n / 10) = digits_in_lem k (suc r) (n / 10) (omega arith) (omega arith) (omega arith)
    (λ _. rw t (omega arith)) in
    ap₂ (λ (x : List ℕ) (y : ℕ). x ++ (y ∷ [])) ih (digit (n % 10) (omega arith))
    ∙ sym (ap (λ b. cond b ((48 + n) ∷ []) (digits_in k (n / 10) ++ ((48 + n % 10) ∷ []))) (le-ltb n 10 (omega arith)))

-- 64 bits have no more than twenty digits
pub twenty : (n k : ℕ) → n < 2 ^ 64 → IsDigitCount 10 1 n k → k ≤ 20
twenty n k h f = go (dec_lt 20 k)
  where
    go : Dec (20 < k) → k ≤ 20
    go (no l) = omega arith
    go (yes l) = let p : 10 ^ 20 ≤ 10 ^ (k - 1) = pow-le-pow_right (omega arith) {i = 20} {j = k - 1} (omega arith) in let q = f.2 (omega arith) in absurd (omega arith)

-- what io::decimal leaves in its array, put into the buffer
pub put_decimal : {at e : ℕ} {b out : List ℕ} (n k : ℕ) (d : List ℕ) → k ≤ 20 → IsDigitCount 10 1 n k → take k d ≡ last_digits 10 k n
    → Put (length (take k d)) (take k d) at b e out → Put 20 (decimal n) at b e out
put_decimal {at} {e} {b} {out} n k d h f g p =
    let t : take k d ≡ decimal n = g ∙ digits_in_lem 20 k n f.0 h f.1 f.2 in
    let q : Put (length (take k d)) (decimal n) at b e out = put_as t p in
    record { few = digits_few 20 n; ends = q.ends; is = q.is }

-- ---- keys

-- past the bytes there are no more keys
keys_all : (m n : ℕ) (l : List ℕ) → length l ≤ 2 * m → m ≤ n → keys_of n l ≡ keys_of m l
keys_all zero zero l h g = refl
keys_all zero (suc n) [] h g = refl
keys_all zero (suc n) (c ∷ l) h g = absurd (omega arith)
keys_all (suc m) zero l h g = absurd (omega arith)
keys_all (suc m) (suc n) [] h g = refl
keys_all (suc m) (suc n) (c ∷ []) h g = refl
keys_all (suc m) (suc n) (c ∷ o ∷ l) h g = ap (λ ks. key_of_bytes c o ∷ ks) (keys_all m n l (omega arith) (omega arith))

-- the key at place i
abbrev pub key_at : List ℕ → ℕ → Key
key_at l i = key_of_bytes (get_or l (2 * i) 0) (get_or l (2 * i + 1) 0)

key_later : (c o : ℕ) (l : List ℕ) (i : ℕ) → key_at (c ∷ o ∷ l) (suc i) ≡ key_at l i
key_later c o l i =
    let p : 2 * suc i ≡ suc (suc (2 * i)) = omega arith in let q : 2 * suc i + 1 ≡ suc (suc (2 * i + 1)) = omega arith in
    ap₂ key_of_bytes (ap (λ (k : ℕ). get_or (c ∷ o ∷ l) k 0) p) (ap (λ (k : ℕ). get_or (c ∷ o ∷ l) k 0) q)

-- one key more is the last
keys_more : (i : ℕ) (l : List ℕ) → 2 * i + 1 < length l → keys_of (suc i) l ≡ keys_of i l ++ (key_at l i ∷ [])
keys_more i [] h = absurd (omega arith)
keys_more i (c ∷ []) h = absurd (omega arith)
keys_more zero (c ∷ o ∷ l) h = refl
keys_more (suc i) (c ∷ o ∷ l) h =
    ap (λ ks. key_of_bytes c o ∷ ks) (keys_more i l (omega arith) ∙ ap (λ k. keys_of i l ++ (k ∷ [])) (sym (key_later c o l i)))

further_more : (ks : List Key) (k : Key) → further (ks ++ (k ∷ [])) ≡ further ks ++ (comma ++ key_text k)
unfolding further
further_more [] k = append-nil (comma ++ key_text k)
further_more (x ∷ ks) k = ap (λ (t : List ℕ). (comma ++ key_text x) ++ t) (further_more ks k) ∙ sym (append_assoc (comma ++ key_text x) (further ks) (comma ++ key_text k))

-- the text of the keys behind the first, up to place i
abbrev pub behind : List ℕ → ℕ → List ℕ
behind l i = further (drop 1 (keys_of i l))

pub behind-one : (l : List ℕ) → behind l 1 ≡ []
unfolding further
behind-one [] = refl
behind-one (c ∷ []) = refl
behind-one (c ∷ o ∷ l) = refl

pub behind_more : (i : ℕ) (l : List ℕ) → 1 ≤ i → 2 * i + 1 < length l → behind l (i + 1) ≡ behind l i ++ (comma ++ key_text (key_at l i))
behind_more zero l g h = absurd (omega arith)
behind_more (suc i) [] g h = absurd (omega arith)
behind_more (suc i) (c ∷ []) g h = absurd (omega arith)
behind_more (suc i) (c ∷ o ∷ l) g h =
    rw (add-one (suc i)) (ap further (keys_more i l (omega arith)) ∙ further_more (keys_of i l) (key_at l i)
    ∙ ap (λ k. further (keys_of i l) ++ (comma ++ key_text k)) (sym (key_later c o l i)))

-- the first key, and those behind it
keys_first : (n : ℕ) (l : List ℕ) → 1 ≤ n → 2 ≤ length l → key_text (key_at l 0) ++ behind l n ≡ keys_text (keys_of n l)
keys_first zero l g h = absurd (omega arith)
keys_first (suc n) [] g h = absurd (omega arith)
keys_first (suc n) (c ∷ []) g h = absurd (omega arith)
keys_first (suc n) (c ∷ o ∷ l) g h = refl

-- sixteen bytes hold no more than eight
keys_eight : (n : ℕ) (l : List ℕ) → length l ≡ 16 → keys_of (min n 8) l ≡ keys_of n l
keys_eight n l h = go (dec_lt n 8)
  where
    go : Dec (n < 8) → keys_of (min n 8) l ≡ keys_of n l
    go (yes g) = let e : min n 8 ≡ n = omega arith in ap (λ (k : ℕ). keys_of k l) e
    go (no g) = let e : min n 8 ≡ 8 = omega arith in ap (λ (k : ℕ). keys_of k l) e ∙ sym (keys_all 8 n l (omega arith) (omega arith))

pub keys_text_lem : (n r : ℕ) (l : List ℕ) → length l ≡ 16 → 1 ≤ n → r ≡ min n 8 → key_text (key_at l 0) ++ behind l r ≡ keys_text (keys_of n l)
keys_text_lem n r l h g e = keys_first r l (omega arith) (omega arith) ∙ ap keys_text (ap (λ (k : ℕ). keys_of k l) e ∙ keys_eight n l h)

-- ---- the line, in two parts

abbrev pub place_text : ℕ → ℕ → Kind → List ℕ
place_text node depth kind = (decimal node ++ space) ++ ((decimal depth ++ space) ++ (kind_name kind ++ space))

abbrev pub shape_text : ℕ → Option ℕ → List Key → List ℕ
shape_text streams fetch keys = (decimal streams ++ space) ++ (fetch_text fetch ++ (space ++ (keys_text keys ++ ascii "\n")))

pub line_parts : (node depth streams : ℕ) (kind : Kind) (fetch : Option ℕ) (keys : List Key)
    → place_text node depth kind ++ shape_text streams fetch keys ≡ line_of node depth kind streams fetch keys
line_parts node depth streams kind fetch keys = simp append_assoc

-- what the code reads of a slot
pub line_slot : (s : List ℕ) (node depth : ℕ) (k : Kind) (x : Coded) (f : Option ℕ) → k ≡ kind_of (get_or s 0 0) → x ≡ loaded (part 80 112 s)
    → f ≡ fetch_in (get_or s 0 0) (le32 s 4) → place_text node depth k ++ shape_text x.streams f (keys_of (get_or s 12 0) (part 16 16 s)) ≡ slot_line s node depth
unfolding slot_line
line_slot s node depth k x f p q r =
    line_parts node depth x.streams k f (keys_of (get_or s 12 0) (part 16 16 s))
    ∙ ap (λ k. line_of node depth k x.streams f (keys_of (get_or s 12 0) (part 16 16 s))) p
    ∙ ap₂ (λ (n : ℕ) f. line_of node depth (kind_of (get_or s 0 0)) n f (keys_of (get_or s 12 0) (part 16 16 s))) (ap (λ (y : Coded). y.streams) q) r
