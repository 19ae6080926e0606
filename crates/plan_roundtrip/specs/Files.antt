-- The accepted files are exactly the files of fine lists of records, and each such list has one file.
use Rattle.std.specs.Prelude.{◌≡◌, Bool, true, cond, ltb, eqb, length, get_or, take, drop, Err}
use Rattle.std.proofs.Math.Path.{refl, sym, ap, ap₂}
use Rattle.std.proofs.Common.{◌∙◌, length-append, length-take, length-drop, take-add, take_at, drop-drop, eqb-true, eq-eqb, ltb-true, lt-ltb}
use Rattle.std.proofs.Math.Bool.{◌&&◌}
use mathlib.Core.List.{List, [], ◌∷◌, ◌++◌, append_assoc, map}
use Prim.Native.Nat.{ℕ, zero, suc, ◌+◌, ◌*◌, ◌-◌, ◌≤◌, ◌<◌}
use native.Mathlib.Omega.{arith}
use Rattle.scan.specs.Bytes.{all_below, part, AllBytes}
use Rattle.scan.specs.Below.{all_at, all_intro, and_left, and_right}
use Rattle.scan.specs.ByteLaws.{length_part}
use Rattle.plan.specs.WellFormed.{every}
use Rattle.plan.specs.Numbers.{Verdict, Accepted}
use Rattle.plan.specs.declared.Refusal.TheVariants.{Length, BlockSum, Header, KindOrChildren, RecordCount, Field}
use Rattle.plan_format.specs.Passed.{length_facts, passed, passed_last}
use Rattle.scan.specs.Parts.{at_part, part-part, part_right}
use Rattle.plan_format.specs.Record.{children, kind_ok, record_ok}
use Rattle.plan_format.specs.Blocks.{length_ok, block, block_count, record_count, record_start, record_at, records, span}
use Rattle.plan_format.specs.LastPass.{and_then, last_pass}
use Rattle.plan_format.specs.Reading.{sums_ok, headers_ok, kinds_ok, children_at, tree_ok, one_tree, records_ok, early_refusal, refusal_of}
use Rattle.plan_format.specs.Writing.{joined, file_of_bytes, file_of}
use Rattle.plan_roundtrip.specs.Back.{file_record, file_headers, file_sums, file_length, file_count}
use Rattle.plan_roundtrip.specs.Same.{in_block, gather, same_bytes, few, whole}

abbrev pub long : List ℕ → Bool
long r = eqb (length r) 64

abbrev pub byte : ℕ → Bool
byte x = ltb x 256

-- What the reader asks of a list of records
pub record Acceptable (l : List (List ℕ)) : Type 0 where
  pub some : 1 ≤ length l
  pub most : length l ≤ 126
  pub longs : every long l ≡ true
  pub bytes : every (every byte) l ≡ true
  pub kinds : every kind_ok l ≡ true
  pub shape : one_tree (map children l) ≡ true
  pub fields : every record_ok l ≡ true
  pub last : last_pass l ≡ Accepted

-- ---- spans

module _ {A : Type 0} where
  span_eq : (f g : ℕ → A) (i n : ℕ) → ((j : ℕ) → i ≤ j → j < i + n → f j ≡ g j) → span f i n ≡ span g i n
  unfolding span
  span_eq f g i zero h = refl
  span_eq f g i (suc n) h = ap₂ ◌∷◌ (h i (omega arith) (omega arith)) (span_eq f g (suc i) n (λ j a b. h j (omega arith) (omega arith)))

  span-next : (f : ℕ → A) (i n : ℕ) → span f (suc i) n ≡ span (λ j. f (suc j)) i n
  unfolding span
  span-next f i zero = refl
  span-next f i (suc n) = ap (λ (l : List A). f (suc i) ∷ l) (span-next f (suc i) n)

  span_add : (f : ℕ → A) (i a b : ℕ) → span f i (a + b) ≡ span f i a ++ span f (i + a) b
  unfolding span
  span_add f i zero b = let e : i + 0 ≡ i = omega arith in let z : 0 + b ≡ b = omega arith in rw (e, z)
  span_add f i (suc a) b = let e : suc i + a ≡ i + suc a = omega arith in let z : suc a + b ≡ suc (a + b) = omega arith in
      rw z (ap (λ (l : List A). f i ∷ l) (span_add f (suc i) a b ∙ ap (λ (n : ℕ). span f (suc i) a ++ span f n b) e))

  pub length-span : (f : ℕ → A) (i n : ℕ) → length (span f i n) ≡ n
  unfolding span
  length-span f i zero = refl
  length-span f i (suc n) = ap suc (length-span f (suc i) n)

  map-span : (k : A → ℕ) (f : ℕ → A) (i n : ℕ) → map k (span f i n) ≡ span (λ j. k (f j)) i n
  unfolding span
  map-span k f i zero = refl
  map-span k f i (suc n) = ap (λ (l : List ℕ). k (f i) ∷ l) (map-span k f (suc i) n)

  every-span : (p : A → Bool) (f : ℕ → A) (i n : ℕ) → ((j : ℕ) → i ≤ j → j < i + n → p (f j) ≡ true) → every p (span f i n) ≡ true
  unfolding span
  every-span p f i zero h = refl
  every-span p f i (suc n) h = ap₂ ◌&&◌ (h i (omega arith) (omega arith)) (every-span p f (suc i) n (λ j a b. h j (omega arith) (omega arith)))

  span-every : (p : A → Bool) (f : ℕ → A) (i n : ℕ) → every p (span f i n) ≡ true → (j : ℕ) → j < n → p (f (i + j)) ≡ true
  unfolding span
  span-every p f i zero e j h = absurd (omega arith)
  span-every p f i (suc n) e zero h = let z : i + 0 ≡ i = omega arith in rw z (and_left (p (f i)) (every p (span f (suc i) n)) e)
  span-every p f i (suc n) e (suc j) h = let z : i + suc j ≡ suc i + j = omega arith in
      rw z (span-every p f (suc i) n (and_right (p (f i)) (every p (span f (suc i) n)) e) j (omega arith))

-- a test of every record of a file
module _ (p : List ℕ → Bool) (s : List ℕ) where
  pub each_record : all_below (λ i. p (record_at s i)) (record_count s) ≡ true → every p (records s) ≡ true
  each_record h = every-span p (record_at s) 0 (record_count s) (λ j a b. all_at (λ i. p (record_at s i)) (record_count s) h j (omega arith))

  pub record_each : every p (records s) ≡ true → all_below (λ i. p (record_at s i)) (record_count s) ≡ true
  record_each h = all_intro (λ i. p (record_at s i)) (record_count s) (λ i l. let z : 0 + i ≡ i = omega arith in
      rw z at (span-every p (record_at s) 0 (record_count s) h i l))

child_counts : (s : List ℕ) → map children (records s) ≡ span (children_at s) 0 (record_count s)
child_counts s = map-span children (record_at s) 0 (record_count s)

-- ---- bytes

pub every_append : {A : Type 0} (p : A → Bool) (x y : List A) → every p x ≡ true → every p y ≡ true → every p (x ++ y) ≡ true
every_append p [] y a b = b
every_append p (e ∷ x) y a b = ap₂ ◌&&◌ (and_left (p e) (every p x) a) (every_append p x y (and_right (p e) (every p x) a) b)

every-joined : (l : List (List ℕ)) → every (every byte) l ≡ true → every byte (joined l) ≡ true
every-joined [] h = refl
every-joined (r ∷ l) h = every_append byte r (joined l) (and_left (every byte r) (every (every byte) l) h)
    (every-joined l (and_right (every byte r) (every (every byte) l) h))

pub every-bytes : (l : List ℕ) → every byte l ≡ true → AllBytes l
every-bytes l h = record { below = go l h }
  where
    go : (l : List ℕ) → every byte l ≡ true → (i : ℕ) → i < length l → get_or l i 0 < 256
    go [] h i k = absurd (omega arith)
    go (x ∷ l) h zero k = ltb-true x 256 (and_left (byte x) (every byte l) h)
    go (x ∷ l) h (suc i) k = go l (and_right (byte x) (every byte l) h) i (omega arith)

bytes-every : (l : List ℕ) → AllBytes l → every byte l ≡ true
bytes-every [] b = refl
bytes-every (x ∷ l) b = ap₂ ◌&&◌ (lt-ltb x 256 (b.below 0 (omega arith))) (bytes-every l (record { below = λ i h. b.below (suc i) (omega arith) }))

-- ---- the records of the file of a list of records

joined_append : (x y : List (List ℕ)) → joined (x ++ y) ≡ joined x ++ joined y
joined_append [] y = refl
joined_append (r ∷ x) y = ap (λ (l : List ℕ). r ++ l) (joined_append x y) ∙ sym (append_assoc r (joined x) (joined y))

pub length-joined : (l : List (List ℕ)) → every long l ≡ true → length (joined l) ≡ 64 * length l
length-joined [] h = refl
length-joined (r ∷ l) h =
    let a = length-append r (joined l) in
    let b = eqb-true (length r) 64 (and_left (long r) (every long l) h) in
    let c = length-joined l (and_right (long r) (every long l) h) in
    omega arith

parts : (l : List (List ℕ)) → every long l ≡ true → span (λ i. part (i * 64) 64 (joined l)) 0 (length l) ≡ l
unfolding span
parts [] h = refl
parts (r ∷ l) h =
    let b = eqb-true (length r) 64 (and_left (long r) (every long l) h) in
    ap₂ ◌∷◌ (take_at r (joined l) 64 b)
    (span-next (λ i. part (i * 64) 64 (r ++ joined l)) 0 (length l)
    ∙ span_eq (λ i. part (suc i * 64) 64 (r ++ joined l)) (λ i. part (i * 64) 64 (joined l)) 0 (length l) (λ j a c. step j b)
    ∙ parts l (and_right (long r) (every long l) h))
  where
    step : (j : ℕ) → length r ≡ 64 → part (suc j * 64) 64 (r ++ joined l) ≡ part (j * 64) 64 (joined l)
    step j b = let q : suc j * 64 ≡ length r + j * 64 = omega arith in ap (λ (x : ℕ). part x 64 (r ++ joined l)) q ∙ part_right (j * 64) 64 r (joined l)

pub records-back : (l : List (List ℕ)) → every long l ≡ true → 1 ≤ length l → records (file_of l) ≡ l
records-back l h z =
    let m = length-joined l h in
    let s : List ℕ = file_of l in
    ap (span (record_at s) 0) (file_count (joined l) (length l) m z)
    ∙ span_eq (record_at s) (λ i. part (i * 64) 64 (joined l)) 0 (length l) (λ j a b. file_record (joined l) (length l) m j (omega arith))
    ∙ parts l h

-- ---- the file of the records of an accepted file

-- c records of block k, from its record j on
run : (s : List ℕ) (k c j : ℕ) → j + c ≤ 7 → joined (span (record_at s) (7 * k + j) c) ≡ part (k * 512 + (8 + 64 * j)) (64 * c) s
unfolding span
run s k zero j h = refl
run s k (suc c) j h =
    let a : ℕ = k * 512 + (8 + 64 * j) in
    let p : record_start (7 * k + j) ≡ a = omega arith in
    let q : suc (7 * k + j) ≡ 7 * k + suc j = omega arith in
    let g : k * 512 + (8 + 64 * suc j) ≡ a + 64 = omega arith in
    let n : 64 + 64 * c ≡ 64 * suc c = omega arith in
    ap₂ ◌++◌ (ap (λ (x : ℕ). part x 64 s) p)
    (ap (λ (x : ℕ). joined (span (record_at s) x c)) q ∙ run s k c (suc j) (omega arith) ∙ ap (λ (x : ℕ). part x (64 * c) s) g
    ∙ ap (take (64 * c)) (sym (drop-drop 64 a s)))
    ∙ sym (take-add 64 (64 * c) (drop a s)) ∙ ap (λ (x : ℕ). part a x s) n

module _ (s : List ℕ) (by : AllBytes s) (len : length_ok (length s) ≡ true) (sums : sums_ok s ≡ true) (heads : headers_ok s ≡ true) where
  in_block_lem : (k c : ℕ) → c ≡ get_or (block s k) 4 0 → c ≤ 7 → in_block s k ≡ joined (span (record_at s) (7 * k) c)
  in_block_lem k c e h =
      let z : 7 * k + 0 ≡ 7 * k = omega arith in
      ap (λ (x : ℕ). part 8 (64 * x) (block s k)) (sym e) ∙ part-part 8 (64 * c) (k * 512) 512 s (omega arith) ∙ sym (run s k c 0 (omega arith))
      ∙ ap (λ (x : ℕ). joined (span (record_at s) x c)) z

  next : (k c : ℕ) → gather s k ≡ joined (span (record_at s) 0 (7 * k)) → c ≡ get_or (block s k) 4 0 → c ≤ 7 → gather s (suc k) ≡ joined
      (span (record_at s) 0 (7 * k + c))
  unfolding gather
  next k c g e h =
      let z : 0 + 7 * k ≡ 7 * k = omega arith in
      ap₂ ◌++◌ g (in_block_lem k c e h) ∙ sym (joined_append (span (record_at s) 0 (7 * k)) (span (record_at s) (7 * k) c))
      ∙ ap joined (sym (rw z at (span_add (record_at s) 0 (7 * k) c)))

  full : (k : ℕ) → k < block_count s → gather s k ≡ joined (span (record_at s) 0 (7 * k))
  unfolding gather span
  full zero h = refl
  full (suc k) h =
      let e : 7 * k + 7 ≡ 7 * suc k = omega arith in
      next k 7 (full k (omega arith)) (sym ((few s by len sums heads k (omega arith)).2 (omega arith))) (omega arith)
      ∙ ap (λ (n : ℕ). joined (span (record_at s) 0 n)) e

  gathered : gather s (block_count s) ≡ joined (records s)
  gathered =
      let n : ℕ = block_count s in
      let w = (whole s by len sums heads).1 in
      let e : suc (n - 1) ≡ n = omega arith in
      ap (gather s) (sym e) ∙ next (n - 1) (get_or (block s (n - 1)) 4 0) (full (n - 1) (omega arith)) refl (few s by len sums heads (n - 1) (omega arith)).1

  -- writing what was read gives the same bytes
  pub same_file : file_of (records s) ≡ s
  same_file = ap file_of_bytes (sym gathered) ∙ same_bytes s by len sums heads

-- ---- what is accepted

tests : (a b c d f g : Bool) (x : Verdict) → a ≡ true → b ≡ true → c ≡ true → d ≡ true → f ≡ true → g ≡ true
    → cond a (cond b (cond c (cond d (cond f (cond g x (Err Field)) (Err RecordCount)) (Err KindOrChildren)) (Err Header)) (Err BlockSum)) (Err Length) ≡ x
tests a b c d f g x p q r t u v = rw (p, q, r, t, u, v)

-- a fine list's file is accepted, and its records come back
pub fine_accepted : (l : List (List ℕ)) → Acceptable l → refusal_of (file_of l) ≡ Accepted
unfolding refusal_of early_refusal kinds_ok tree_ok records_ok
fine_accepted l v =
    let s : List ℕ = file_of l in
    let rs : List ℕ = joined l in
    let m = length-joined l v.longs in
    let back : records s ≡ l = records-back l v.longs v.some in
    let early : early_refusal s ≡ Accepted =
    tests (length_ok (length s)) (sums_ok s) (headers_ok s) (kinds_ok s) (tree_ok s) (records_ok s) Accepted
    (file_length rs (length l) m v.some v.most)
    (file_sums rs (length l) m (every-bytes rs (every-joined l v.bytes)))
    (file_headers rs (length l) m v.most)
    (record_each kind_ok s (ap (every kind_ok) back ∙ v.kinds))
    (ap one_tree (sym (child_counts s) ∙ ap (map children) back) ∙ v.shape)
    (record_each record_ok s (ap (every record_ok) back ∙ v.fields)) in
    ap₂ and_then early (ap last_pass back ∙ v.last)

-- an accepted file's records are fine; the same bytes are written of them again
pub accepted_fine : (s : List ℕ) → AllBytes s → refusal_of s ≡ Accepted → Acceptable (records s)
unfolding kinds_ok tree_ok records_ok
accepted_fine s by e =
    let v = passed s e in
    let n : ℕ = block_count s in
    let w = whole s by v.len v.sums v.heads in
    let w₀ = w.0 in let w₁ = w.1 in
    let f = few s by v.len v.sums v.heads (n - 1) (omega arith) in
    let f₀ = f.0 in let f₁ = f.1 in
    let l = length-span (record_at s) 0 (record_count s) in
    let top = (length_facts true (length s) (sym v.len) refl).1 in
    record {
      some = omega arith;
      most = omega arith;
      longs = every-span long (record_at s) 0 (record_count s) (λ j a b. eq-eqb (length (record_at s j)) 64 (length_part s (record_start j) 64 (omega arith)));
      bytes = every-span (every byte) (record_at s) 0 (record_count s) (λ j a b. bytes-every (record_at s j) (inside j));
      kinds = each_record kind_ok s v.kinds;
      shape = ap one_tree (child_counts s) ∙ v.shape;
      fields = each_record record_ok s v.fields;
      last = passed_last s e;
    }
  where
    inside : (j : ℕ) → AllBytes (record_at s j)
    inside j = record {
      below = λ i h. (let a = length-take 64 (drop (record_start j) s) in let d = length-drop (record_start j) s in
          let e = at_part s (record_start j) 64 i (omega arith) in let b = by.below (record_start j + i) (omega arith) in omega arith);
    }

pub accepted_same : (s : List ℕ) → AllBytes s → refusal_of s ≡ Accepted → file_of (records s) ≡ s
accepted_same s by e = let v = passed s e in same_file s by v.len v.sums v.heads
