-- The search for a column on a side, and an order whose columns are looked for one by one. Assumes nothing.
use Rattle.std.specs.Prelude.{◌≡◌, refl, Bool, true, false, cond, ◌&&◌, List, [], ◌∷◌, ◌++◌, ℕ, ◌+◌, ◌≤◌, ◌<◌, eqb, ltb, leb, length, Option, Some, None}
use Rattle.std.proofs.Common.{sym, ap, ap₂, ◌∙◌, subst, arith, lt-ltb, le-ltb, le-leb, ltb-true}
use Rattle.std.proofs.lemmas.Bool.{lt-leb}
use Rattle.row_order.specs.Iso.{Key}
use Rattle.row_order.specs.Packed.{key_of}
use Rattle.semantics.proofs.Theorems.Common.Bools.{and_right}
use Rattle.semantics.specs.Facts.{Facts, cl, with_column, lowest}
use Rattle.semantics.proofs.Theorems.Common.Lowest.{lowest_none}
use Rattle.class_tables.specs.Lowest.{Nowhere, lowest_at}
use Rattle.key_lists.specs.declared.Keys.{Keys}
use Rattle.key_lists.specs.Keys.{keys_of, Keyed, Tight, Longer}
use Rattle.key_lists.specs.Lists.{length_keys, no_length}
use Rattle.walks.specs.SortPushdown as walk
use Rattle.join_sides.specs.declared.JoinSide.TheVariants.{Left, Right, Neither}
use Rattle.join_sides.specs.Sides.{found_if, lowest_from, side_column, Valids, SideIs}

-- ---- the search
module _ (low : ℕ → ℕ) (lo n class : ℕ) where
  pub here : (i : ℕ) → i < n → Nowhere (λ j. eqb (low (lo + j)) class) i → eqb (low (lo + i)) class ≡ true → Some (lo + i) ≡ lowest_from low lo n class
  here i h p e =
      let x : lowest (λ j. eqb (low (lo + j)) class) n ≡ i = lowest_at (λ j. eqb (low (lo + j)) class) n i h p e in
      rw (x, lt-ltb i n h)

  pub nowhere : Nowhere (λ j. eqb (low (lo + j)) class) n → None ≡ lowest_from low lo n class
  nowhere p =
      let x : lowest (λ j. eqb (low (lo + j)) class) n ≡ n = lowest_none (λ j. eqb (low (lo + j)) class) n p in
      rw (x, le-ltb n n (omega arith))

module _ (low : ℕ → ℕ) (lo n c : ℕ) where
  pub before : c < lo → lowest_from low lo n (low c) ≡ side_column low lo n c
  before h = rw (lt-leb lo c h)

  pub there : lo ≤ c → c < lo + n → Some c ≡ side_column low lo n c
  there h l = rw (le-leb lo c h, lt-ltb c (lo + n) l)

  pub behind : lo ≤ c → lo + n ≤ c → lowest_from low lo n (low c) ≡ side_column low lo n c
  behind h l = rw (le-leb lo c h, le-ltb c (lo + n) l)

-- a column that is found is one
pub side_below : (low : ℕ → ℕ) (lo n x c : ℕ) → lo + n ≤ 32 → Some c ≡ side_column low lo n x → c < 32
side_below low lo n x c h e = go (leb lo x && ltb x (lo + n)) refl (ltb i n) refl e
  where
    i : ℕ
    i = lowest (λ j. eqb (low (lo + j)) (low x)) n

    go : (a : Bool) → leb lo x && ltb x (lo + n) ≡ a → (b : Bool) → ltb i n ≡ b → Some c ≡ found_if a x (found_if b (lo + i) None) → c < 32
    go true p b q z = let y : c ≡ x = cc in let l = ltb-true x (lo + n) (and_right (leb lo x) (ltb x (lo + n)) p) in omega arith
    go false p true q z = let y : c ≡ lo + i = cc in let l = ltb-true i n q in omega arith
    go false p false q z = let y : ◌≡◌ {A = ℕ} 0 1 = cc in absurd (omega arith)

-- ---- a key list on one side

abbrev put : Option ℕ → Key → walk.Valid → walk.Valid
put (Some c) k v = walk.and_key (with_column c k) v
put None k v = walk.invalid

step : (F : Facts) (lo n : ℕ) (k : Key) (ks : List Key) → walk.on_side F lo n (k ∷ ks) ≡ put (side_column (cl F) lo n k.col) k (walk.on_side F lo n ks)
step F lo n k ks = go (leb lo k.col && ltb k.col (lo + n)) (ltb i n)
  where
    i : ℕ
    i = lowest (λ j. eqb (cl F (lo + j)) (cl F k.col)) n

    v : walk.Valid
    v = walk.on_side F lo n ks

    go : (a b : Bool) → cond a (walk.and_key k v) (cond b (walk.and_key (with_column (lo + i) k) v) walk.invalid) ≡ put
        (found_if a k.col (found_if b (lo + i) None)) k v
    go true b = refl
    go false true = refl
    go false false = refl

-- keys put before an ordering
abbrev pub and_keys : List Key → walk.Valid → walk.Valid
and_keys [] v = v
and_keys (k ∷ ks) v = walk.and_key k (and_keys ks v)

keys_more : (ks : List Key) (k : Key) (v : walk.Valid) → and_keys (ks ++ (k ∷ [])) v ≡ and_keys ks (walk.and_key k v)
keys_more [] k v = refl
keys_more (l ∷ ks) k v = ap (walk.and_key l) (keys_more ks k v)

keys_none : (ks : List Key) → and_keys ks walk.invalid ≡ walk.invalid
keys_none [] = refl
keys_none (k ∷ ks) = ap (walk.and_key k) (keys_none ks)

keys_all : (ks : List Key) → and_keys ks (walk.valid []) ≡ walk.valid ks
keys_all [] = refl
keys_all (k ∷ ks) = ap (walk.and_key k) (keys_all ks)

-- the loop with the keys l left
pub record Siding (F : Facts) (lo n : ℕ) (ks : List Key) (out : Keys) (l : List Key) : Type 0 where
  pub few : out.len + length l ≤ 8
  pub tight : Tight out
  pub is : and_keys (keys_of out) (walk.on_side F lo n l) ≡ walk.on_side F lo n ks

pub side_none : (F : Facts) (lo n : ℕ) (k out : Keys) (l : List Key) → l ≡ keys_of k → k.len ≤ 8 → Keyed [] out → Tight out → Siding F lo n (keys_of k) out l
side_none F lo n k out l i h e t = let z = no_length out e in
    record {
      few = omega (arith, ap length i, length_keys k.len k.word);
      tight = t;
      is = ap₂ (λ x y. and_keys x (walk.on_side F lo n y)) e.is i;
    }

module _ (F : Facts) (lo n : ℕ) (ks : List Key) (out : Keys) (l : List Key) (b : Siding F lo n ks out l) (w : ℕ) (m : List Key) (i : l ≡ key_of w ∷ m) where
  place : (s : Option ℕ) → s ≡ side_column (cl F) lo n (key_of w).col
      → and_keys (keys_of out) (put s (key_of w) (walk.on_side F lo n m)) ≡ walk.on_side F lo n ks
  place s e =
      ap (λ x. and_keys (keys_of out) (put x (key_of w) (walk.on_side F lo n m))) e
      ∙ ap (and_keys (keys_of out)) (sym (ap (walk.on_side F lo n) i ∙ step F lo n (key_of w) m))
      ∙ b.is

  pub sided : (c : ℕ) → Some c ≡ side_column (cl F) lo n (key_of w).col → (x : ℕ) → key_of x ≡ with_column c (key_of w) → (r : Keys) → Longer out x r
      → Siding F lo n ks r m
  sided c e x y r g =
      record {
        few = omega (arith, b.few, g.len, ap length i);
        tight = g.tight;
        is = ap (λ k. and_keys k (walk.on_side F lo n m)) (g.is ∙ ap (λ k. keys_of out ++ (k ∷ [])) y)
            ∙ keys_more (keys_of out) (with_column c (key_of w)) (walk.on_side F lo n m) ∙ place (Some c) e;
      }

  pub unsided : None ≡ side_column (cl F) lo n (key_of w).col → Valids (walk.on_side F lo n ks) None
  unsided e = subst (λ v. Valids v None) (sym (keys_none (keys_of out)) ∙ place None e) tt

pub all_sided : (F : Facts) (lo n : ℕ) (ks : List Key) (out : Keys) (l : List Key) → Siding F lo n ks out l → l ≡ [] → Valids (walk.on_side F lo n ks)
    (Some out)
all_sided F lo n ks out l b e =
    subst (λ v. Valids v (Some out)) (sym (keys_all (keys_of out)) ∙ ap (λ x. and_keys (keys_of out) (walk.on_side F lo n x)) (sym e) ∙ b.is)
    (record { is = refl; few = omega (arith, b.few) })

-- ---- the first side that is valid

valid_left : (v u : walk.Valid) (k : Keys) → Valids v (Some k) → SideIs (walk.left_first v u) (Left k)
valid_left walk.invalid u k h = absurd h
valid_left (walk.valid ks) u k h = h

valid_right : (v u : walk.Valid) (k : Keys) → Valids v None → Valids u (Some k) → SideIs (walk.left_first v u) (Right k)
valid_right walk.invalid walk.invalid k h g = absurd g
valid_right walk.invalid (walk.valid ks) k h g = g
valid_right (walk.valid ks) u k h g = absurd h

valid_neither : (v u : walk.Valid) → Valids v None → Valids u None → SideIs (walk.left_first v u) Neither
valid_neither walk.invalid walk.invalid h g = tt
valid_neither walk.invalid (walk.valid ks) h g = absurd g
valid_neither (walk.valid ks) u h g = absurd h

module _ (v u : walk.Valid) (x y : Option Keys) where
  pub on_left : (k : Keys) → Valids v x → x ≡ Some k → SideIs (walk.left_first v u) (Left k)
  on_left k h e = valid_left v u k (subst (Valids v) e h)

  pub on_right_lem : (k : Keys) → Valids v x → x ≡ None → Valids u y → y ≡ Some k → SideIs (walk.left_first v u) (Right k)
  on_right_lem k h e g d = valid_right v u k (subst (Valids v) e h) (subst (Valids u) d g)

  pub on_neither : Valids v x → x ≡ None → Valids u y → y ≡ None → SideIs (walk.left_first v u) Neither
  on_neither h e g d = valid_neither v u (subst (Valids v) e h) (subst (Valids u) d g)
