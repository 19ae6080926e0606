-- Bits and bytes of single fields, there and back.
use Rattle.std.specs.Prelude.{◌≡◌, refl, Bool, true, false, cond, ◌&&◌, ℕ, zero, suc, ◌+◌, ◌*◌, ◌<◌, leb, ltb, eqb, Option, Some, None}
use Rattle.std.proofs.Common.{sym, ap, ap₂, arith, eqb-true, ltb-true, leb-true, lt-ltb, ne_eqb}
use Rattle.std.proofs.lemmas.Bool.{eqb-false}
use Rattle.row_order.specs.Packed.{bit}
use Rattle.scan.specs.Bytes.{all_below, one_if}
use Rattle.scan.specs.Below.{all_at, and_right}
use Rattle.plan.specs.Numbers.{kind_number, kind_of, join_number, join_type_of, no_fetch}
use Rattle.plan.specs.WellFormed.{between, fetch_ok}
use Rattle.plan.specs.declared.Kind.{Kind}
use Rattle.plan.specs.declared.Kind.TheVariants.{Source, Filter, Projection, Union, Repartition, Coalesce, Sort, Merge, GlobalLimit, LocalLimit, SortMergeJoin, HashJoin, OutputRequirement, PartialSort, Aggregate}
use Rattle.plan.specs.declared.JoinType.{JoinType}
use Rattle.plan.specs.declared.JoinType.TheVariants.{Inner, Left, Right, Full, LeftSemi, LeftAnti, RightSemi, RightAnti}
use Rattle.plan_codec.specs.Decode.{fetch_of, key_of_bytes}
use Rattle.plan_codec.specs.Encode.{marks_byte, fetch_number, options_byte}

-- ---- Booleans

pub no_false : {A : Type 0} → false ≡ true → A
no_false e = absurd (let z : ◌≡◌ {A = ℕ} 0 1 = ap (λ (b : Bool). cond b 1 0) e in omega arith)

pub both : (a b : Bool) → a ≡ true → b ≡ true → a && b ≡ true
both a b p q = ap₂ ◌&&◌ p q

-- two tests that hold together
pub iff : (a b : Bool) → (a ≡ true → b ≡ true) → (b ≡ true → a ≡ true) → a ≡ b
iff true b f g = sym (f refl)
iff false true f g = g refl
iff false false f g = refl

-- a table of n rows, each computed
row : (f g : ℕ → ℕ) (n : ℕ) → all_below (λ i. eqb (f i) (g i)) n ≡ true → (i : ℕ) → i < n → f i ≡ g i
row f g n h i l = eqb-true (f i) (g i) (all_at (λ i. eqb (f i) (g i)) n h i l)

-- ---- kinds and join types

pub kind_back : (k : ℕ) → between 1 15 k ≡ true → kind_number (kind_of k) ≡ k
unfolding all_below kind_of
kind_back zero e = no_false e
kind_back (suc k) e = row (λ i. kind_number (kind_of (suc i))) suc 15 refl k
    (omega (arith, leb-true (suc k) 15 (and_right (leb 1 (suc k)) (leb (suc k) 15) e)))

pub number_back : (k : Kind) → kind_of (kind_number k) ≡ k
unfolding kind_of
number_back Source = refl
number_back Filter = refl
number_back Projection = refl
number_back Union = refl
number_back Repartition = refl
number_back Coalesce = refl
number_back Sort = refl
number_back Merge = refl
number_back GlobalLimit = refl
number_back LocalLimit = refl
number_back SortMergeJoin = refl
number_back HashJoin = refl
number_back OutputRequirement = refl
number_back PartialSort = refl
number_back Aggregate = refl

pub known : (k : Kind) → between 1 15 (kind_number k) ≡ true
known Source = refl
known Filter = refl
known Projection = refl
known Union = refl
known Repartition = refl
known Coalesce = refl
known Sort = refl
known Merge = refl
known GlobalLimit = refl
known LocalLimit = refl
known SortMergeJoin = refl
known HashJoin = refl
known OutputRequirement = refl
known PartialSort = refl
known Aggregate = refl

pub join_back : (v : ℕ) → leb v 7 ≡ true → join_number (join_type_of v) ≡ v
unfolding all_below join_type_of
join_back v e = row (λ i. join_number (join_type_of i)) (λ i. i) 8 refl v (omega (arith, leb-true v 7 e))

pub join_number_lem : (t : JoinType) → (join_type_of (join_number t) ≡ t) × (leb (join_number t) 7 ≡ true)
unfolding join_type_of
join_number_lem Inner = (refl, refl)
join_number_lem Left = (refl, refl)
join_number_lem Right = (refl, refl)
join_number_lem Full = (refl, refl)
join_number_lem LeftSemi = (refl, refl)
join_number_lem LeftAnti = (refl, refl)
join_number_lem RightSemi = (refl, refl)
join_number_lem RightAnti = (refl, refl)

-- ---- marks and options

pub record Marks (p h u : Bool) (m : ℕ) : Type 0 where
  pub small : ltb m 8 ≡ true
  pub preserve : bit m 0 ≡ p
  pub hash : bit m 1 ≡ h
  pub unbounded : bit m 2 ≡ u

pub marks_bits : (p h u : Bool) → Marks p h u (marks_byte p h u)
marks_bits true true true = record { small = refl; preserve = refl; hash = refl; unbounded = refl }
marks_bits true true false = record { small = refl; preserve = refl; hash = refl; unbounded = refl }
marks_bits true false true = record { small = refl; preserve = refl; hash = refl; unbounded = refl }
marks_bits true false false = record { small = refl; preserve = refl; hash = refl; unbounded = refl }
marks_bits false true true = record { small = refl; preserve = refl; hash = refl; unbounded = refl }
marks_bits false true false = record { small = refl; preserve = refl; hash = refl; unbounded = refl }
marks_bits false false true = record { small = refl; preserve = refl; hash = refl; unbounded = refl }
marks_bits false false false = record { small = refl; preserve = refl; hash = refl; unbounded = refl }

pub bits_marks : (m : ℕ) → m < 8 → marks_byte (bit m 0) (bit m 1) (bit m 2) ≡ m
unfolding all_below
bits_marks m h = row (λ m. marks_byte (bit m 0) (bit m 1) (bit m 2)) (λ m. m) 8 refl m h

pub options_bits : (d f : Bool) → (bit (one_if d + 2 * one_if f) 0 ≡ d) × (bit (one_if d + 2 * one_if f) 1 ≡ f) × (one_if d + 2 * one_if f < 4)
options_bits true true = (refl, refl, omega arith)
options_bits true false = (refl, refl, omega arith)
options_bits false true = (refl, refl, omega arith)
options_bits false false = (refl, refl, omega arith)

pub bits_options : (c o : ℕ) → o < 4 → options_byte (key_of_bytes c o) ≡ o
unfolding all_below
bits_options c o h = row (λ o. one_if (bit o 0) + 2 * one_if (bit o 1)) (λ o. o) 4 refl o h

-- ---- fetch

pub fetch_back : (n : ℕ) → fetch_number (fetch_of n) ≡ n
fetch_back n = go (eqb n no_fetch) refl
  where
    go : (b : Bool) → eqb n no_fetch ≡ b → fetch_number (cond b None (Some n)) ≡ n
    go true e = sym (eqb-true n no_fetch e)
    go false e = refl

pub fetch_fits : (f : Option ℕ) → fetch_ok f ≡ true → fetch_number f < 4294967296
fetch_fits None e = omega arith
fetch_fits (Some n) e = omega (arith, ltb-true n no_fetch e)

pub fetch_number_lem : (f : Option ℕ) → fetch_ok f ≡ true → fetch_of (fetch_number f) ≡ f
fetch_number_lem None e = refl
fetch_number_lem (Some n) e = let z : eqb n no_fetch ≡ false = ne_eqb n no_fetch (λ q. absurd (omega (arith, ltb-true n no_fetch e))) in rw z

pub fetch_ok_lem : (n : ℕ) → n < 4294967296 → fetch_ok (fetch_of n) ≡ true
fetch_ok_lem n h = go (eqb n no_fetch) refl
  where
    go : (b : Bool) → eqb n no_fetch ≡ b → fetch_ok (cond b None (Some n)) ≡ true
    go true e = refl
    go false e = lt-ltb n no_fetch (let f = eqb-false n no_fetch e in omega arith)
