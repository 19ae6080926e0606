-- What the sources declare, kept by their rows: source by source, with the place of its rows. Assumes nothing.
use Rattle.std.specs.Prelude.{◌≡◌, Bool, true, false, not, ◌||◌, take, drop}
use Rattle.std.proofs.Math.Path.{refl, sym, ap, ap₂}
use Rattle.std.proofs.Common.{◌∙◌, get_or-drop}
use Rattle.std.proofs.Math.Bool.{◌&&◌}
use mathlib.Core.List.{List, [], ◌∷◌, ◌++◌, append-nil, map}
use Prim.Native.Nat.{ℕ, zero, suc, ◌+◌, ◌*◌, ◌-◌, ◌≤◌, ◌<◌}
use native.Mathlib.Omega.{arith}
use Rattle.std.proofs.Math.Seq.{get_or-append-add}
use Rattle.std.proofs.Math.ListN.{length, get_or, get_or-append}
use Rattle.row_order.specs.Iso.{Row, Key}
use Rattle.row_order.proofs.Order.{no_bool}
use Rattle.row_order.specs.Lists.{tab, concat}
use Rattle.row_order.specs.ListLaws.{length-tab}
use Rattle.row_order.specs.Packed.{bit, key_of}
use Rattle.scan.specs.Below.{and_assoc, all_intro}
use Rattle.scan.specs.Bytes.{part, le32, all_below}
use Rattle.scan.specs.ByteLaws.{cut, length_part}
use Rattle.scan.specs.Parts.{at_part}
use Rattle.plan.specs.Forest.{none, tree, nodes}
use Rattle.plan.specs.Op.{SourceInfo, Op, source, Plan}
use Rattle.plan.specs.WellFormed.{every}
use Rattle.plan_format.specs.Blocks.{record_start, record_at}
use Rattle.plan_codec.specs.Decode.{decode}
use Rattle.plan_codec.specs.Reading.{plan_of}
use Rattle.record_fields.specs.Fields.{packed_keys}
use Rattle.record_fields.specs.Decoded.{length-packed}
use Rattle.record_fields.specs.Fronts.{counted}
use Rattle.record_fields.specs.Proper.{Proper}
use Rattle.record_fields.specs.Kinds.{keys_are}
use Rattle.semantics.specs.Runs.{Streams, next_s, past}
use Rattle.semantics.specs.SourceRows.{own}
use Rattle.stepping.specs.RowBytes.{stream_end, streams_at, stream_widths, streams_before, rows_in}
use Rattle.stepping.specs.Answers.{in_order, one_cell, declared_ok, at_source, each_source, sources_ok}
use Rattle.row_bytes.specs.Streams.{alike, streams_fit, streams_end, at_join, flag_true}
use Rattle.source_rows.specs.Files.{op_at, Taken, proper_at}
use Rattle.source_rows.specs.Sources.{Other, Which, is_source, is_other, which, streams_in, width_in, info_of, Kept, a-source, another, kept, own_widths, SourceAt, own_all, sources_are, ops_from, ops_step, ops_none, ops_start}

-- ---- by nodes in a list

abbrev each_in : (ℕ → SourceInfo → Bool) → ℕ → List Op → Bool
each_in p i [] = true
each_in p i (o ∷ os) = at_source (p i) o && each_in p (next_s o i) os

abbrev pub past_in : List Op → ℕ → ℕ
past_in [] i = i
past_in (o ∷ os) i = past_in os (next_s o i)

past_join : (x y : List Op) (i : ℕ) → past_in (x ++ y) i ≡ past_in y (past_in x i)
past_join [] y i = refl
past_join (o ∷ x) y i = past_join x y (next_s o i)

pub past_is : (f : Plan) (i : ℕ) → past next_s f i ≡ past_in (nodes f) i
past_is none i = refl
past_is (tree o c r) i = past_is r (past next_s c (next_s o i)) ∙ ap (past_in (nodes r)) (past_is c (next_s o i)) ∙ sym (past_join (nodes c) (nodes r) (next_s o i))

each_join : (p : ℕ → SourceInfo → Bool) (x y : List Op) (i : ℕ) → each_in p i (x ++ y) ≡ each_in p i x && each_in p (past_in x i) y
each_join p [] y i = refl
each_join p (o ∷ x) y i =
    ap (λ (b : Bool). at_source (p i) o && b) (each_join p x y (next_s o i))
    ∙ sym (and_assoc (at_source (p i) o) (each_in p (next_s o i) x) (each_in p (past_in x (next_s o i)) y))

each_is : (p : ℕ → SourceInfo → Bool) (i : ℕ) (f : Plan) → each_source p i f ≡ each_in p i (nodes f)
each_is p i none = refl
each_is p i (tree o c r) =
    ap (λ (b : Bool). at_source (p i) o && b)
    (ap₂ ◌&&◌ (each_is p (next_s o i) c) (each_is p (past next_s c (next_s o i)) r ∙ ap (λ (m : ℕ). each_in p m (nodes r)) (past_is c (next_s o i)))
    ∙ sym (each_join p (nodes c) (nodes r) (next_s o i)))

-- ---- by places

-- The rows of the source from place a on keep what it declares
abbrev pub kept_at : List ℕ → ℕ → SourceInfo → Bool
kept_at rows a s = declared_ok s (streams_at rows a (alike s.streams s.width))

abbrev pub kept_from : List ℕ → ℕ → List Op → Bool
kept_from rows a [] = true
kept_from rows a (o ∷ os) = at_source (kept_at rows a) o && kept_from rows (streams_end rows a (stream_widths (own o []))) os

length_streams : (s : List ℕ) (a : ℕ) (ws : List ℕ) → length (streams_at s a ws) ≡ length ws
length_streams s a [] = refl
length_streams s a (w ∷ ws) = ap suc (length_streams s (stream_end s a w) ws)

tab_is : (n : ℕ) (f : ℕ → List Row) (l : Streams) → length l ≡ n → ((k : ℕ) → k < n → f k ≡ get_or l k []) → tab n f ≡ l
tab_is zero f [] e h = refl
tab_is zero f (x ∷ l) e h = absurd (omega arith)
tab_is (suc n) f [] e h = absurd (omega arith)
tab_is (suc n) f (x ∷ l) e h = ap₂ ◌∷◌ (h 0 (omega arith)) (tab_is n (λ k. f (suc k)) l (omega arith) (λ k q. h (suc k) (omega arith)))

module _ (rows : List ℕ) (R : ℕ → ℕ → List Row) where
  -- from source i on, whose rows start at place a
  unfoldable pub Stand : ℕ → ℕ → List Op → Type 0
  Stand i a os = (m k : ℕ) → R (i + m) k ≡ get_or (streams_at rows a (stream_widths (own_all os []))) (streams_before (own_all os []) m + k) []

  pub stand_start : (os : List Op) → ((m k : ℕ) → R m k ≡ get_or (streams_at rows 0 (stream_widths (own_all os []))) (streams_before (own_all os []) m + k) []) →
      Stand 0 0 os
  unfolding Stand
  stand_start os h = λ m k. (let z : 0 + m ≡ m = omega arith in ap (λ (n : ℕ). R n k) z ∙ h m k)

  -- the first node is a source, of which the rows are here, or another
  module _ (s : SourceInfo) (os : List Op) where
    abbrev us : List ℕ
    us = alike s.streams s.width

    abbrev ws : List ℕ
    ws = stream_widths (own_all os [])

    many : (a : ℕ) → length (streams_at rows a us) ≡ s.streams
    many a = length_streams rows a us ∙ length-tab s.streams (λ j. s.width)

    pub stand_here : (i a : ℕ) → Stand i a (source s ∷ os) → tab s.streams (R i) ≡ streams_at rows a (alike s.streams s.width)
    unfolding Stand
    stand_here i a c =
        tab_is s.streams (R i) (streams_at rows a us) (many a)
        (λ k q. (let z : i + 0 ≡ i = omega arith in let y : 0 + k ≡ k = omega arith in
        ap (λ (m : ℕ). R m k) (sym z) ∙ c 0 k ∙ ap₂ (λ (l : Streams) (m : ℕ). get_or l m []) (at_join rows a us ws) y
        ∙ get_or-append (streams_at rows a us) (streams_at rows (streams_end rows a us) ws) [] k (omega (arith, many a))))

    pub stand_next : (i a : ℕ) → Stand i a (source s ∷ os) → Stand (suc i) (streams_end rows a (alike s.streams s.width)) os
    unfolding Stand
    stand_next i a c =
        (λ m k. (let z : suc i + m ≡ i + suc m = omega arith in
        let y : s.streams + streams_before (own_all os []) m + k ≡ length (streams_at rows a us) + (streams_before (own_all os []) m + k) = omega (arith, many a) in
        ap (λ (n : ℕ). R n k) z ∙ c (suc m) k ∙ ap₂ (λ (l : Streams) (n : ℕ). get_or l n []) (at_join rows a us ws) y
        ∙ get_or-append-add (streams_at rows a us) (streams_at rows (streams_end rows a us) ws) (streams_before (own_all os []) m + k) []))

  pub stand_other : {o : Op} (os : List Op) → Other o → (i a : ℕ) → Stand i a (o ∷ os) → Stand i a os
  unfolding Stand
  stand_other os x i a c =
      λ m k. c m k ∙ ap (λ (l : List SourceInfo). get_or (streams_at rows a (stream_widths l)) (streams_before l m + k) []) (x.owns (own_all os []))

  test : ℕ → SourceInfo → Bool
  test i s = declared_ok s (tab s.streams (R i))

  Goes : List Op → Type 0
  Goes os = (i a : ℕ) → Stand i a os → each_in test i os ≡ kept_from rows a os

  each_step : {o : Op} (os : List Op) → Which o → Goes os → Goes (o ∷ os)
  unfolding test Goes
  each_step os (is_source s) ih i a c =
      ap₂ ◌&&◌ (ap (declared_ok s) (stand_here s os i a c))
      (ih (suc i) (streams_end rows a (alike s.streams s.width)) (stand_next s os i a c)
      ∙ ap (λ (l : List ℕ). kept_from rows (streams_end rows a l) os) (sym (append-nil (alike s.streams s.width))))
  each_step {o} os (is_other x) ih i a c =
      ap₂ ◌&&◌ (x.asks (test i) ∙ sym (x.asks (kept_at rows a)))
      (ap (λ (m : ℕ). each_in test m os) (x.next i) ∙ ih i a (stand_other os x i a c)
      ∙ ap (λ (l : List SourceInfo). kept_from rows (streams_end rows a (stream_widths l)) os) (sym (x.owns [])))

  each_from : (os : List Op) → Goes os
  unfolding Goes
  each_from [] = λ i a c. refl
  each_from (o ∷ os) = each_step os (which o) (each_from os)

  pub each_kept : (os : List Op) → Stand 0 0 os → each_in (λ i s. declared_ok s (tab s.streams (R i))) 0 os ≡ kept_from rows 0 os
  unfolding test Goes
  each_kept os h = each_from os 0 0 h

-- A plan's rows stand from place 0 on
pub plan_stand : (f : Plan) (rows : List ℕ) → Stand rows (rows_in f rows) 0 0 (nodes f)
plan_stand f rows =
    stand_start rows (rows_in f rows) (nodes f)
    (λ m k. ap (λ (l : List SourceInfo). get_or (streams_at rows 0 (stream_widths l)) (streams_before l m + k) []) (sources_are f []))

pub declared_is : (f : Plan) (rows : List ℕ) → sources_ok (rows_in f rows) f ≡ kept_from rows 0 (nodes f)
declared_is f rows =
    each_is (λ i s. declared_ok s (tab s.streams (rows_in f rows i))) 0 f ∙ each_kept rows (rows_in f rows) (nodes f) (plan_stand f rows)

-- ---- one record: its streams k, width w, key count m, packed keys ks, constants set

set_in : (s : List ℕ) (at : ℕ) → le32 s (at + 32) ≡ le32 (drop 32 (part at 64 s)) 0
set_in s at =
    let b : (i : ℕ) → i < 32 → get_or s (at + 32 + i) 0 ≡ get_or (drop 32 (part at 64 s)) i 0 =
    (λ i h. (let z : at + 32 + i ≡ at + (32 + i) = omega arith in ap (λ (n : ℕ). get_or s n 0) z ∙ sym (get_or-drop 32 (part at 64 s) i 0 ∙ at_part s at 64 (32 + i) (omega arith)))) in
    let z : at + 32 + 0 ≡ at + 32 = omega arith in
    let y = b 0 (omega arith) in
    let x : get_or s (at + 32) 0 ≡ get_or (drop 32 (part at 64 s)) 0 0 = ap (λ (n : ℕ). get_or s n 0) (sym z) ∙ y in
    ap₂ (λ (u v : ℕ). u + 16777216 * v) (ap₂ (λ (u v : ℕ). u + 65536 * v) (ap₂ (λ (u v : ℕ). u + 256 * v) x (b 1 (omega arith))) (b 2 (omega arith))) (b 3 (omega arith))

abbrev pub list_ok : List Key → ℕ → ℕ → Streams → Bool
list_ok ks set w ss = every (in_order ks) ss && all_below (λ c. not (bit set c) || one_cell c (concat ss)) w

none_fails : (ks : List Key) (set w : ℕ) → list_ok ks set w [] ≡ true
none_fails ks set w = all_intro (λ c. not (bit set c) || true) w (λ c h. or_true (not (bit set c)))
  where
    or_true : (b : Bool) → (b || true) ≡ true
    or_true true = refl
    or_true false = refl

kept_record : (r : List ℕ) → Proper r → (rows : List ℕ) (a k w m set : ℕ) (ks : List ℕ) → k ≡ streams_in r → w ≡ width_in r → m ≡ get_or r 12 0 → ks ≡ packed_keys r →
    set ≡ le32 (drop 32 r) 0 → list_ok (map key_of (take m ks)) set w (streams_at rows a (alike k w)) ≡ at_source (kept_at rows a) (decode r)
kept_record r p rows a k w m set ks ek ew em es et = go (kept r p)
  where
    keys : map key_of (take m ks) ≡ (info_of r).keys
    keys = ap₂ (λ (n : ℕ) (l : List ℕ). map key_of (take n l)) em es ∙ keys_are r p

    go : Kept r → list_ok (map key_of (take m ks)) set w (streams_at rows a (alike k w)) ≡ at_source (kept_at rows a) (decode r)
    go (a-source e n) =
        ap (λ (l : List Key). list_ok l set w (streams_at rows a (alike k w))) keys
        ∙ ap₂ (λ (u v : ℕ). list_ok (info_of r).keys u w (streams_at rows a (alike v w))) et (ek ∙ n)
        ∙ ap (λ (v : ℕ). list_ok (info_of r).keys (info_of r).constants v (streams_at rows a (alike (get_or r 2 0) v))) ew
        ∙ sym (ap (at_source (kept_at rows a)) e)
    go (another x n) =
        ap (λ (v : ℕ). list_ok (map key_of (take m ks)) set w (streams_at rows a (alike v w))) (ek ∙ n)
        ∙ none_fails (map key_of (take m ks)) set w ∙ sym (x.asks (kept_at rows a))

-- as the code tests it; at: where the record starts
module _ (s rows : List ℕ) (j a at k w m set : ℕ) (ks : List ℕ) (p : Proper (record_at s j)) (e : at ≡ record_start j) (ek : k ≡ streams_in (record_at s j))
    (ew : w ≡ width_in (record_at s j)) (em : m ≡ get_or (record_at s j) 12 0) (es : ks ≡ packed_keys (part at 64 s)) where
  source-kept : set ≡ le32 s (at + 32) → list_ok (map key_of (take m ks)) set w (streams_at rows a (alike k w)) ≡ at_source (kept_at rows a) (op_at s j)
  source-kept et =
      kept_record (record_at s j) p rows a k w m set ks ek ew em (es ∙ ap (λ (i : ℕ). packed_keys (part i 64 s)) e)
      (et ∙ set_in s at ∙ ap (λ (i : ℕ). le32 (drop 32 (part i 64 s)) 0) e)

  pub source_disordered : (q : Bool) → q ≡ every (in_order (map key_of (take m ks))) (streams_at rows a (alike k w)) → not q ≡ true → set ≡ le32 s (at + 32) →
      false ≡ at_source (kept_at rows a) (op_at s j)
  source_disordered true f u et = no_bool u
  source_disordered false f u et =
      ap (λ (b : Bool). b && all_below (λ c. not (bit set c) || one_cell c (concat (streams_at rows a (alike k w)))) w) f ∙ source-kept et

  pub source_ordered : (q r : Bool) → q ≡ every (in_order (map key_of (take m ks))) (streams_at rows a (alike k w)) → not q ≡ false → set ≡ le32 s (at + 32) →
      r ≡ all_below (λ c. not (bit set c) || one_cell c (concat (streams_at rows a (alike k w)))) w → r ≡ at_source (kept_at rows a) (op_at s j)
  source_ordered q r f u et g =
      g ∙ ap (λ (b : Bool). b && all_below (λ c. not (bit set c) || one_cell c (concat (streams_at rows a (alike k w)))) w)
      (sym (flag_true q (every (in_order (map key_of (take m ks))) (streams_at rows a (alike k w))) f u)) ∙ source-kept et

-- the keys that the code lends, and what it asks of the rows
pub keys_count : (s : List ℕ) (j at m : ℕ) (ks : List ℕ) → Proper (record_at s j) → at ≡ record_start j → m ≡ get_or (record_at s j) 12 0 → record_start j + 64 ≤ length s →
    ks ≡ packed_keys (take (at + 64 - at) (drop at s)) → m ≡ length (take m ks)
keys_count s j at m ks p e em l es =
    let f = p.few in
    counted ks (packed_keys (part at 64 s)) 8 m (es ∙ ap packed_keys (cut s at 64)) (length-packed (part at 64 s) (length_part s at 64 (omega arith))) (omega arith)

pub fits_as : (s : List ℕ) (j : ℕ) (rows : List ℕ) (a k w : ℕ) → SourceAt s j rows a → k ≡ streams_in (record_at s j) → w ≡ width_in (record_at s j) →
    (w ≤ 32) × (streams_fit rows a (alike k w) ≡ true)
fits_as s j rows a k w p ek ew = let v = p.proper.wide in (omega arith, ap₂ (λ (m n : ℕ). streams_fit rows a (alike m n)) ek ew ∙ p.form)

-- ---- the loop over the records
module _ (s : List ℕ) (n : ℕ) (t : Taken s n) (rows : List ℕ) (j a : ℕ) (h : j < n) where
  module _ (k w : ℕ) (ek : k ≡ streams_in (record_at s j)) (ew : w ≡ width_in (record_at s j)) where
    kept_step : kept_from rows a (ops_from s n j) ≡ at_source (kept_at rows a) (op_at s j) && kept_from rows (streams_end rows a (alike k w)) (ops_from s n (j + 1))
    kept_step =
        ap (kept_from rows a) (ops_step s n j h)
        ∙ ap (λ (us : List ℕ). at_source (kept_at rows a) (op_at s j) && kept_from rows (streams_end rows a us) (ops_from s n (j + 1)))
        (own_widths (record_at s j) (proper_at s n t j h) [] ∙ append-nil (alike (streams_in (record_at s j)) (width_in (record_at s j))) ∙ sym (ap₂ alike ek ew))

    pub kept_fails : (q x : Bool) → q ≡ at_source (kept_at rows a) (op_at s j) → not q ≡ true → kept_from rows a (ops_from s n j) ≡ x → false ≡ x
    kept_fails true x e f g = no_bool f
    kept_fails false x e f g = ap (λ (b : Bool). b && kept_from rows (streams_end rows a (alike k w)) (ops_from s n (j + 1))) e ∙ sym kept_step ∙ g

    pub kept_more : (q x : Bool) (b : ℕ) → q ≡ at_source (kept_at rows a) (op_at s j) → not q ≡ false → b ≡ streams_end rows a (alike k w) → kept_from rows a (ops_from s n j) ≡ x →
        kept_from rows b (ops_from s n (j + 1)) ≡ x
    kept_more q x b e f v g =
        ap (λ (i : ℕ). kept_from rows i (ops_from s n (j + 1))) v
        ∙ ap (λ (y : Bool). y && kept_from rows (streams_end rows a (alike k w)) (ops_from s n (j + 1))) (sym (flag_true q (at_source (kept_at rows a) (op_at s j)) e f))
        ∙ sym kept_step ∙ g

pub kept_start : (s : List ℕ) (n : ℕ) → Taken s n → (rows : List ℕ) → kept_from rows 0 (ops_from s n 0) ≡ sources_ok (rows_in (plan_of s) rows) (plan_of s)
kept_start s n t rows = ap (kept_from rows 0) (ops_start s n t) ∙ sym (declared_is (plan_of s) rows)

pub kept_end : (s : List ℕ) (n : ℕ) (rows : List ℕ) (j a : ℕ) (x : Bool) → n ≤ j → kept_from rows a (ops_from s n j) ≡ x → true ≡ x
kept_end s n rows j a x h g = sym (ap (kept_from rows a) (ops_none s n j h)) ∙ g
