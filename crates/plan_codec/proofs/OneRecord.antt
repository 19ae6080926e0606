-- One record and one operator: each is read and written as the other, by the same rules.
use Rattle.std.specs.Prelude.{◌≡◌, true, List, [], ◌∷◌, ℕ, zero, suc, ◌+◌, ◌≤◌, ◌<◌, leb, length, get_or, drop, Err}
use Rattle.std.proofs.Math.Path.{refl, sym, ap, ap₂}
use Rattle.std.proofs.Common.{◌∙◌, arith, length-drop, get_or-drop, eqb-true, leb-true, ltb-true}
use Rattle.std.proofs.Math.Bool.{cond}
use Rattle.scan.specs.Below.{and_left, and_right}
use Rattle.scan.specs.Bytes.{le32}
use Rattle.plan.specs.Op.{Op, source, filter, projection, union, repartition, coalesce, sort_op, merge_op, global_limit, local_limit, sort_merge_join, hash_join, output_requirement, partial_sort, aggregate, kind}
use Rattle.plan.specs.Numbers.{kind_number, kind_of, Accepted}
use Rattle.plan.specs.WellFormed.{between, every, fields_ok, children_ok, width, union_ok, columns_ok}
use Rattle.plan.specs.declared.Refusal.TheVariants.{Field, Column, Width}
use Rattle.plan_format.specs.Fields.{fields_of}
use Rattle.plan_format.specs.Record.{kind_byte, children, fields, kind_ok, record_ok}
use Rattle.plan_format.specs.Record.{children_ok as count_ok}
use Rattle.plan_format.specs.LastPass.{node_refusal}
use Rattle.plan_roundtrip.specs.Files.{byte}
use Rattle.plan_codec.specs.Decode.{from_bytes, operator_of, decode}
use Rattle.plan_codec.specs.Encode.{to_bytes, record_of, encode}
use Rattle.plan_codec.proofs.Bits.{both, kind_back, number_back, known, fetch_fits, fetch_ok_lem}
use Rattle.plan_codec.proofs.Rules.{Rules, fields_same, rules_bytes, bytes_rules, bytes_same}
use Rattle.plan_codec.proofs.FromRecord.{record_back, record_fields, operator_kind}
use Rattle.plan_codec.proofs.ToRecord.{rules_of, few_of, operator_back, kind_of_lem, children_of, fits_of}
use Rattle.plan_codec.proofs.NodeRules.{width_same, union_same, children_same, columns_same}
use Rattle.plan_codec.proofs.Sizes.{bytes_record, length_record, small_of}

-- a child count that some kind can have
few_children : (o : Op) (k : ℕ) → children_ok o k ≡ true → k ≤ 8
few_children (source s) k e = let z = eqb-true k 0 e in omega arith
few_children filter k e = let z = eqb-true k 1 e in omega arith
few_children (projection cols) k e = let z = eqb-true k 1 e in omega arith
few_children union k e = leb-true k 8 (and_right (leb 2 k) (leb k 8) e)
few_children (repartition p n h ks) k e = let z = eqb-true k 1 e in omega arith
few_children (coalesce f) k e = let z = eqb-true k 1 e in omega arith
few_children (sort_op p ks f) k e = let z = eqb-true k 1 e in omega arith
few_children (merge_op ks f) k e = let z = eqb-true k 1 e in omega arith
few_children (global_limit s f note) k e = let z = eqb-true k 1 e in omega arith
few_children (local_limit f note) k e = let z = eqb-true k 1 e in omega arith
few_children (sort_merge_join t on) k e = let z = eqb-true k 2 e in omega arith
few_children (hash_join t on) k e = let z = eqb-true k 2 e in omega arith
few_children (output_requirement ks d f) k e = let z = eqb-true k 1 e in omega arith
few_children (partial_sort p ks n f) k e = let z = eqb-true k 1 e in omega arith
few_children (aggregate ks n) k e = let z = eqb-true k 1 e in omega arith

-- ---- operator, record, operator

pub encode-children : (k : ℕ) (o : Op) → children (encode k o) ≡ k
unfolding encode
encode-children k o = children_of k o

module _ (k : ℕ) (o : Op) (e : fields_ok o ≡ true) where
  pub decode-encode : decode (encode k o) ≡ o
  unfolding decode encode
  decode-encode =
      let v = fits_of k o e in
      ap₂ operator_of (number_back (record_of k o).kind ∙ kind_of_lem k o) (fields_same (record_of k o) v.fetch v.skip (few_of k o e)) ∙ operator_back k o e

  pub encode_long : length (encode k o) ≡ 64
  unfolding encode
  encode_long = length_record (record_of k o) (fits_of k o e).tail

  rules_here : Rules (fields_of (kind_number (record_of k o).kind)) (record_of k o)
  rules_here = rw (kind_of_lem k o) (rules_of k o e)

  pub encode-rules : record_ok (encode k o) ≡ true
  unfolding encode
  encode-rules = let v = fits_of k o e in
      rules_bytes (record_of k o) (fields_of (kind_number (record_of k o).kind)) rules_here (fetch_fits (record_of k o).fetch v.fetch) v.skip

  pub encode-kind : children_ok o k ≡ true → kind_ok (encode k o) ≡ true
  unfolding encode
  encode-kind h =
      both (between 1 15 (kind_number (record_of k o).kind)) (count_ok (kind_number (record_of k o).kind) (record_of k o).children)
      (known (record_of k o).kind)
      (ap₂ count_ok (ap kind_number (kind_of_lem k o)) (children_of k o) ∙ children_same o k ∙ h)

  pub encode_bytes : (ws : List ℕ) → children_ok o k ≡ true → columns_ok o ws ≡ true → get_or ws 0 0 ≤ 32 → get_or ws 1 0 ≤ 32 → every byte (encode k o) ≡ true
  unfolding encode
  encode_bytes ws h c w v =
      let s = small_of k ws w v o e c in
      let n = children_of k o in
      let l = few_children o k h in
      bytes_record (fields_of (kind_number (record_of k o).kind)) (record_of k o) rules_here (omega arith) s.keys s.tail

  -- the last pass at this record, over children of widths ws
  pub node_same : (ws : List ℕ) → node_refusal (encode k o) ws ≡ cond (union_ok o ws)
      (cond (columns_ok o ws) (cond (leb (width o ws) 32) Accepted (Err Width)) (Err Column)) (Err Field)
  unfolding node_refusal
  node_same ws = λ i. cond (union_same k o ws i) (cond (columns_same k o ws e i) (cond (leb (width_same k o ws i) 32) Accepted (Err Width)) (Err Column)) (Err Field)

-- ---- record, operator, record

byte_at : (l : List ℕ) → every byte l ≡ true → (i : ℕ) → get_or l i 0 < 256
byte_at [] h i = omega arith
byte_at (x ∷ l) h zero = ltb-true x 256 (and_left (byte x) (every byte l) h)
byte_at (x ∷ l) h (suc i) = byte_at l (and_right (byte x) (every byte l) h) i

module _ (r : List ℕ) (long : length r ≡ 64) (by : every byte r ≡ true) (hk : kind_ok r ≡ true) (hr : record_ok r ≡ true) where
  at : (i : ℕ) → get_or r i 0 < 256
  at = byte_at r by

  small : (a : ℕ) → le32 r a < 4294967296
  small a = let b₀ = at a in let b₁ = at (a + 1) in let b₂ = at (a + 2) in let b₃ = at (a + 3) in omega arith

  ranged : between 1 15 (kind_byte r) ≡ true
  ranged = and_left (between 1 15 (kind_byte r)) (count_ok (kind_byte r) (children r)) hk

  rules : Rules (fields_of (kind_number (kind_of (kind_byte r)))) (from_bytes r)
  rules = rw (kind_back (kind_byte r) ranged) (bytes_rules (fields r) r long hr)

  tail_long : length (drop 32 r) ≡ 32
  tail_long = let l = length-drop 32 r in omega arith

  tail_at : (i : ℕ) → get_or (drop 32 r) i 0 < 256
  tail_at i = let e = get_or-drop 32 r i 0 in let b = at (32 + i) in omega arith

  pub encode-decode : encode (children r) (decode r) ≡ r
  unfolding encode decode
  encode-decode = ap to_bytes (record_back (from_bytes r) tail_long tail_at (kind_of (kind_byte r)) refl rules) ∙ bytes_same (fields r) r long hr at ranged

  pub decode-fields : fields_ok (decode r) ≡ true
  unfolding decode
  decode-fields = record_fields (from_bytes r) tail_long tail_at (fetch_ok_lem (le32 r 4) (small 4)) (small 8) (kind_of (kind_byte r)) rules

  pub decode-children : children_ok (decode r) (children r) ≡ true
  unfolding decode
  decode-children =
      sym (children_same (operator_of (kind_of (kind_byte r)) (from_bytes r)) (children r))
      ∙ ap (λ (n : ℕ). count_ok n (children r)) (ap kind_number (operator_kind (kind_of (kind_byte r)) (from_bytes r)) ∙ kind_back (kind_byte r) ranged)
      ∙ and_right (between 1 15 (kind_byte r)) (count_ok (kind_byte r) (children r)) hk
