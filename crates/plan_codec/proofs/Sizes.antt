-- The record of an operator whose columns lie below widths of at most 32 is 64 bytes.
use Rattle.std.specs.Prelude.{◌≡◌, refl, Bool, true, false, cond, ◌&&◌, List, [], ◌∷◌, ◌++◌, map, ℕ, zero, suc, ◌/◌, ◌%◌, ◌^◌, ◌≤◌, leb, ltb, eqb, length, get_or}
use Rattle.std.proofs.Common.{sym, ap, ap₂, ◌∙◌, arith, length-append, eqb-true, leb-true, ltb-true, lt-ltb}
use Rattle.row_order.specs.Iso.{Key}
use Rattle.scan.specs.Below.{and_left, and_right, or_false}
use Rattle.plan.specs.Op.{On, Op, source, filter, projection, union, repartition, coalesce, sort_op, merge_op, global_limit, local_limit, sort_merge_join, hash_join, output_requirement, partial_sort, aggregate}
use Rattle.plan.specs.Numbers.{kind_number}
use Rattle.plan.specs.WellFormed.{between, every, few, fields_ok, below, distinct, columns_fit, keys_fit, on_fit, set_fits, distribution_fits, columns_ok}
use Rattle.plan_format.specs.declared.Fields.{Fields}
use Rattle.plan_format.specs.Record.{either}
use Rattle.plan_format.specs.Writing.{four_bytes}
use Rattle.plan_roundtrip.specs.Files.{byte, every_append}
use Rattle.plan_codec.specs.NodeRecord.{NodeRecord}
use Rattle.plan_codec.specs.Encode.{fill, options_byte, key_bytes, fetch_number, marks_byte, keyed_set, head_bytes, to_bytes, record_of}
use Rattle.plan_codec.proofs.Bits.{both, known, marks_bits, options_bits}
use Rattle.plan_codec.proofs.Fill.{length-fill}
use Rattle.plan_codec.proofs.Keys.{on_columns}
use Rattle.plan_codec.proofs.Rules.{Rules, few_keys}

-- ---- lists of bytes

bytes_four : (x : ℕ) → every byte (four_bytes x) ≡ true
bytes_four x = ap₂ ◌&&◌ (lt-ltb (x % 256) 256 (omega arith))
    (ap₂ ◌&&◌ (lt-ltb (x / 256 % 256) 256 (omega arith))
    (ap₂ ◌&&◌ (lt-ltb (x / 65536 % 256) 256 (omega arith)) (ap₂ ◌&&◌ (lt-ltb (x / 16777216 % 256) 256 (omega arith)) refl)))

bytes_fill : (n : ℕ) (l : List ℕ) → every byte l ≡ true → every byte (fill n l) ≡ true
bytes_fill zero l h = refl
bytes_fill (suc n) [] h = bytes_fill n [] h
bytes_fill (suc n) (x ∷ l) h = both (byte x) (every byte (fill n l)) (and_left (byte x) (every byte l) h)
    (bytes_fill n l (and_right (byte x) (every byte l) h))

bytes_below : (w : ℕ) (l : List ℕ) → w ≤ 32 → below w l ≡ true → every byte l ≡ true
bytes_below w [] h e = refl
bytes_below w (c ∷ l) h e =
    let a = ltb-true c w (and_left (ltb c w) (below w l) e) in
    both (byte c) (every byte l) (lt-ltb c 256 (omega arith)) (bytes_below w l h (and_right (ltb c w) (below w l) e))

bytes_fit : (w : ℕ) (l : List ℕ) → w ≤ 32 → columns_fit w l ≡ true → every byte l ≡ true
bytes_fit w l h e = bytes_below w l h (and_left (below w l) (distinct l) e)

bytes_keys : (ks : List Key) → every byte (map (λ k. k.col) ks) ≡ true → every byte (key_bytes ks) ≡ true
bytes_keys [] h = refl
bytes_keys (k ∷ ks) h =
    let o = (options_bits k.desc k.first).2 in
    both (byte k.col) (byte (options_byte k) && every byte (key_bytes ks)) (and_left (byte k.col) (every byte (map (λ k. k.col) ks)) h)
    (both (byte (options_byte k)) (every byte (key_bytes ks)) (lt-ltb (options_byte k) 256 (omega arith))
    (bytes_keys ks (and_right (byte k.col) (every byte (map (λ k. k.col) ks)) h)))

-- ---- the first 16 bytes

at_most : (b : Bool) (low high v : ℕ) → either b (between low high v) (eqb v 0) ≡ true → v ≤ high
at_most true low high v e = leb-true v high (and_right (leb low v) (leb v high) (sym (or_false (between low high v)) ∙ e))
at_most false low high v e = let z = eqb-true v 0 e in omega arith

role_small : (j d p : Bool) (n v : ℕ) → n ≤ 8 → either j (leb v 7) (either d (leb v 2) (either p (leb 1 v && ltb v n) (eqb v 0))) ≡ true → v ≤ 8
role_small true d p n v h e = let a = leb-true v 7 (sym (or_false (leb v 7)) ∙ e) in omega arith
role_small false true p n v h e = let a = leb-true v 2 (sym (or_false (leb v 2)) ∙ e) in omega arith
role_small false false true n v h e = let a = ltb-true v n (and_right (leb 1 v) (ltb v n) (sym (or_false (leb 1 v && ltb v n)) ∙ e)) in omega arith
role_small false false false n v h e = let a = eqb-true v 0 e in omega arith

module _ (f : Fields) (x : NodeRecord) (g : Rules f x) where
  bytes_head : x.children ≤ 8 → every byte (head_bytes x) ≡ true
  bytes_head h =
      let n : ℕ = length x.keys in
      let m : ℕ = marks_byte x.preserve x.hash x.unbounded in
      let ks = few_keys f (f.hash && x.hash) n g.count in
      let st = at_most f.streams 1 64 x.streams g.streams in
      let wi = at_most f.width (cond f.groups n 1) 32 x.width g.width in
      let ro = role_small f.join f.distribution f.prefix n x.role ks g.role in
      let ki = leb-true (kind_number x.kind) 15 (and_right (leb 1 (kind_number x.kind)) (leb (kind_number x.kind) 15) (known x.kind)) in
      let ma = ltb-true m 8 (marks_bits x.preserve x.hash x.unbounded).small in
      let start : every byte (kind_number x.kind ∷ x.children ∷ x.streams ∷ m ∷ []) ≡ true =
      ap₂ ◌&&◌ (lt-ltb (kind_number x.kind) 256 (omega arith))
      (ap₂ ◌&&◌ (lt-ltb x.children 256 (omega arith))
      (ap₂ ◌&&◌ (lt-ltb x.streams 256 (omega arith)) (ap₂ ◌&&◌ (lt-ltb m 256 (omega arith)) refl))) in
      let end : every byte (n ∷ x.width ∷ x.role ∷ 0 ∷ []) ≡ true = ap₂ ◌&&◌ (lt-ltb n 256 (omega arith))
      (ap₂ ◌&&◌ (lt-ltb x.width 256 (omega arith)) (ap₂ ◌&&◌ (lt-ltb x.role 256 (omega arith)) refl)) in
      every_append byte (kind_number x.kind ∷ x.children ∷ x.streams ∷ m ∷ [])
      (four_bytes (fetch_number x.fetch) ++ (four_bytes x.skip ++ (n ∷ x.width ∷ x.role ∷ 0 ∷ []))) start
      (every_append byte (four_bytes (fetch_number x.fetch)) (four_bytes x.skip ++ (n ∷ x.width ∷ x.role ∷ 0 ∷ []))
      (bytes_four (fetch_number x.fetch))
      (every_append byte (four_bytes x.skip) (n ∷ x.width ∷ x.role ∷ 0 ∷ []) (bytes_four x.skip) end))

  pub bytes_record : x.children ≤ 8 → every byte (map (λ k. k.col) x.keys) ≡ true → every byte x.tail ≡ true → every byte (to_bytes x) ≡ true
  bytes_record h ks ta =
      every_append byte (head_bytes x) (fill 16 (key_bytes x.keys) ++ x.tail) (bytes_head h)
      (every_append byte (fill 16 (key_bytes x.keys)) x.tail (bytes_fill 16 (key_bytes x.keys) (bytes_keys x.keys ks)) ta)

pub length_record : (x : NodeRecord) → length x.tail ≡ 32 → length (to_bytes x) ≡ 64
length_record x h =
    let a = length-append (fill 16 (key_bytes x.keys)) x.tail in
    let b = length-fill 16 (key_bytes x.keys) in
    let c = length-append (head_bytes x) (fill 16 (key_bytes x.keys) ++ x.tail) in
    omega arith

-- ---- columns

pub record Small (x : NodeRecord) : Type 0 where
  pub keys : every byte (map (λ k. k.col) x.keys) ≡ true
  pub tail : every byte x.tail ≡ true

module _ (k : ℕ) (ws : List ℕ) (h₀ : get_or ws 0 0 ≤ 32) (h₁ : get_or ws 1 0 ≤ 32) where
  fit_keys : (ks : List Key) → keys_fit (get_or ws 0 0) ks ≡ true → every byte (map (λ k. k.col) ks) ≡ true
  fit_keys ks c = bytes_fit (get_or ws 0 0) (map (λ k. k.col) ks) h₀ c

  on_left : (on : List On) → on_fit (get_or ws 0 0) (get_or ws 1 0) on ≡ true → every byte (map (λ k. k.col) (map (λ k. k.key) on)) ≡ true
  on_left on c =
      ap (every byte) (on_columns on)
      ∙ bytes_fit (get_or ws 0 0) (map (λ k. k.key.col) on) h₀
      (and_left (columns_fit (get_or ws 0 0) (map (λ k. k.key.col) on)) (columns_fit (get_or ws 1 0) (map (λ k. k.other) on)) c)

  on_right_lem : (on : List On) → on_fit (get_or ws 0 0) (get_or ws 1 0) on ≡ true → every byte (fill 32 (map (λ k. k.other) on)) ≡ true
  on_right_lem on c =
      bytes_fill 32 (map (λ k. k.other) on)
      (bytes_fit (get_or ws 1 0) (map (λ k. k.other) on) h₁
      (and_right (columns_fit (get_or ws 0 0) (map (λ k. k.key.col) on)) (columns_fit (get_or ws 1 0) (map (λ k. k.other) on)) c))

  pub small_of : (o : Op) → fields_ok o ≡ true → columns_ok o ws ≡ true → Small (record_of k o)
  small_of (source s) e c =
      let a = and_left (between 1 32 s.width) (between 1 64 s.streams)
      (and_left (between 1 32 s.width && between 1 64 s.streams) (ltb s.constants (2 ^ 32) && few s.keys) e) in
      record {
        keys = bytes_fit s.width (map (λ k. k.col) s.keys) (leb-true s.width 32 (and_right (leb 1 s.width) (leb s.width 32) a))
            (and_left (keys_fit s.width s.keys) (set_fits s.width s.constants) c);
        tail = bytes_fill 32 (four_bytes s.constants)
            (bytes_four s.constants);
      }
  small_of filter e c = record { keys = refl; tail = refl }
  small_of (projection cols) e c = record { keys = refl; tail = bytes_fill 32 cols (bytes_below (get_or ws 0 0) cols h₀ c) }
  small_of union e c = record { keys = refl; tail = refl }
  small_of (repartition p n h ks) e c = record { keys = fit_keys ks c; tail = refl }
  small_of (coalesce f) e c = record { keys = refl; tail = refl }
  small_of (sort_op p ks f) e c = record { keys = fit_keys ks c; tail = refl }
  small_of (merge_op ks f) e c = record { keys = fit_keys ks c; tail = refl }
  small_of (global_limit s f note) e c = record { keys = fit_keys note c; tail = refl }
  small_of (local_limit f note) e c = record { keys = fit_keys note c; tail = refl }
  small_of (sort_merge_join t on) e c = record { keys = on_left on c; tail = on_right_lem on c }
  small_of (hash_join t on) e c = record { keys = on_left on c; tail = on_right_lem on c }
  small_of (output_requirement ks d f) e c =
      record {
        keys = fit_keys ks (and_left (keys_fit (get_or ws 0 0) ks) (distribution_fits (get_or ws 0 0) d) c);
        tail = bytes_fill 32 (four_bytes (keyed_set d))
            (bytes_four (keyed_set d));
      }
  small_of (partial_sort p ks n f) e c = record { keys = fit_keys ks c; tail = refl }
  small_of (aggregate ks n) e c = record { keys = fit_keys ks c; tail = refl }
