-- A copied row with another order in the known order's place. Assumes nothing.
use Rattle.std.specs.Prelude.{◌≡◌, refl, List, [], ◌++◌, ℕ, ◌+◌, ◌*◌, ◌^◌, ◌≤◌, ◌<◌, length, get_or, take, drop, set}
use Rattle.std.proofs.Common.{sym, ap, ◌∙◌, subst, arith, length-append, get_or-take, get_or-drop, get_or-set_same, get_or-set_other, drop-set-lt, take_at, drop_at, length-take-le, drop-drop}
use Rattle.scan.specs.Bytes.{part, le32}
use Rattle.scan.specs.Parts.{splice, splice-length}
use Rattle.semantics.specs.Facts.{reorder, nf}
use Rattle.byte_rows.specs.Rows.{low_bytes}
use Rattle.key_lists.specs.declared.Keys.{Keys}
use Rattle.key_lists.specs.Keys.{keys_of, Keyed}
use Rattle.facts.specs.Known.{Says}
use Rattle.facts.specs.Saying.{says-ordered}
use Rattle.fact_slots.specs.Slots.{le64, loaded, word_bytes}
use Rattle.fact_slots.specs.Storing.{word_again}
use Rattle.asked_facts.specs.Asked.{told, FactRow}
use Rattle.fact_slots.specs.Copies.{loaded_kept}

module _ (o W : List ℕ) (h : 48 ≤ length o) (l : length W ≡ 8) where
  -- the row with the word's bytes in their place
  abbrev placed : List ℕ
  placed = splice o 8 8 W

  front : (j : ℕ) → j < 8 → get_or placed j 0 ≡ get_or o j 0
  front j m = sym (get_or-take 8 placed j 0 m) ∙ ap (λ x. get_or x j 0) (take_at (take 8 o) (W ++ drop 8 (drop 8 o)) 8 (length-take-le 8 o (omega arith)))
      ∙ get_or-take 8 o j 0 m

  middle : drop 8 placed ≡ W ++ drop 8 (drop 8 o)
  middle = drop_at (take 8 o) (W ++ drop 8 (drop 8 o)) 8 (length-take-le 8 o (omega arith))

  back : part 16 32 placed ≡ part 16 32 o
  back = ap (take 32) (sym (drop-drop 8 8 placed) ∙ ap (drop 8) middle ∙ drop_at W (drop 8 (drop 8 o)) 8 l ∙ drop-drop 8 8 o)

-- a record's row, its order and the order's length set
set_order : (o : List ℕ) (w n : ℕ) → 48 ≤ length o → w < 2 ^ 64
    → loaded (set (splice o 8 8 (low_bytes (word_bytes w))) 1 n) ≡ record {
      width = (loaded o).width;
      streams = (loaded o).streams;
      consts = (loaded o).consts;
      low = (loaded o).low;
      order = record { word = w; len = n };
    }
set_order o w n h l =
    let W : List ℕ = low_bytes (word_bytes w) in
    let p : List ℕ = splice o 8 8 W in
    let m : length p ≡ length o = splice-length o W 8 8 (omega arith) refl in
    let at_other : (j : ℕ) → (j ≡ 1 → ⊥) → get_or (set p 1 n) j 0 ≡ get_or p j 0 = λ j d. get_or-set_other p 1 j n 0 d in
    let at_front : (j : ℕ) → (j ≡ 1 → ⊥) → j < 8 → get_or (set p 1 n) j 0 ≡ get_or o j 0 = λ j d k. at_other j d ∙ front o W h refl j k in
    let a₀ = at_front 0 (λ z. omega arith) (omega arith) in let a₂ = at_front 2 (λ z. omega arith) (omega arith) in
    let a₃ = at_front 3 (λ z. omega arith) (omega arith) in
    let a₄ = at_front 4 (λ z. omega arith) (omega arith) in let a₅ = at_front 5 (λ z. omega arith) (omega arith) in
    let a₆ = at_front 6 (λ z. omega arith) (omega arith) in let a₇ = at_front 7 (λ z. omega arith) (omega arith) in
    let a₁ = get_or-set_same p 1 n 0 (omega arith) in
    let x : le64 (set p 1 n) 8 ≡ w = word_read p n ∙ ap (λ d. le32 d 0 + le32 d 4 * 4294967296) (middle o W h refl) ∙ word_again w l in
    let q : part 16 32 (set p 1 n) ≡ part 16 32 o = ap (take 32) (drop-set-lt 16 p 1 n (omega arith)) ∙ back o W h refl in
    λ i. record {
      width = a₀ i;
      streams = a₂ i + 256 * a₃ i;
      consts = a₄ i + 256 * a₅ i + 65536 * a₆ i + 16777216 * a₇ i;
      low = q i;
      order = record { word = x i; len = a₁ i };
    }
  where
    word_read : (p : List ℕ) (n : ℕ) → le64 (set p 1 n) 8 ≡ le32 (drop 8 p) 0 + le32 (drop 8 p) 4 * 4294967296
    word_read p n = read_drop (set p 1 n) ∙ ap (λ d. le32 d 0 + le32 d 4 * 4294967296) (drop-set-lt 8 p 1 n (omega arith))
      where
        read_drop : (l : List ℕ) → le64 l 8 ≡ le32 (drop 8 l) 0 + le32 (drop 8 l) 4 * 4294967296
        read_drop l =
            let g : (j : ℕ) → get_or l (8 + j) 0 ≡ get_or (drop 8 l) j 0 = λ j. sym (get_or-drop 8 l j 0) in
            λ i. (g 0 i + 256 * g 1 i + 65536 * g 2 i + 16777216 * g 3 i) + (g 4 i + 256 * g 5 i + 65536 * g 6 i + 16777216 * g 7 i) * 4294967296

-- a copy of b with the normal form of the keys
pub order_says : (b d : List ℕ) (keys order : Keys) (n : ℕ) → FactRow b → order.word < 2 ^ 64 → Keyed (nf (told b) [] (keys_of keys)) order → n ≡ order.len
    → Says (reorder (told b) (keys_of keys)) (loaded (set (splice (take 48 b ++ d) 8 8 (low_bytes (word_bytes order.word))) 1 n))
order_says b d keys order n r l k e =
    let h : 48 ≤ length (take 48 b ++ d) = (let x = length-append (take 48 b) d in let y = length-take-le 48 b r.long in omega arith) in
    let z = loaded_kept b d r.long in
    let x : loaded (set (splice (take 48 b ++ d) 8 8 (low_bytes (word_bytes order.word))) 1 n) ≡ record {
      width = (loaded b).width;
      streams = (loaded b).streams;
      consts = (loaded b).consts;
      low = (loaded b).low;
      order = order;
    } =
    set_order (take 48 b ++ d) order.word n h l
    ∙ (λ i. record {
      width = (z i).width;
      streams = (z i).streams;
      consts = (z i).consts;
      low = (z i).low;
      order = record { word = order.word; len = e i };
    }) in
    subst (Says _) (sym x) (says-ordered (loaded b) (loaded b).streams order _ r.fine k)
