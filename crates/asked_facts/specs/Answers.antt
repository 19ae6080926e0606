-- What a row's bytes say of its facts. Assumes nothing.
use Rattle.std.specs.Prelude.{◌≡◌, refl, not, List, ℕ, zero, suc, ◌+◌, ◌<◌, eqb, ltb, length, get_or}
use Rattle.std.proofs.Common.{sym, ap, ap₂, ◌∙◌, arith, lt-ltb, ne_eqb}
use Rattle.row_order.specs.Packed.{bit}
use Rattle.scan.specs.Bytes.{part, le32}
use Rattle.scan.specs.Parts.{at_part}
use Rattle.class_tables.specs.Filling.{read}
use Rattle.semantics.specs.Facts.{cl, is_c, is_nil, known_order}
use Rattle.key_lists.specs.Lists.{length_keys}
use Rattle.facts.specs.Known.{known}
use Rattle.facts.specs.Reading.{classes, constants, no_order}
use Rattle.fact_slots.specs.Slots.{loaded}
use Rattle.asked_facts.specs.Asked.{told, FactRow}

-- the table's entry is the class's lowest, and a column
pub lowest_is : (b : List ℕ) (c : ℕ) → FactRow b → c < 32 → get_or b (16 + c) 0 ≡ cl (told b) c
lowest_is b c r h = sym (at_part b 16 32 c h) ∙ read (part 16 32 b) c h ∙ sym (classes (loaded b) r.fine c)

pub lowest_below : (b : List ℕ) (c x : ℕ) → FactRow b → c < 32 → x ≡ cl (told b) c → x < 32
lowest_below b c x r h e = let d = r.fine.down c in let z = classes (loaded b) r.fine c in omega arith

-- the set holds the constants
pub constants_are : (b : List ℕ) (s : ℕ) → FactRow b → s ≡ le32 b 4 → (c : ℕ) → bit s c ≡ is_c (told b) c
constants_are b s r e c = ap (λ x. bit x c) e ∙ sym (constants (loaded b) r.fine c)

-- ---- the known order

pub ordered_is : (b : List ℕ) → FactRow b → ltb 0 (get_or b 1 0) ≡ not (is_nil (known_order (told b)))
ordered_is b r = go (get_or b 1 0) ∙ sym (ap not (no_order (loaded b) r.fine))
  where
    go : (n : ℕ) → ltb 0 n ≡ not (eqb n 0)
    go zero = refl
    go (suc n) = lt-ltb 0 (suc n) (omega arith) ∙ sym (ap not (ne_eqb (suc n) 0 (λ e. absurd (omega arith))))

pub lengths_are : (a b : List ℕ) → eqb (get_or a 1 0) (get_or b 1 0) ≡ eqb (length (known_order (told a))) (length (known_order (told b)))
lengths_are a b = sym (ap₂ eqb (length_keys (get_or a 1 0) (loaded a).order.word) (length_keys (get_or b 1 0) (loaded b).order.word))
