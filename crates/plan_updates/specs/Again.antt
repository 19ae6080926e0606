-- A node that is in a slot already.
use Rattle.std.specs.Prelude.{◌≡◌, refl, Bool, true, false, ◌&&◌, List, [], ◌∷◌, ℕ, suc, ◌+◌, ◌*◌, ◌%◌, ◌≤◌, ◌<◌, eqb, length, get_or, drop}
use Rattle.std.proofs.Common.{sym, ap, ap₂, ◌∙◌, arith, add-one, eqb-true, drop_of_length-le, drop-cons}
use Rattle.scan.specs.Below.{and_left, and_right, and_true, and_assoc}
use Rattle.plan_codec.specs.Decode.{decode}
use Rattle.walks.specs.Marks.{node, set_mark}
use Rattle.arena.specs.Arena.{slot_size, record_size, slot}
use Rattle.plan_format.specs.Record.{children}
use Rattle.arena.specs.Laws.{index_even}
use Rattle.plan_context.specs.View.{tree_in, forest, Grown, Puts}
use Rattle.plan_context.specs.Nodes.{proper, few_over, Seen, seen}
use Rattle.plan_updates.specs.Putting.{put_over}

-- Two lists of numbers are equal
abbrev pub same : List ℕ → List ℕ → Bool
same [] [] = true
same [] (y ∷ k) = false
same (x ∷ l) [] = false
same (x ∷ l) (y ∷ k) = eqb x y && same l k

same-is : (l k : List ℕ) → same l k ≡ true → l ≡ k
same-is [] [] e = refl
same-is [] (y ∷ k) e = absurd (let z : ◌≡◌ {A = ℕ} 0 1 = cc in omega arith)
same-is (x ∷ l) [] e = absurd (let z : ◌≡◌ {A = ℕ} 0 1 = cc in omega arith)
same-is (x ∷ l) (y ∷ k) e = ap₂ ◌∷◌ (eqb-true x y (and_left (eqb x y) (same l k) e)) (same-is l k (and_right (eqb x y) (same l k) e))

-- ---- element by element: b says whether those before j are equal

pub record Comparing (l k : List ℕ) (j : ℕ) (b : Bool) : Type 0 where
  pub low : j ≤ length l
  pub is : b && same (drop j l) (drop j k) ≡ same l k

pub comparing_none : (l k : List ℕ) → Comparing l k 0 true
comparing_none l k = record { low = omega arith; is = refl }

pub comparing_more : (l k : List ℕ) (j : ℕ) (b : Bool) → length l ≡ length k → j < length l → Comparing l k j b
    → Comparing l k (j + 1) (b && eqb (get_or l j 0) (get_or k j 0))
comparing_more l k j b e h p =
    record {
      low = omega arith;
      is = rw (add-one j) (and_assoc b (eqb (get_or l j 0) (get_or k j 0)) (same (drop (suc j) l) (drop (suc j) k))
          ∙ ap (λ x. b && x) (sym (ap₂ same (drop-cons l j 0 h) (drop-cons k j 0 (omega arith)))) ∙ p.is);
    }

pub comparing_all : (l k : List ℕ) (j : ℕ) (b : Bool) → length l ≡ length k → length l ≤ j → Comparing l k j b → b ≡ same l k
comparing_all l k j b e h p =
    sym (and_true b) ∙ sym (ap₂ (λ x y. b && same x y) (drop_of_length-le l {i = j} h) (drop_of_length-le k {i = j} (omega arith))) ∙ p.is

-- ---- what the comparison asks, and what it gives

module _ (m : List ℕ) (u : ℕ) (r ks : List ℕ) (p : Puts m u r ks) (i : ℕ) (h : i < u) where
  shown : Seen m i
  shown = seen m i (p.arena.all i h).proper

  pub again_asks : ((i + 1) * slot_size ≤ length m) × (length (slot m i).rec ≡ record_size) × (length r ≡ record_size)
  again_asks = let s = p.arena.slots in (omega arith, shown.long, (proper m r ks (put_over m u r ks p)).long)

  pub again_counts : same r (slot m i).rec ≡ true → ((i + 1) * slot_size ≤ length m) × (length ks ≡ children (slot m i).rec) × (length ks ≤ 8)
  again_counts e =
      let o = put_over m u r ks p in
      (again_asks.0, sym (proper m r ks o).count ∙ ap children (same-is r (slot m i).rec e), few_over m r ks o)

  pub again_grown : same r (slot m i).rec ≡ true → same ks (slot m i).kids ≡ true → Grown m u m (record { used = u; root = 2 * i })
      (node (decode r) false (forest m ks)) (u + 1)
  again_grown e f =
      let n : 2 * i % 2 ≡ 0 = omega arith in
      record {
        arena = p.arena;
        old = refl;
        more = omega arith;
        here = omega arith;
        tree = ap₂ (λ x y. set_mark (eqb x 1) (tree_in m y)) n (index_even i)
            ∙ ap (set_mark false) (shown.tree ∙ ap₂ (λ x y. node (decode x) false (forest m y)) (sym (same-is r (slot m i).rec e))
            (sym (same-is ks (slot m i).kids f)));
        room = omega arith;
      }
