-- The plan of a tree of the arena: its nodes, and whether it has a partial sort.
use Rattle.std.specs.Prelude.{◌≡◌, Bool, List, ℕ, suc, ◌+◌, ◌*◌, ◌≤◌, ◌<◌, length, get_or, drop}
use Rattle.std.proofs.Math.Path.{refl, sym, ap, ap₂}
use Rattle.std.proofs.Common.{◌∙◌, arith, add-one, drop_of_length-le, drop-cons}
use Rattle.std.proofs.Math.Bool.{true, false, ◌||◌}
use Rattle.std.proofs.Math.Dec.{eqb}
use Rattle.plan.specs.Numbers.{code}
use Rattle.walks.specs.Marks.{Tree, strip, op_t, size_t}
use Rattle.walks.specs.Counted.{has_partial_sort}
use Rattle.plan_codec.specs.Decode.{decode}
use Rattle.arena.specs.Arena.{index, slot}
use Rattle.arena.specs.Laws.{below_at}
use Rattle.plan_context.specs.View.{tree_in, tree_of, forest}
use Rattle.plan_context.specs.Nodes.{Seen, seen}
use Rattle.settling.specs.Reading.{Loaded}
use Rattle.record_fields.specs.Encoded.{code_byte}
use Rattle.plan.specs.Forest.{size}
use Rattle.plan_context.specs.Records.{plan_t}
use Rattle.scan.specs.Below.{or_false}
use Rattle.walks.proofs.Theorems.Common.Trees.{strip-size}

abbrev pub partial_t : Tree → Bool
partial_t t = eqb (code (op_t t)) 14 || has_partial_sort (strip t.kids)

-- None of the first j children has one
pub record Looking (m ks : List ℕ) (j : ℕ) : Type 0 where
  pub low : j ≤ length ks
  pub is : has_partial_sort (strip (forest m ks)) ≡ has_partial_sort (strip (forest m (drop j ks)))

module _ (m : List ℕ) (u i : ℕ) (a : Loaded m u) (h : i < u) where
  abbrev ks : List ℕ
  ks = (slot m i).kids

  pub shown : Seen m i
  shown = seen m i (a.proper i h)

  tree_is : partial_t (tree_in m i) ≡ eqb (code (decode (slot m i).rec)) 14 || has_partial_sort (strip (forest m (slot m i).kids))
  tree_is = ap partial_t shown.tree

  code_is : get_or (slot m i).rec 0 0 ≡ code (decode (slot m i).rec)
  code_is = code_byte (slot m i).rec (length ks) shown.canon

  pub is_one : eqb (get_or (slot m i).rec 0 0) 14 ≡ true → true ≡ partial_t (tree_in m i)
  is_one e = sym (tree_is ∙ ap (λ b. b || has_partial_sort (strip (forest m ks))) (ap (λ n. eqb n 14) (sym code_is) ∙ e))

  pub looking_none : Looking m (slot m i).kids 0
  looking_none = record { low = omega arith; is = refl }

  module _ (j : ℕ) (q : Looking m (slot m i).kids j) (l : j < length (slot m i).kids) where
    abbrev t : Tree
    t = tree_of m (get_or (slot m i).kids j 0)

    split : has_partial_sort (strip (forest m (drop j (slot m i).kids))) ≡ partial_t (tree_in m (index (get_or (slot m i).kids j 0)))
        || has_partial_sort (strip (forest m (drop (suc j) (slot m i).kids)))
    unfolding forest
    split = ap (λ k. has_partial_sort (strip (forest m k))) (drop-cons ks j 0 l) ∙ assoc (eqb (code (op_t t)) 14) (has_partial_sort (strip t.kids))
        (has_partial_sort (strip (forest m (drop (suc j) ks))))
      where
        assoc : (a b c : Bool) → a || (b || c) ≡ (a || b) || c
        assoc true b c = refl
        assoc false b c = refl

    pub looking_next : index (get_or (slot m i).kids j 0) < i
    looking_next = let x = below_at (2 * i) ks j shown.below l in omega arith

    pub looking_found : (b : Bool) → b ≡ partial_t (tree_in m (index (get_or (slot m i).kids j 0))) → b ≡ true → true ≡ partial_t (tree_in m i)
    looking_found b e z =
        sym (tree_is ∙ ap (λ x. eqb (code (decode (slot m i).rec)) 14 || x)
        (q.is ∙ split ∙ ap (λ x. x || has_partial_sort (strip (forest m (drop (suc j) ks)))) (sym e ∙ z))
        ∙ or_true (eqb (code (decode (slot m i).rec)) 14))
      where
        or_true : (b : Bool) → b || true ≡ true
        or_true true = refl
        or_true false = refl

    pub looking_more : (b : Bool) → b ≡ partial_t (tree_in m (index (get_or (slot m i).kids j 0))) → b ≡ false → Looking m (slot m i).kids (j + 1)
    looking_more b e z = record {
      low = omega arith;
      is = rw (add-one j) (q.is ∙ split ∙ ap (λ x. x || has_partial_sort (strip (forest m (drop (suc j) ks)))) (sym e ∙ z));
    }

  pub looking_all : (j : ℕ) → length (slot m i).kids ≤ j → Looking m (slot m i).kids j → eqb (get_or (slot m i).rec 0 0) 14 ≡ false
      → false ≡ partial_t (tree_in m i)
  unfolding forest
  looking_all j l q e =
      sym (tree_is ∙ ap₂ ◌||◌ (ap (λ n. eqb n 14) (sym code_is) ∙ e)
      (q.is ∙ ap (λ k. has_partial_sort (strip (forest m k))) (drop_of_length-le ks {i = j} l)))

-- ---- of the plan

pub plan_size : (t : Tree) → size (plan_t t) ≡ size_t t
plan_size t = let x = strip-size t.kids in omega arith

pub partial_plan : (t : Tree) → has_partial_sort (plan_t t) ≡ partial_t t
partial_plan t = ap (λ b. eqb (code (op_t t)) 14 || b) (or_false (has_partial_sort (strip t.kids)))
