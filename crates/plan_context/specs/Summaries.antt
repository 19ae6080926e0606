-- The summary of a node's tree, from those of its children.
use Rattle.std.specs.Prelude.{◌≡◌, refl, Bool, true, false, cond, not, ◌&&◌, ◌||◌, List, [], ◌∷◌, ℕ, zero, suc, ◌+◌, ◌-◌, ◌≤◌, ◌<◌, eqb, length, get_or, drop, None}
use Rattle.std.proofs.Common.{sym, ap, ap₂, ◌∙◌, subst, arith, drop_of_length-le, drop-cons}
use Rattle.plan.specs.Forest.{Forest, none, size}
use Rattle.plan.specs.Numbers.{no_fetch}
use Rattle.plan_codec.specs.Decode.{decode, fetch_of}
use Rattle.plan_codec.specs.Encode.{encode}
use Rattle.semantics.specs.Properties.{any_of, endless as endlessEach, fetches}
use Rattle.semantics.specs.Check.{check, wants_met}
use Rattle.walks.specs.Marks.{Marked, Tree, strip, known, node, plant, op_t, set_mark}
use Rattle.tree_summary.specs.declared.Summary.{Summary}
use Rattle.plan_context.specs.View.{tree_of, forest, Sums}
use Rattle.tree_summary.specs.Own.{fetch_in, fetch_is, endless_is, limit_is, own}
use Rattle.record_fields.specs.Encoded.{code_byte}
use Rattle.scan.specs.Below.{and_assoc}

-- a mark does not change it
pub sums_mark : (b : Bool) (t : Tree) (s : Summary) → Sums t s → Sums (set_mark b t) s
sums_mark b t s p = record { passes = p.passes; endless = p.endless; nodes = p.nodes; fetch = p.fetch }

-- It is that of the trees c: all pass, one is unbounded, their nodes together, the fetch of the first
pub record SumsEach (c : Forest Marked) (s : Summary) : Type 0 where
  pub passes : s.passes ≡ check (strip c)
  pub endless : s.endless ≡ any_of (endlessEach (strip c))
  pub nodes : s.nodes ≡ size c
  pub fetch : fetch_of s.fetch ≡ get_or (fetches (strip c)) 0 None

-- Over no children
abbrev pub of_none : Summary
of_none = record { passes = true; endless = false; nodes = 0; fetch = no_fetch }

sums_none : SumsEach none of_none
sums_none = record { passes = refl; endless = refl; nodes = refl; fetch = refl }

-- as the code adds a child before the others
abbrev pub before : Summary → Summary → Summary
before x s = record { passes = x.passes && s.passes; endless = x.endless || s.endless; nodes = x.nodes + s.nodes; fetch = x.fetch }

sums_more : (t : Tree) (c : Forest Marked) (x s : Summary) → Sums t x → SumsEach c s → SumsEach (plant t c) (before x s)
sums_more t c x s p q =
    let n = p.nodes in let k = q.nodes in
    record {
      passes = ap₂ ◌&&◌ p.passes q.passes ∙ and_assoc (wants_met (op_t t) (known t.kids)) (check (strip t.kids)) (check (strip c));
      endless = ap₂ ◌||◌ p.endless q.endless;
      nodes = omega arith;
      fetch = p.fetch;
    }

-- ---- child by child, from the last to the first

pub record Summing (m ks : List ℕ) (j : ℕ) (s : Summary) : Type 0 where
  pub low : j ≤ length ks
  pub sums : SumsEach (forest m (drop j ks)) s

pub summing_none : (m ks : List ℕ) (n : ℕ) → n ≡ length ks → Summing m ks n of_none
unfolding forest
summing_none m ks n e = record {
  low = omega arith;
  sums = subst (λ l. SumsEach (forest m l) of_none) (sym (drop_of_length-le ks {i = n} (omega arith)))
      sums_none;
}

pub summing_more : (m ks : List ℕ) (j : ℕ) (x s : Summary) → 0 < j → Sums (tree_of m (get_or ks (j - 1) 0)) x → Summing m ks j s
    → Summing m ks (j - 1) (before x s)
unfolding forest
summing_more m ks j x s h p q =
    let l = q.low in
    let k : suc (j - 1) ≡ j = omega arith in
    let d : drop (j - 1) ks ≡ get_or ks (j - 1) 0 ∷ drop j ks = drop-cons ks (j - 1) 0 (omega arith) ∙ ap (λ n. get_or ks (j - 1) 0 ∷ drop n ks) k in
    record {
      low = omega arith;
      sums = subst (λ l. SumsEach (forest m l) (before x s)) (sym d)
          (sums_more (tree_of m (get_or ks (j - 1) 0)) (forest m (drop j ks)) x s p q.sums);
    }

pub summing_all : (m ks : List ℕ) (j : ℕ) (s : Summary) → j ≤ 0 → Summing m ks j s → SumsEach (forest m ks) s
summing_all m ks j s h p = let e : j ≡ 0 = omega arith in subst (λ n. SumsEach (forest m (drop n ks)) s) e p.sums

-- some of the children have no more nodes than all
pub drop-size : (m ks : List ℕ) (j : ℕ) → size (forest m (drop j ks)) ≤ size (forest m ks)
unfolding forest
drop-size m [] zero = omega arith
drop-size m [] (suc j) = omega arith
drop-size m (k ∷ ks) zero = omega arith
drop-size m (k ∷ ks) (suc j) = let h = drop-size m ks j in omega arith

-- ---- the node itself

pub own-sums : (r : List ℕ) (n : ℕ) (w : Bool) (s : Summary) (c : Forest Marked) → r ≡ encode n (decode r) → w ≡ wants_met (decode r) (known c)
    → SumsEach c s → Sums (node (decode r) false c) (own r w s)
own-sums r n w s c e q p =
    let k = p.nodes in
    record {
      passes = ap₂ ◌&&◌ q p.passes;
      endless = ap₂ (λ x y. not x && y) (limit_is r n e) (ap₂ ◌||◌ (endless_is r n e) p.endless);
      nodes = omega arith;
      fetch = pick (eqb (get_or r 0 0) 3) ∙ ap₂ (λ b f. cond b (get_or (fetches (strip c)) 0 None) f) (ap (λ k. eqb k 3) (code_byte r n e))
          (fetch_is r n e);
    }
  where
    pick : (b : Bool) → fetch_of (cond b s.fetch (fetch_in r)) ≡ cond b (get_or (fetches (strip c)) 0 None) (fetch_of (fetch_in r))
    pick true = p.fetch
    pick false = refl
