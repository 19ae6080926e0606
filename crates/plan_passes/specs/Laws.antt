-- What the pass over the records and the order of the refusals use of the definitions.
use Rattle.std.specs.Prelude.{◌≡◌, Bool, true, false, cond, ◌&&◌, not, List, [], ◌∷◌, leb, eqb}
use Rattle.std.proofs.Common.{sym, ap, ap₂, ◌∙◌}
use Prim.Native.Nat.{ℕ, suc, ◌+◌, ◌-◌, ◌≤◌, ◌<◌}
use native.Mathlib.Omega.{arith}
use Rattle.std.proofs.lemmas.Bool.{not-true, not-false}
use Rattle.plan_format.specs.Blocks.{span}
use Rattle.plan_format.specs.Reading.{kinds_ok, tree_ok, records_ok, finished, enough}
use Rattle.plan_passes.specs.declared.Records.{Records}

-- ---- from the last record to the first

module _ (f : ℕ → ℕ) (m : ℕ) where
  -- what is left from i on
  abbrev pub past : ℕ → List ℕ
  past i = span f i (m - i)

  pub past_end : (i : ℕ) → m ≤ i → past i ≡ []
  unfolding span
  past_end i h = let e : m - i ≡ 0 = omega arith in rw e

  pub past_back : (j : ℕ) → j < m → past j ≡ f j ∷ past (j + 1)
  unfolding span
  past_back j h = let e : m - j ≡ suc (m - (j + 1)) = omega arith in let g : suc j ≡ j + 1 = omega arith in rw (e, ← g)

  pub past_all : past 0 ≡ span f 0 m
  past_all = let e : m - 0 ≡ m = omega arith in rw e

  -- the state of the pass before record i: h finished trees, and whether each record so far found enough of them
  pub record Pass (i h : ℕ) (e : Bool) : Type 0 where
    pub low : i ≤ m
    pub have : h ≡ finished (past i)
    pub found : e ≡ enough (past i)
    pub few : h ≤ m - i

  pub pass_start : Pass m 0 true
  pass_start =
      record {
        low = omega arith;
        have = sym (ap finished (past_end m (omega arith)));
        found = sym (ap enough (past_end m (omega arith)));
        few = omega arith;
      }

  pub pass_more : (i h k : ℕ) (e : Bool) → 0 < i → Pass i h e → k ≡ f (i - 1) → Pass (i - 1) (h - k + 1) (leb k h && e)
  pass_more i h k e z p q =
      let lo : i ≤ m = p.low in
      let b : i - 1 + 1 ≡ i = omega arith in
      let g : past (i - 1) ≡ f (i - 1) ∷ past i = past_back (i - 1) (omega arith) ∙ ap (λ (n : ℕ). f (i - 1) ∷ past n) b in
      let d : finished (past (i - 1)) ≡ finished (past i) - f (i - 1) + 1 = ap finished g in
      let x = p.have in let y = p.few in
      record {
        low = omega arith;
        have = omega arith;
        found = ap₂ ◌&&◌ (ap₂ leb q x) p.found ∙ sym (ap enough g);
        few = omega arith;
      }

  pub pass_end : (i h : ℕ) (e : Bool) → Pass i h e → i ≤ 0 → e && eqb h 1 ≡ (enough (span f 0 m) && eqb (finished (span f 0 m)) 1)
  pass_end i h e p z =
      let g : i ≡ 0 = omega arith in
      let q : past i ≡ span f 0 m = ap past g ∙ past_all in
      ap₂ (λ (b : Bool) (n : ℕ). b && eqb n 1) (p.found ∙ ap enough q) (p.have ∙ ap finished q)

-- what one pass over the records answers
pub record Found (s : List ℕ) (x : Records) : Type 0 where
  pub kinds : x.kinds ≡ kinds_ok s
  pub tree : x.tree ≡ tree_ok s
  pub rules : x.rules ≡ records_ok s

-- ---- the order of the refusals: t is the flag in the code, a the test in the definition

module _ {A : Type 0} where
  pub refuse_stop : (t a : Bool) (x r : A) → t ≡ a → not t ≡ true → r ≡ cond a x r
  refuse_stop t a x r e h = let z : a ≡ false = sym e ∙ not-true t h in rw z

  pub refuse_on : (t a : Bool) (x r y : A) → t ≡ a → not t ≡ false → y ≡ x → y ≡ cond a x r
  refuse_on t a x r y e h g = let z : a ≡ true = sym e ∙ not-false t h in rw z g
