-- A pass from the last record to the first that keeps one number for each finished tree: a record takes its children's and leaves its own.
-- The numbers stand at the end of an array of 126, so that the stack is `drop t w` and its top is at t.
use Rattle.std.specs.Prelude.{◌≡◌, List, ◌∷◌, ℕ, zero, suc, ◌+◌, ◌-◌, ◌≤◌, ◌<◌, leb, eqb, length, get_or, take, drop, set}
use Rattle.std.proofs.Common.{sym, ap, ap₂, ◌∙◌, length-drop, length-set, drop-cons, drop-drop, get_or-set_same, drop-set-lt, leb-true, eqb-true}
use Rattle.std.proofs.Math.Bool.{true}
use native.Mathlib.Omega.{arith}
use Rattle.scan.specs.Below.{and_left, and_right}
use Rattle.scan.specs.Bytes.{part}
use Rattle.scan.specs.ByteLaws.{cut}
use Rattle.scan.specs.Parts.{at_part}
use Rattle.plan_format.specs.Record.{children}
use Rattle.plan_format.specs.Blocks.{span, record_at, record_count, record_start}
use Rattle.plan_format.specs.Reading.{children_at, finished, enough, tree_ok}
use Rattle.plan_passes.specs.Laws.{past, past_end, past_back, past_all}

-- ---- record j, which starts at a

-- the byte that holds the child count
abbrev pub child_byte : List ℕ → ℕ → ℕ
child_byte s a = get_or s (a + 1) 0

module _ (s : List ℕ) (j a : ℕ) (e : a ≡ record_start j) where
  -- as the code lends it
  pub record_lent : take (a + 64 - a) (drop a s) ≡ record_at s j
  record_lent = cut s a 64 ∙ ap (λ (x : ℕ). part x 64 s) e

  pub child_byte_lem : child_byte s a ≡ children_at s j
  child_byte_lem = sym (at_part s a 64 1 (omega arith)) ∙ ap (λ (x : ℕ). children (part x 64 s)) e

-- what is left of the records from i on
abbrev pub rest : List ℕ → ℕ → ℕ → List (List ℕ)
rest s m i = span (record_at s) i (m - i)

pub rest_back : (s : List ℕ) (m i : ℕ) → 0 < i → i ≤ m → rest s m (i - 1) ≡ record_at s (i - 1) ∷ rest s m i
unfolding span
rest_back s m i z h = let e : m - (i - 1) ≡ suc (m - i) = omega arith in let g : suc (i - 1) ≡ i = omega arith in rw (e, g)

-- ---- enough finished trees

enough_on : (f : ℕ → ℕ) (m i : ℕ) → i ≤ m → enough (past f m 0) ≡ true → enough (past f m i) ≡ true
enough_on f m zero h e = e
enough_on f m (suc j) h e =
    let g : j + 1 ≡ suc j = omega arith in
    let x : enough (past f m j) ≡ true = enough_on f m j (omega arith) e in
    rw g at (and_right (leb (f j) (finished (past f m (j + 1)))) (enough (past f m (j + 1))) (sym (ap enough (past_back f m j (omega arith))) ∙ x))

enough_at : (f : ℕ → ℕ) (m j : ℕ) → j < m → enough (span f 0 m) ≡ true → f j ≤ finished (past f m (j + 1))
enough_at f m j h e =
    leb-true (f j) (finished (past f m (j + 1)))
    (and_left (leb (f j) (finished (past f m (j + 1)))) (enough (past f m (j + 1)))
    (sym (ap enough (past_back f m j h)) ∙ enough_on f m j (omega arith) (ap enough (past_all f m) ∙ e)))

-- ---- the stack

-- Before record i of m: as many numbers from t on as there are finished trees
pub record Stack (s : List ℕ) (m i t : ℕ) (w : List ℕ) : Type 0 where
  pub low : i ≤ m
  pub room : i ≤ t
  pub top : t ≤ 126
  pub long : length w ≡ 126
  pub count : length (drop t w) ≡ finished (past (children_at s) m i)

pub stack_start : (s : List ℕ) (m : ℕ) (w : List ℕ) → m ≤ 126 → length w ≡ 126 → Stack s m m 126 w
stack_start s m w h l =
    let z = ap finished (past_end (children_at s) m m (omega arith)) in let d = length-drop 126 w in
    record { low = omega arith; room = h; top = omega arith; long = l; count = omega arith }

module _ (s : List ℕ) (m i t : ℕ) (w : List ℕ) (z : 0 < i) (p : Stack s m i t w) (e : m ≡ record_count s) (o : tree_ok s ≡ true) where
  back : i - 1 + 1 ≡ i
  back = omega arith

  -- the record finds its children
  pub children_found : children_at s (i - 1) ≤ length (drop t w)
  unfolding tree_ok
  children_found =
      let h = p.low in let c = p.count in
      let all : enough (span (children_at s) 0 m) ≡ true =
      (rw e (and_left (enough (span (children_at s) 0 (record_count s))) (eqb (finished (span (children_at s) 0 (record_count s))) 1) o)) in
      let x : children_at s (i - 1) ≤ finished (past (children_at s) m i) = rw back at (enough_at (children_at s) m (i - 1) (omega arith) all) in
      omega arith

  pub children_fit : t + children_at s (i - 1) ≤ 126
  children_fit = let f = children_found in let l = p.long in let h = p.top in let d = length-drop t w in omega arith

  module _ (k : ℕ) (q : k ≡ children_at s (i - 1)) (x : ℕ) where
    -- k numbers are taken, x is put
    pub pushed : drop (t + k - 1) (set w (t + k - 1) x) ≡ x ∷ drop k (drop t w)
    pushed =
        let f = children_fit in let r = p.room in let l = p.long in
        let a : ℕ = t + k - 1 in
        let g : suc a ≡ t + k = omega arith in
        let b : a < length (set w a x) = rw length-set (omega arith) in
        drop-cons (set w a x) a 0 b
        ∙ ap₂ ◌∷◌ (get_or-set_same w a x 0 (omega arith)) (drop-set-lt (suc a) w a x (omega arith) ∙ ap (λ (n : ℕ). drop n w) g ∙ sym (drop-drop k t w))

    pub stack_more : Stack s m (i - 1) (t + k - 1) (set w (t + k - 1) x)
    stack_more =
        let h = p.low in let r = p.room in let l = p.long in let c = p.count in let f = children_fit in let d = length-drop k (drop t w) in
        let n : finished (past (children_at s) m (i - 1)) ≡ finished (past (children_at s) m i) - children_at s (i - 1) + 1 =
        ap finished (past_back (children_at s) m (i - 1) (omega arith) ∙ ap (λ (x : ℕ). children_at s (i - 1) ∷ past (children_at s) m x) back) in
        let g = ap length pushed in
        record { low = omega arith; room = omega arith; top = omega arith; long = length-set w (t + k - 1) x ∙ l; count = omega arith }

  -- as the code reads the child count of the record, which starts at a
  module _ (a : ℕ) (g : a ≡ record_start (i - 1)) where
    pub byte_fits : (t + child_byte s a ≤ 126) × (0 < t + child_byte s a)
    byte_fits = let b = child_byte_lem s (i - 1) a g in let f = children_fit in let r = p.room in (omega arith, omega arith)

-- at the end there is one tree
pub stack_end : (s : List ℕ) (m i t : ℕ) (w : List ℕ) → Stack s m i t w
    → m ≡ record_count s → tree_ok s ≡ true → i ≤ 0 → length (drop t w) ≡ 1
unfolding tree_ok
stack_end s m i t w p e o z =
    let i₀ : i ≡ 0 = omega arith in
    p.count
    ∙ ap (λ (x : ℕ). finished (past (children_at s) m x)) i₀ ∙ ap finished (past_all (children_at s) m) ∙ ap (λ (x : ℕ). finished (span (children_at s) 0 x)) e
    ∙ eqb-true (finished (span (children_at s) 0 (record_count s))) 1
    (and_right (enough (span (children_at s) 0 (record_count s))) (eqb (finished (span (children_at s) 0 (record_count s))) 1) o)
