-- A projection's order and facts. Assumes nothing.
use Rattle.std.specs.Prelude.{◌≡◌, true, false, ◌&&◌, List, [], ◌∷◌, ℕ, zero, suc, ◌≤◌, ◌<◌, eqb, ltb, length, get_or}
use Rattle.std.proofs.Common.{ap, sym, ◌∙◌, subst, arith, lt-ltb, le-ltb, ltb-true}
use Rattle.std.proofs.Math.Path.{fun_ext}
use Rattle.row_order.specs.Iso.{Key}
use Rattle.row_order.specs.Packed.{bit, key_of}
use Rattle.plan.specs.WellFormed.{below as within}
use Rattle.semantics.proofs.Theorems.Common.Bools.{and_left, and_right}
use Rattle.semantics.specs.Facts.{Facts, cl, with_column, lowest, carried, proj_order, proj_facts}
use Rattle.semantics.proofs.Theorems.Common.Lowest.{lowest_le}
use Rattle.column_sets.specs.Sets.{Holding, below}
use Rattle.class_tables.specs.Tables.{at, Filled, Columns, carries, projection_low}
use Rattle.key_lists.specs.declared.Keys.{Keys}
use Rattle.key_lists.specs.Keys.{Keyed, Longer, Tight}
use Rattle.key_lists.specs.Lists.{begun, Building, rebuilt, grown, built}
use Rattle.facts.specs.declared.Facts.{Facts as Coded}
use Rattle.facts.specs.Known.{known, Coherent, Says, Agrees}
use Rattle.facts.specs.Reading.{cl_is, constants}
use Rattle.facts.specs.Saying.{says}

-- columns below a width are columns
pub columns : (w : ℕ) (cols : List ℕ) → w ≤ 32 → within w cols ≡ true → Columns cols
columns w [] h e i = omega arith
columns w (c ∷ cols) h e zero = let l = ltb-true c w (and_left (ltb c w) (within w cols) e) in omega arith
columns w (c ∷ cols) h e (suc i) = columns w cols h (and_right (ltb c w) (within w cols) e) i

-- the code's search finds the semantics' output column
pub carried_is : (F : Facts) (t cols : List ℕ) → Agrees F t → (c : ℕ) → lowest (carries t cols (at t c)) (length cols) ≡ carried F cols c
carried_is F t cols h c =
    let e : at t ≡ cl F = fun_ext (λ d. sym (h d)) in
    ap (λ (low : ℕ → ℕ). lowest (λ i. eqb (low (get_or cols i 0)) (low c)) (length cols)) e

-- the loop over the known order ks, with the keys l left
abbrev pub Projecting : List ℕ → List ℕ → List Key → Keys → List Key → Type 0
Projecting t cols ks out l = (F : Facts) → Agrees F t → Building (proj_order F cols ks) out (proj_order F cols l)

pub none_projected : (t cols : List ℕ) (ks : List Key) (out : Keys) (l : List Key) → l ≡ ks → Keyed [] out → Tight out → Projecting t cols ks out l
none_projected t cols ks out l e h i F a = rebuilt (ap (proj_order F cols) (sym e)) (begun (proj_order F cols ks) out h i)

module _ (t cols : List ℕ) (ks : List Key) (out : Keys) (l : List Key) (p : Projecting t cols ks out l) (w : ℕ) (m : List Key) (i : l ≡ key_of w ∷ m) (j : ℕ)
    (e : j ≡ lowest (carries t cols (at t (key_of w).col)) (length cols)) where
  found : (F : Facts) → Agrees F t → j ≡ carried F cols (key_of w).col
  found F a = e ∙ carried_is F t cols a (key_of w).col

  pub projected : j < length cols → (x : ℕ) → key_of x ≡ with_column j (key_of w) → (r : Keys) → Longer out x r → Projecting t cols ks r m
  projected h x y r g F a =
      let k : Key = key_of w in
      let z = found F a in
      let b : ltb (carried F cols k.col) (length cols) ≡ true = rw (← z) (lt-ltb j (length cols) h) in
      let d : proj_order F cols l ≡ with_column (carried F cols k.col) k ∷ proj_order F cols m = rw (i, b) in
      grown _ out x r (with_column (carried F cols k.col) k) (proj_order F cols m) (rebuilt d (p F a)) g (y ∙ ap (λ c. with_column c k) z)

  -- a key that no output carries ends the order
  pub stopped : out.len ≤ 8 → length cols ≤ j → (F : Facts) → Agrees F t → Keyed (proj_order F cols ks) out
  stopped few h F a =
      let z = found F a in
      let b : ltb (carried F cols (key_of w).col) (length cols) ≡ false = rw (← z) (le-ltb j (length cols) h) in
      let d : proj_order F cols l ≡ [] = rw (i, b) in
      built _ out few (rebuilt d (p F a))

pub all_projected : (t cols : List ℕ) (ks : List Key) (out : Keys) (l : List Key) → Projecting t cols ks out l → l ≡ [] → out.len ≤ 8 → (F : Facts)
    → Agrees F t → Keyed (proj_order F cols ks) out
all_projected t cols ks out l p e few F a = built _ out few (rebuilt (ap (proj_order F cols) e) (p F a))

pub says_projection : (f : Coded) (cols t : List ℕ) (s : ℕ) (o : Keys) → Coherent f → length cols ≤ 32
    → Filled (length cols) (projection_low f.low cols) t
    → Holding (below (length cols) (λ j. bit f.consts (get_or cols j 0))) s → Keyed (proj_order (known f) cols (known f).order) o
    → Says (proj_facts (known f) cols) (record { width = length cols; streams = f.streams; consts = s; low = t; order = o })
says_projection f cols t s o h l g q k =
    let low : (ℕ → ℕ) → ℕ → ℕ = λ x j. lowest (λ i. eqb (x (get_or cols i 0)) (x (get_or cols j 0))) j in
    let e : projection_low f.low cols ≡ low (cl (known f)) = ap low (cl_is f h) in
    says (length cols) f.streams s t o _ _ _ l (subst (λ x. Filled (length cols) x t) e g) (λ c m. lowest_le _ c)
    (λ c. q c ∙ ap (λ x. ltb c (length cols) && x) (sym (constants f h (get_or cols c 0)))) k
