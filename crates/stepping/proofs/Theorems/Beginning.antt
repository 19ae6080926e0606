-- In the first state what still comes is a run: `begun`.
use Rattle.std.specs.Prelude.{◌≡◌, refl, Bool, true, false, cond, List, [], ◌∷◌, ◌++◌, map, ℕ, zero, suc, ◌+◌, ◌<◌, ◌≤◌, eqb, length}
use Rattle.std.proofs.Common.{sym, ap, ap₂, ◌∙◌, subst, append-nil, arith, eq-eqb, ne_eqb}
use Rattle.row_order.specs.Iso.{Row}
use Rattle.row_order.specs.Lists.{All, all_nil, all_cons, tab}
use Rattle.row_order.specs.ListLaws.{all_head, all_tail, length-tab}
use Rattle.plan.specs.Forest.{Forest, none, tree, roots}
use Rattle.plan.specs.Op.{SourceInfo, Op, source, filter, projection, union, repartition, coalesce, sort_op, merge_op, global_limit, local_limit, sort_merge_join, hash_join, output_requirement, partial_sort, aggregate, Plan}
use Rattle.semantics.specs.Facts.{Facts, facts}
use Rattle.semantics.specs.Properties.{Cut, uncut, cuts}
use Rattle.semantics.specs.Runs.{Streams, Env, Step, Made, cut_rows, Run, run_none, run_tree, next_s, next_f, past}
use Rattle.stepping.specs.Outlets.{Placed, place, Outlet, on, tally, spread}
use Rattle.stepping.specs.Stepping.{unfiltered, given, start}
use Rattle.stepping.specs.Coming.{cut_from, joined, Coming, Ahead, ahead_none, ahead_tree}
use Rattle.stepping.proofs.Theorems.Popping.{joined_whole}
use Rattle.stepping.proofs.Theorems.Backwards.{on_append}

-- ---- nothing comes: what waits
pub joined_empty : (k : Cut) (w : ℕ → List Row) (t : ℕ → ℕ) (n : ℕ) (raw : Streams) → length raw ≡ n → All (λ l. l ≡ []) raw → joined k w t raw ≡ tab n w
joined_empty k w t zero [] e z = refl
joined_empty k w t zero (l ∷ raw) e z = absurd (omega arith)
joined_empty k w t (suc n) [] e z = absurd (omega arith)
joined_empty k w t (suc n) (l ∷ raw) e z =
    ap₂ (λ (a : List Row) (b : Streams). a ∷ b) (ap (λ (m : List Row). w zero ++ cut m) (all_head z) ∙ append-nil (w zero))
    (joined_empty k (λ i. w (suc i)) (λ i. t (suc i)) n raw (omega arith) (all_tail z))
  where
    cut : List Row → List Row
    cut m = cut_from k (t zero) m

pub tab_ext : {A : Type 0} (n : ℕ) (f g : ℕ → A) → ((i : ℕ) → f i ≡ g i) → tab n f ≡ tab n g
tab_ext zero f g h = refl
tab_ext {A} (suc n) f g h = ap₂ (λ (a : A) (l : List A). a ∷ l) (h zero) (tab_ext n (λ i. f (suc i)) (λ i. g (suc i)) (λ i. h (suc i)))

-- ---- rows spread over streams
on_own : (k j : ℕ) (l : List Row) → k ≡ j → on j (map (place k) l) ≡ l
on_own k j [] e = refl
on_own k j (x ∷ l) e = ap₂ (λ (b : Bool) (m : List Row). cond b (x ∷ m) m) (eq-eqb k j e) (on_own k j l e)

on_others : (k j : ℕ) (l : List Row) → (k ≡ j → ⊥) → on j (map (place k) l) ≡ []
on_others k j [] e = refl
on_others k j (x ∷ l) e = ap₂ (λ (b : Bool) (m : List Row). cond b (x ∷ m) m) (ne_eqb k j e) (on_others k j l e)

on_later : (k j : ℕ) (ss : Streams) → j < k → on j (spread k ss) ≡ []
on_later k j [] h = refl
on_later k j (l ∷ ss) h = on_append j (map (place k) l) (spread (suc k) ss)
    ∙ ap₂ (λ (a b : List Row). a ++ b) (on_others k j l (λ e. omega arith)) (on_later (suc k) j ss (omega arith))

by_spread : (k : ℕ) (f : ℕ → ℕ) (ss : Streams) → ((j : ℕ) → f j ≡ k + j) → tab (length ss) (λ j. on (f j) (spread k ss)) ≡ ss
by_spread k f [] h = refl
by_spread k f (l ∷ ss) h =
    ap₂ (λ (a : List Row) (b : Streams). a ∷ b)
    (on_append (f 0) (map (place k) l) (spread (suc k) ss)
    ∙ ap₂ (λ (a b : List Row). a ++ b) (on_own k (f 0) l (omega (arith, h 0))) (on_later (suc k) (f 0) ss (omega (arith, h 0))) ∙ append-nil l)
    (tab_ext (length ss) (λ j. on (f (suc j)) (map (place k) l ++ spread (suc k) ss)) (λ j. on (f (suc j)) (spread (suc k) ss))
    (λ j. on_append (f (suc j)) (map (place k) l) (spread (suc k) ss)
    ∙ ap (λ (a : List Row). a ++ on (f (suc j)) (spread (suc k) ss)) (on_others k (f (suc j)) l (λ e. omega (arith, h (suc j)))))
    ∙ by_spread (suc k) (λ j. f (suc j)) ss (λ j. omega (arith, h (suc j))))

map_same : (ss : Streams) → map (cut_rows uncut) ss ≡ ss
map_same [] = refl
map_same (l ∷ ss) = ap (λ (b : Streams). l ∷ b) (map_same ss)

all_nils : (n : ℕ) → All (λ (l : List Row). l ≡ []) (tab n (λ k. []))
all_nils zero = all_nil
all_nils (suc n) = all_cons refl (all_nils n)

-- ---- a source's rows, and any other node's
source_step : (rows : ℕ → ℕ → List Row) (i j : ℕ) (s : SourceInfo) (fs : List Facts) (css : List Streams) (out : Streams) →
    Coming (source s) fs css (record { waiting = given rows i (source s); came = [] }) out → Step (unfiltered rows) i j (source s) fs css out
source_step rows i j s fs css out h =
    record {
      raw = tab s.streams (rows i);
      made = refl;
      is = h.is ∙ joined_empty uncut (λ k. on k (spread 0 (tab s.streams (rows i)))) (λ k. 0) s.streams h.raw h.many
          (subst (All (λ l. l ≡ [])) (sym h.made) (all_nils s.streams))
          ∙ subst (λ (n : ℕ). tab n (λ k. on k (spread 0 (tab s.streams (rows i)))) ≡ tab s.streams (rows i)) (length-tab s.streams (rows i))
          (by_spread 0 (λ k. k) (tab s.streams (rows i)) (λ k. omega arith))
          ∙ sym (map_same (tab s.streams (rows i)));
    }

begin : (rows : ℕ → ℕ → List Row) (i j : ℕ) (o : Op) (fs : List Facts) (css : List Streams) (out : Streams) →
    Coming o fs css (record { waiting = given rows i o; came = [] }) out → Step (unfiltered rows) i j o fs css out
begin rows i j (source s) fs css out h = source_step rows i j s fs css out h
begin rows i j filter fs css out h = record { raw = h.raw; made = h.made; is = h.is ∙ joined_whole (cuts filter) h.raw }
begin rows i j (projection cols) fs css out h = record { raw = h.raw; made = h.made; is = h.is ∙ joined_whole uncut h.raw }
begin rows i j union fs css out h = record { raw = h.raw; made = h.made; is = h.is ∙ joined_whole uncut h.raw }
begin rows i j (repartition p n b ks) fs css out h = record { raw = h.raw; made = h.made; is = h.is ∙ joined_whole uncut h.raw }
begin rows i j (coalesce f) fs css out h = record { raw = h.raw; made = h.made; is = h.is ∙ joined_whole (cuts (coalesce f)) h.raw }
begin rows i j (sort_op p ks f) fs css out h = record { raw = h.raw; made = h.made; is = h.is ∙ joined_whole (cuts (sort_op p ks f)) h.raw }
begin rows i j (merge_op ks f) fs css out h = record { raw = h.raw; made = h.made; is = h.is ∙ joined_whole (cuts (merge_op ks f)) h.raw }
begin rows i j (global_limit s f note) fs css out h = record { raw = h.raw; made = h.made; is = h.is ∙ joined_whole (cuts (global_limit s f note)) h.raw }
begin rows i j (local_limit f note) fs css out h = record { raw = h.raw; made = h.made; is = h.is ∙ joined_whole (cuts (local_limit f note)) h.raw }
begin rows i j (sort_merge_join t keys) fs css out h = record { raw = h.raw; made = h.made; is = h.is ∙ joined_whole uncut h.raw }
begin rows i j (hash_join t keys) fs css out h = record { raw = h.raw; made = h.made; is = h.is ∙ joined_whole uncut h.raw }
begin rows i j (output_requirement ks d f) fs css out h =
    record { raw = h.raw; made = h.made; is = h.is ∙ joined_whole (cuts (output_requirement ks d f)) h.raw }
begin rows i j (partial_sort p ks n f) fs css out h = record { raw = h.raw; made = h.made; is = h.is ∙ joined_whole (cuts (partial_sort p ks n f)) h.raw }
begin rows i j (aggregate ks n) fs css out h = record { raw = h.raw; made = h.made; is = h.is ∙ joined_whole uncut h.raw }

pub begun : (rows : ℕ → ℕ → List Row) (i j : ℕ) (f : Plan) {out : Forest Streams} → Ahead f (start rows i f) out → Run (unfiltered rows) i j f out
begun rows i j none ahead_none = run_none
begun rows i j (tree o c r) (ahead_tree {s = s} {cs = cs} h a b) =
    run_tree (begin rows i j o (facts c) (roots cs) s h) (begun rows (next_s o i) (next_f o j) c a)
    (begun rows (past next_s c (next_s o i)) (past next_f c (next_f o j)) r b)
