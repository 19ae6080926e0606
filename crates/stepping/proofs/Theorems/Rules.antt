-- One step, backwards, at the operator that moved: its rule holds of what still came before the step, where it holds after it. `made_back`, by
-- kinds, from what its manner says of the row that it took (`Took`).
use Rattle.std.specs.Prelude.{◌≡◌, refl, Bool, true, false, cond, ◌||◌, List, [], ◌∷◌, ◌++◌, map, ◌⊎◌, ℕ, zero, suc, ◌+◌, ◌<◌, eqb, length}
use Rattle.std.proofs.Common.{sym, ap, ap₂, ◌∙◌, subst, inl, inr, arith, eqb-true}
use Rattle.row_order.specs.Iso.{Row, Key}
use Rattle.row_order.specs.RowLists.{row_discrete, Rel, Sorted}
use Rattle.row_order.proofs.Order.{no_bool}
use Rattle.row_order.specs.Lists.{sum, concat, Same, All, all_nil, all_cons, Pw, pw_cons, mix_left, mix_right, Mixes, mixes_nil, mixes_cons, tab}
use Rattle.row_order.specs.ListLaws.{sum_append, same_trans, same_sym, same_all, all_head, all_tail, all_concat, pw_head, pw_tail, mixes_all}
use Rattle.plan.specs.Op.{Op, source, filter, projection, union, repartition, coalesce, sort_op, merge_op, global_limit, local_limit, sort_merge_join, hash_join, output_requirement, partial_sort, aggregate, Plan}
use Rattle.semantics.specs.Facts.{Facts, counts, keeps_order, known_order, at0, facts_op, facts}
use Rattle.semantics.specs.Joins.{keep}
use Rattle.semantics.specs.Runs.{Streams, Each, each_nil, each_cons, OneStream, Split, SortOf, Sorting, MergeOf, proj, in0, Made}
use Rattle.semantics.proofs.Theorems.Common.Streams.{concat_each}
use Rattle.stepping.specs.Moves.{Manner, still, passing, merging, sorting, manner, Way, straight, gathered, scattered, sort_way, way, outputs, shown}
use Rattle.stepping.specs.Coming.{rest}
use Rattle.stepping.proofs.Theorems.Popping.{Popped, pop_here, pop_there, popped_length, popped_sum, popped_map}
use Rattle.stepping.proofs.Theorems.Formed.{Formed, first_only}

-- ---- what a manner says of the row x that it took, from input stream i; ins, ins': all that comes on each input stream, with x and without it

-- x is taken out of stream i, and sorts before none of its rows
pub data Extracted (ks : List Key) (x : Row) : ℕ → Streams → Streams → Type 0 where
  ext_here : {l m : List Row} {ss : Streams} → Same l (x ∷ m) → All (Rel ks x) m → Extracted ks x 0 (l ∷ ss) (m ∷ ss)
  ext_there : {i : ℕ} {l : List Row} {ss ts : Streams} → Extracted ks x i ss ts → Extracted ks x (suc i) (l ∷ ss) (l ∷ ts)

abbrev pub Took : Manner → Row → ℕ → Streams → Streams → Type 0
Took still x i ins ins' = ⊥
Took passing x i ins ins' = Popped x i ins ins'
Took (merging ks) x i ins ins' = Popped x i ins ins' × (All (Sorted ks) ins → All (All (Rel ks x)) ins')
Took (sorting true ks) x i ins ins' = Extracted ks x i ins ins'
Took (sorting false ks) x i ins ins' = Same (concat ins) (x ∷ concat ins') × All (Rel ks x) (concat ins')

-- k is an output stream to which a row of input stream i may go
abbrev pub Goes : Way → ℕ → ℕ → Type 0
Goes straight i k = k ≡ i
Goes gathered i k = k ≡ 0
Goes (scattered n) i k = k < n

pub goes : (w : Way) (i : ℕ) → All (Goes w i) (outputs w i)
goes straight i = all_cons refl all_nil
goes gathered i = all_cons refl all_nil
goes (scattered n) i = each n (λ k. k) (λ k h. h)
  where
    each : (m : ℕ) (f : ℕ → ℕ) → ((k : ℕ) → k < m → f k < n) → All (λ k. k < n) (tab m f)
    each zero f h = all_nil
    each (suc m) f h = all_cons (h zero (omega arith)) (each m (λ k. f (suc k)) (λ k l. h (suc k) (omega arith)))

-- ---- popped streams
pub mixes_popped : {x : Row} {i : ℕ} {ss ts : Streams} {z : List Row} → Popped x i ss ts → Mixes ts z → Mixes ss (x ∷ z)
mixes_popped pop_here (mixes_cons h m) = mixes_cons h (mix_left m)
mixes_popped (pop_there p) (mixes_cons h m) = mixes_cons (mixes_popped p h) (mix_right m)

pub popped-keep : {x : Row} {i : ℕ} {ss ts : Streams} → Popped x i ss ts → Popped x i (map (keep (λ r. true)) ss) (map (keep (λ r. true)) ts)
popped-keep pop_here = pop_here
popped-keep (pop_there h) = pop_there (popped-keep h)

pub popped_sorted : {R : Row → Row → Type 0} {x : Row} {i : ℕ} {ss ts : Streams} → Popped x i ss ts → All (Pw R) ss → All (Pw R) ts
popped_sorted pop_here (all_cons p ps) = all_cons (pw_tail p) ps
popped_sorted (pop_there h) (all_cons p ps) = all_cons p (popped_sorted h ps)

-- one stream only: what follows its first row does not sort before it
one_after : {R : Row → Row → Type 0} {x : Row} {i : ℕ} {ss ts : Streams} → Popped x i ss ts → length ss ≡ 1 → All (Pw R) ss → All (All (R x)) ts
one_after (pop_here {ss = []}) e (all_cons p ps) = all_cons (pw_head p) all_nil
one_after (pop_here {ss = l ∷ ss}) e ps = absurd (omega arith)
one_after (pop_there pop_here) e ps = absurd (omega arith)
one_after (pop_there (pop_there h)) e ps = absurd (omega arith)

push_at : ℕ → Row → Streams → Streams
push_at k x [] = []
push_at zero x (l ∷ ss) = (x ∷ l) ∷ ss
push_at (suc k) x (l ∷ ss) = l ∷ push_at k x ss

pushed : (k : ℕ) (x : Row) (ss : Streams) → k < length ss → Popped x k (push_at k x ss) ss
unfolding push_at
pushed k x [] h = absurd (omega arith)
pushed zero x (l ∷ ss) h = pop_here
pushed (suc k) x (l ∷ ss) h = pop_there (pushed k x ss (omega arith))

back_sorted : {R : Row → Row → Type 0} {x : Row} {k : ℕ} {ss ts : Streams} → Popped x k ss ts → All (All (R x)) ts → All (Pw R) ts → All (Pw R) ss
back_sorted pop_here (all_cons a rs) (all_cons p ps) = all_cons (pw_cons a p) ps
back_sorted (pop_there h) (all_cons a rs) (all_cons p ps) = all_cons p (back_sorted h rs ps)

-- ---- by rules: raw' is made of ins'; then raw, with the row in front of stream k, is made of ins
pub record Back (M : Streams → Type 0) (y : Row) (k : ℕ) (raw' : Streams) : Type 0 where
  pub raw : Streams
  pub made : M raw
  pub popped : Popped y k raw raw'

one_back : {P : List Row → Type 0} {Q : List Row → Type 0} (x : Row) (k : ℕ) {raw' : Streams} → k ≡ 0 → OneStream Q raw' →
    ((l : List Row) → Q l → P (x ∷ l)) → Back (OneStream P) x k raw'
one_back {P} x k {raw'} z h f =
    record {
      raw = (x ∷ h.one) ∷ [];
      made = record { one = x ∷ h.one; is = refl; that = f h.one h.that };
      popped = subst (λ (n : ℕ). Popped x n ((x ∷ h.one) ∷ []) raw') (sym z) (subst (Popped x 0 ((x ∷ h.one) ∷ [])) (sym h.is) pop_here);
    }

-- no row of a split sorts before x, where none of its inputs' does
split_after : {n : ℕ} {ks : List Key} {b : Bool} {ins out : Streams} (x : Row) → Split n ks b ins out → All (All (Rel ks x)) ins → All (All (Rel ks x)) out
split_after {ins = ins} {out = out} x s h = concat_each out (same_all row_discrete (concat out) s.same (all_concat ins h))

split_back : (n : ℕ) (ks : List Key) (b : Bool) {ins ins' raw' : Streams} (x : Row) (i k : ℕ) → k < n → Popped x i ins ins' →
    (b ≡ true → All (Sorted ks) ins → All (All (Rel ks x)) ins') → Split n ks b ins' raw' → Back (Split n ks b ins) x k raw'
split_back n ks b {ins} {ins'} {raw'} x i k h p f s =
    let q : Popped x k (push_at k x raw') raw' = pushed k x raw' (omega (arith, s.count)) in
    record {
      raw = push_at k x raw';
      made = record {
        count = popped_length q ∙ s.count;
        same = record { sums = λ w. popped_sum q w ∙ ap (λ (m : ℕ). w x + m) (s.same.sums w) ∙ sym (popped_sum p w) };
        sorted = λ e o. back_sorted q (split_after x s (f e o)) (s.sorted e (popped_sorted p o));
      };
      popped = q;
    }

sort_one : {ks : List Key} {x : Row} {l m t : List Row} → Same l (x ∷ m) → All (Rel ks x) m → SortOf ks m t → SortOf ks l (x ∷ t)
sort_one {x = x} {t = t} s a h =
    record {
      same = record { sums = λ w. ap (λ (n : ℕ). w x + n) (h.same.sums w) ∙ sym (s.sums w) };
      sorted = pw_cons (same_all row_discrete t h.same a) h.sorted;
    }

sorts_back : {ks : List Key} {x : Row} {i : ℕ} {ins ins' raw' : Streams} → Extracted ks x i ins ins' → Each (SortOf ks) ins' raw' → Back (Each (SortOf ks) ins) x i raw'
sorts_back (ext_here s a) (each_cons {y = t} {m = raw'} h hs) = record { raw = (_ ∷ t) ∷ raw'; made = each_cons (sort_one s a h) hs; popped = pop_here }
sorts_back (ext_there e) (each_cons {y = t} h hs) =
    let b = sorts_back e hs in record { raw = t ∷ b.raw; made = each_cons h b.made; popped = pop_there b.popped }

sorting_back : (p : Bool) (ks : List Key) (x : Row) (i k : ℕ) (ins ins' raw' : Streams) → Goes (sort_way p) i k → Took (sorting p ks) x i ins ins' →
    Sorting p ks ins' raw' → Back (Sorting p ks ins) x k raw'
sorting_back true ks x i k ins ins' raw' g t s = subst (λ (n : ℕ). Back (Each (SortOf ks) ins) x n raw') (sym g) (sorts_back t s)
sorting_back false ks x i k ins ins' raw' g t s = one_back x k g s (λ l h. sort_one t.0 t.1 h)

pass_back : (f : Streams → Streams) (i k : ℕ) (ins ins' : Streams) {raw' : Streams} (y : Row) → k ≡ i → Popped y i (f ins) (f ins') → raw' ≡ f ins' →
    Back (λ raw. raw ≡ f ins) y k raw'
pass_back f i k ins ins' {raw'} y g p e =
    record {
      raw = f ins;
      made = refl;
      popped = subst (λ (n : ℕ). Popped y n (f ins) raw') (sym g) (subst (Popped y i (f ins)) (sym e) p);
    }

mixes_back : {x : Row} (i k : ℕ) {ins ins' raw' : Streams} → k ≡ 0 → Popped x i ins ins' → OneStream (Mixes ins') raw' → Back (OneStream (Mixes ins)) x k raw'
mixes_back {x} i k g p e = one_back x k g e (λ l m. mixes_popped p m)

merge_back : {x : Row} (ks : List Key) (i k : ℕ) {ins ins' raw' : Streams} → k ≡ 0 → Took (merging ks) x i ins ins' → OneStream (MergeOf ks ins') raw' →
    Back (OneStream (MergeOf ks ins)) x k raw'
merge_back {x} ks i k g t e =
    one_back x k g e (λ l m. record {
      mixed = mixes_popped t.0 m.mixed;
      sorted = λ o. pw_cons (mixes_all m.mixed (t.1 o)) (m.sorted (popped_sorted t.0 o));
    })

-- a repartition: one that merges, or one that passes rows on; over one stream it maintains all the same
repartition_back : (p : Bool) (n : ℕ) (F : Facts) (x : Row) (i k : ℕ) {ins ins' raw' : Streams} → k < n → length ins ≡ F.streams →
    Took (cond (counts p F) (merging (known_order F)) passing) x i ins ins' → Split n (known_order F) (keeps_order p F) ins' raw' →
    Back (Split n (known_order F) (keeps_order p F) ins) x k raw'
repartition_back p n F x i k {ins} {ins'} {raw'} h m t s = go (counts p F) t s
  where
    go : (b : Bool) → Took (cond b (merging (known_order F)) passing) x i ins ins' → Split n (known_order F) (eqb F.streams 1 || b) ins' raw' →
        Back (Split n (known_order F) (eqb F.streams 1 || b) ins) x k raw'
    go true t s = split_back n (known_order F) (eqb F.streams 1 || true) x i k h t.0 (λ e. t.1) s
    go false t s = split_back n (known_order F) (eqb F.streams 1 || false) x i k h t (λ e. one_after t (m ∙ single e)) s
      where
        single : eqb F.streams 1 || false ≡ true → F.streams ≡ 1
        single e = eqb-true F.streams 1 (either (eqb F.streams 1) e)
          where
            either : (b : Bool) → b || false ≡ true → b ≡ true
            either true e = refl
            either false e = e

pub made_back : (o : Op) (fs : List Facts) (css css' : List Streams) (raw' : Streams) (x : Row) (i k : ℕ) → Formed o (length css) → length css' ≡ length css →
    length (in0 css) ≡ (at0 fs).streams → Took (manner o fs) x i (concat css) (concat css') → Goes (way o) i k → Made rest 0 0 o fs css' raw' →
    Back (Made rest 0 0 o fs css) (shown o x) k raw'
made_back o fs css css' raw' x i k n same many t g = go o n t g
  where
    first : (m : Manner) → length css ≡ 1 → Took m x i (concat css) (concat css') → Took m x i (in0 css) (in0 css')
    first m n t = subst (λ (ss : Streams). Took m x i ss (in0 css')) (first_only css n)
        (subst (λ (ss : Streams). Took m x i (concat css) ss) (first_only css' (same ∙ n)) t)

    go : (o : Op) → Formed o (length css) → Took (manner o fs) x i (concat css) (concat css') → Goes (way o) i k → Made rest 0 0 o fs css' raw' →
        Back (Made rest 0 0 o fs css) (shown o x) k raw'
    go (source s) n t g e = absurd t
    go filter n t g e = pass_back (map (keep (λ r. true))) i k (in0 css) (in0 css') x g (popped-keep (first passing n t)) e
    go (projection cols) n t g e = pass_back (map (map (proj cols))) i k (in0 css) (in0 css') (proj cols x) g (popped_map (proj cols) (first passing n t)) e
    go union n t g e = pass_back (λ s. s) i k (concat css) (concat css') x g t e
    go (repartition p m h ks) n t g e = repartition_back p m (at0 fs) x i k g many (first (manner (repartition p m h ks) fs) n.0 t) e
    go (coalesce f) n t g e = mixes_back i k g (first passing n t) e
    go (sort_op p ks f) n t g e = sorting_back p ks x i k (in0 css) (in0 css') raw' g (first (sorting p ks) n t) e
    go (merge_op ks f) n t g e = merge_back ks i k g (first (merging ks) n t) e
    go (global_limit s f note) n t g e = mixes_back i k g (first passing n t) e
    go (local_limit f note) n t g e = pass_back (λ s. s) i k (in0 css) (in0 css') x g (first passing n t) e
    go (sort_merge_join j keys) n t g e = absurd t
    go (hash_join j keys) n t g e = absurd t
    go (output_requirement ks d f) n t g e = pass_back (λ s. s) i k (in0 css) (in0 css') x g (first passing n t) e
    go (partial_sort p ks m f) n t g e = sorting_back p ks x i k (in0 css) (in0 css') raw' g (first (sorting p ks) n t) e
    go (aggregate ks m) n t g e = absurd t
