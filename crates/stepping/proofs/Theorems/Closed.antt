-- Nothing comes from nothing: to a stream that is not open no further row comes. Said of a state in which `Ahead` holds: `fronts`.
use Rattle.std.specs.Prelude.{◌≡◌, refl, Bool, true, false, cond, not, ◌||◌, List, [], ◌∷◌, ◌++◌, map, ℕ, zero, suc, ◌+◌, length}
use Rattle.std.proofs.Common.{sym, ap, ap₂, ◌∙◌, subst, arith}
use Rattle.row_order.specs.Iso.{Row, Key}
use Rattle.row_order.proofs.Order.{no_bool}
use Rattle.row_order.specs.Lists.{sum, concat, Same, All, all_nil, all_cons, Mixes, tab}
use Rattle.row_order.specs.ListLaws.{sum_append, mixes_sum}
use Rattle.plan.specs.Forest.{Forest, none, tree, roots}
use Rattle.plan.specs.Op.{Op, source, filter, projection, union, repartition, coalesce, sort_op, merge_op, global_limit, local_limit, sort_merge_join, hash_join, output_requirement, partial_sort, aggregate, Plan}
use Rattle.semantics.specs.Facts.{Facts, is_nil, at0, facts_op, facts}
use Rattle.semantics.specs.Properties.{Cut, cuts, any_of}
use Rattle.semantics.specs.Joins.{keep}
use Rattle.semantics.specs.Runs.{Streams, Each, each_nil, each_cons, OneStream, SortOf, Sorting, proj, in0, Made}
use Rattle.semantics.proofs.Theorems.Common.Bools.{or_false}
use Rattle.stepping.specs.Outlets.{Outlet, on, tally, inputs}
use Rattle.stepping.specs.Moves.{Way, straight, gathered, scattered, way, sort_way, reach, live, opens}
use Rattle.stepping.specs.Coming.{cut_from, joined, rest, Coming, Ahead, ahead_none, ahead_tree}
use Rattle.stepping.proofs.Theorems.Formed.{Formed, Steppable, steppable-none, steppable-tree, first_only, ahead_roots}

-- A stream that is not live is empty
abbrev pub Quiet : Bool → List Row → Type 0
Quiet b l = b ≡ false → l ≡ []

-- ---- nothing is made of nothing
no_rows : (l : List Row) → sum (λ x. 1) l ≡ 0 → l ≡ []
no_rows [] e = refl
no_rows (x ∷ l) e = absurd (omega arith)

pub same_none : {l m : List Row} → Same l m → m ≡ [] → l ≡ []
same_none {l} s e = no_rows l (s.sums (λ x. 1) ∙ ap (sum (λ x. 1)) e)

none-live : {bs : List Bool} {ss : Streams} → Each Quiet bs ss → any_of bs ≡ false → concat ss ≡ []
none-live each_nil e = refl
none-live (each_cons {x = b} {y = l} {l = bs} q h) e =
    let p = or_false b (any_of bs) e in ap₂ (λ (a t : List Row). a ++ t) (q p.0) (none-live h p.1)

each_empty : (b : Bool) (n : ℕ) (ss : Streams) → length ss ≡ n → (b ≡ false → concat ss ≡ []) → Each Quiet (tab n (λ k. b)) ss
each_empty b zero [] e h = each_nil
each_empty b zero (l ∷ ss) e h = absurd (omega arith)
each_empty b (suc n) [] e h = absurd (omega arith)
each_empty b (suc n) (l ∷ ss) e h =
    each_cons (λ (q : b ≡ false). no_rows l (omega (arith, ones q, sum_append (λ x. 1) l (concat ss))))
    (each_empty b n ss (omega arith) (λ q. no_rows (concat ss) (omega (arith, ones q, sum_append (λ x. 1) l (concat ss)))))
  where
    ones : b ≡ false → sum (λ x. 1) (l ++ concat ss) ≡ 0
    ones q = ap (sum (λ x. 1)) (h q)

one_quiet : {P : List Row → Type 0} (b : Bool) {raw : Streams} → OneStream P raw → ((l : List Row) → P l → b ≡ false → l ≡ []) → Each Quiet (b ∷ []) raw
one_quiet b h f = subst (Each Quiet (b ∷ [])) (sym h.is) (each_cons (f h.one h.that) each_nil)

quiet_map : (f : List Row → List Row) → f [] ≡ [] → {bs : List Bool} {ss : Streams} → Each Quiet bs ss → Each Quiet bs (map f ss)
quiet_map f z each_nil = each_nil
quiet_map f z (each_cons q h) = each_cons (λ e. ap f (q e) ∙ z) (quiet_map f z h)

quiet_sorts : {ks : List Key} {bs : List Bool} {ss raw : Streams} → Each Quiet bs ss → Each (SortOf ks) ss raw → Each Quiet bs raw
quiet_sorts each_nil each_nil = each_nil
quiet_sorts (each_cons q h) (each_cons s k) = each_cons (λ e. same_none s.same (q e)) (quiet_sorts h k)

mixed_same : {ss : Streams} {l : List Row} → Mixes ss l → Same l (concat ss)
mixed_same m = record { sums = mixes_sum m }

sorting_quiet : (p : Bool) (ks : List Key) (bs : List Bool) {ss raw : Streams} → Each Quiet bs ss → Sorting p ks ss raw → Each Quiet (reach (sort_way p) bs) raw
sorting_quiet true ks bs h s = quiet_sorts h s
sorting_quiet false ks bs h s = one_quiet (any_of bs) s (λ l t e. same_none t.same (none-live h e))

pub nils : (n : ℕ) → concat {A = Row} (tab n (λ k. [])) ≡ []
nils zero = refl
nils (suc n) = nils n

pub made_quiet : (o : Op) (fs : List Facts) (css : List Streams) (bs : List Bool) (raw : Streams) → Formed o (length css) → length raw ≡ (facts_op o fs).streams →
    Each Quiet bs (concat css) → Made rest 0 0 o fs css raw → Each Quiet (reach (way o) bs) raw
made_quiet o fs css bs raw = go o
  where
    first : length css ≡ 1 → Each Quiet bs (concat css) → Each Quiet bs (in0 css)
    first n h = subst (Each Quiet bs) (first_only css n) h

    go : (o : Op) → Formed o (length css) → length raw ≡ (facts_op o fs).streams → Each Quiet bs (concat css) → Made rest 0 0 o fs css raw →
        Each Quiet (reach (way o) bs) raw
    go (source s) n m h e = each_empty (any_of bs) s.streams raw m (λ q. ap concat e ∙ nils s.streams)
    go filter n m h e = subst (Each Quiet bs) (sym e) (quiet_map (keep (λ r. true)) refl (first n h))
    go (projection cols) n m h e = subst (Each Quiet bs) (sym e) (quiet_map (map (proj cols)) refl (first n h))
    go union n m h e = subst (Each Quiet bs) (sym e) h
    go (repartition p k b ks) n m h e = each_empty (any_of bs) k raw m (λ q. same_none e.same (none-live (first n.0 h) q))
    go (coalesce f) n m h e = one_quiet (any_of bs) e (λ l t q. same_none (mixed_same t) (none-live (first n h) q))
    go (sort_op p ks f) n m h e = sorting_quiet p ks bs (first n h) e
    go (merge_op ks f) n m h e = one_quiet (any_of bs) e (λ l t q. same_none (mixed_same t.mixed) (none-live (first n h) q))
    go (global_limit s f note) n m h e = one_quiet (any_of bs) e (λ l t q. same_none (mixed_same t) (none-live (first n h) q))
    go (local_limit f note) n m h e = subst (Each Quiet bs) (sym e) (first n h)
    go (sort_merge_join t keys) n m h e = absurd n
    go (hash_join t keys) n m h e = absurd n
    go (output_requirement ks d f) n m h e = subst (Each Quiet bs) (sym e) (first n h)
    go (partial_sort p ks k f) n m h e = sorting_quiet p ks bs (first n h) e
    go (aggregate ks k) n m h e = absurd n

-- ---- flags, what waits, and all that comes, stream by stream
pub data Fronts : List Bool → Streams → Streams → Type 0 where
  fronts_nil : Fronts [] [] []
  fronts_cons : {b : Bool} {w l : List Row} {bs : List Bool} {ws ts : Streams} → (b ≡ false → l ≡ []) → Fronts bs ws ts →
      Fronts (b ∷ bs) (w ∷ ws) ((w ++ l) ∷ ts)

pub fronts_append : {bs cs : List Bool} {ws vs ts us : Streams} → Fronts bs ws ts → Fronts cs vs us → Fronts (bs ++ cs) (ws ++ vs) (ts ++ us)
fronts_append fronts_nil k = k
fronts_append (fronts_cons q h) k = fronts_cons q (fronts_append h k)

pub fronts-live : {bs : List Bool} {ws ts : Streams} → Fronts bs ws ts → Each Quiet (live bs ws) ts
fronts-live fronts_nil = each_nil
fronts-live (fronts_cons {b = b} {w = w} {l = l} q h) = each_cons (go w) (fronts-live h)
  where
    go : (w : List Row) → b || not (is_nil w) ≡ false → w ++ l ≡ []
    go [] e = q (or_false b false e).0
    go (x ∷ w) e = no_bool (sym (or_false b true e).1)

node_fronts : (k : Cut) (w : ℕ → List Row) (t : ℕ → ℕ) (n : ℕ) {bs : List Bool} {raw : Streams} → length raw ≡ n → Each Quiet bs raw →
    Fronts bs (tab n w) (joined k w t raw)
node_fronts k w t zero e each_nil = fronts_nil
node_fronts k w t zero e (each_cons q h) = absurd (omega arith)
node_fronts k w t (suc n) e each_nil = absurd (omega arith)
node_fronts k w t (suc n) e (each_cons q h) =
    fronts_cons (λ f. ap (cut_from k (t zero)) (q f)) (node_fronts k (λ i. w (suc i)) (λ i. t (suc i)) n (omega arith) h)

pub fronts : {f : Plan} {st : Forest Outlet} {out : Forest Streams} → Steppable f → Ahead f st out →
    Fronts (concat (opens f st)) (inputs (facts f) (roots st)) (concat (roots out))
fronts s ahead_none = fronts_nil
fronts (steppable-tree n s t) (ahead_tree {o = o} {c = c} {d = d} {sc = sc} {cs = cs} h a b) =
    fronts_append
    (subst (Fronts (reach (way o) (live (concat (opens c sc)) (inputs (facts c) (roots sc)))) (tab (facts_op o (facts c)).streams (λ k. on k d.waiting)))
    (sym h.is)
    (node_fronts (cuts o) (λ k. on k d.waiting) (λ k. tally k d.came) (facts_op o (facts c)).streams h.many
    (made_quiet o (facts c) (roots cs) (live (concat (opens c sc)) (inputs (facts c) (roots sc))) h.raw (subst (Formed o) (sym (ahead_roots a)) n) h.many
    (fronts-live (fronts s a)) h.made)))
    (fronts t b)
