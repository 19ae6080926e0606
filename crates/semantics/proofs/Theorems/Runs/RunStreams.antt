-- A run has at every node as many streams as the node's facts say, whether or not the plan passes the order check: `run_streams`.
use Rattle.std.specs.Prelude.{◌≡◌, refl, Bool, true, false, cond, List, [], ◌∷◌, map, ℕ, suc, ◌+◌, length, drop}
use Rattle.std.proofs.Common.{sym, ap, ap₂, ◌∙◌, arith, length-append}
use Rattle.std.proofs.lemmas.List.{length-map}
use Rattle.row_order.specs.Iso.{Row, Key}
use Rattle.row_order.specs.Lists.{concat}
use Rattle.row_order.specs.ListLaws.{length-tab}
use Rattle.plan.specs.Forest.{Forest, roots}
use Rattle.plan.specs.Op.{Op, source, filter, projection, union, repartition, coalesce, sort_op, merge_op, global_limit, local_limit, sort_merge_join, hash_join, output_requirement, partial_sort, aggregate, Plan}
use Rattle.semantics.specs.Facts.{Facts, nothing, union_facts, sort_streams, by_right, at0, at1, facts_op, facts}
use Rattle.semantics.specs.Properties.{cuts}
use Rattle.semantics.specs.Joins.{keep}
use Rattle.semantics.specs.Runs.{Streams, Env, Each, each_nil, each_cons, OneStream, proj, Sorting, zip_left, zip_right, with_all, in0, in1, Made, cut_rows, Run, run_none, run_tree}
use Rattle.semantics.specs.Holds.{AsMany, Everywhere, nowhere, node}
use Rattle.semantics.proofs.Theorems.Common.Streams.{each_length, each_at}

-- ---- what holds at every node
pub everywhere_map : {P Q : Op → Plan → List Streams → Streams → Type 0} →
    ((o : Op) (c : Plan) (css : List Streams) (s : Streams) → P o c css s → Q o c css s) → {f : Plan} {out : Forest Streams} → Everywhere P f out →
    Everywhere Q f out
everywhere_map h nowhere = nowhere
everywhere_map h (node {o = o} {c = c} {s = s} {cs = cs} p k l) = node (h o c (roots cs) s p) (everywhere_map h k) (everywhere_map h l)

-- what holds of the facts and the streams of every node holds of the roots'
pub each_root : (Q : Facts → Streams → Type 0) {f : Plan} {out : Forest Streams} → Everywhere (λ o c css s. Q (facts_op o (facts c)) s) f out →
    Each Q (facts f) (roots out)
each_root Q nowhere = each_nil
each_root Q (node h k l) = each_cons h (each_root Q l)

-- ---- one node
one_many : {P : List Row → Type 0} {out : Streams} → OneStream P out → length out ≡ 1
one_many h = ap length h.is

union_many : {fs : List Facts} {css : List Streams} → Each AsMany fs css → length (concat css) ≡ (union_facts fs).streams
union_many each_nil = refl
union_many (each_cons {y = s} h each_nil) = length-append s [] ∙ omega arith
union_many (each_cons {y = s} h (each_cons {y = t} {m = css} k ks)) = length-append s (concat (t ∷ css))
    ∙ ap₂ ◌+◌ h (union_many {css = t ∷ css} (each_cons k ks))

sorting_many : (p : Bool) (ks : List Key) (F : Facts) (s out : Streams) → AsMany F s → Sorting p ks s out → length out ≡ sort_streams p F
sorting_many true ks F s out n e = each_length e ∙ n
sorting_many false ks F s out n e = one_many e

zip_left_length : (ls rs : Streams) → length (zip_left ls rs) ≡ length ls
zip_left_length [] rs = refl
zip_left_length (l ∷ ls) rs = ap suc (zip_left_length ls (drop 1 rs))

zip_right_length : (ls rs : Streams) → length (zip_right ls rs) ≡ length rs
zip_right_length ls [] = refl
zip_right_length ls (r ∷ rs) = ap suc (zip_right_length (drop 1 ls) rs)

numbered_length : (b : Bool) (ls rs : Streams) (m n : ℕ) → length ls ≡ m → length rs ≡ n → length (cond b (zip_right ls rs) (zip_left ls rs)) ≡ cond b n m
numbered_length true ls rs m n p q = zip_right_length ls rs ∙ q
numbered_length false ls rs m n p q = zip_left_length ls rs ∙ p

pub made_many : (E : Env) (i j : ℕ) (o : Op) (fs : List Facts) (css : List Streams) (out : Streams) → Each AsMany fs css → Made E i j o fs css out →
    AsMany (facts_op o fs) out
made_many E i j o fs css out hs e = go o e
  where
    first : AsMany (at0 fs) (in0 css)
    first = each_at nothing [] refl hs 0

    second : AsMany (at1 fs) (in1 css)
    second = each_at nothing [] refl hs 1

    go : (o : Op) → Made E i j o fs css out → AsMany (facts_op o fs) out
    go (source s) e = ap length e ∙ length-tab s.streams (E.rows i)
    go filter e = ap length e ∙ length-map (in0 css) (keep (E.test j)) ∙ first
    go (projection cols) e = ap length e ∙ length-map (in0 css) (map (proj cols)) ∙ first
    go union e = ap length e ∙ union_many hs
    go (repartition p n h ks) e = e.count
    go (coalesce f) e = one_many e
    go (sort_op p ks f) e = sorting_many p ks (at0 fs) (in0 css) out first e
    go (merge_op ks f) e = one_many e
    go (global_limit s f note) e = one_many e
    go (local_limit f note) e = ap length e ∙ first
    go (sort_merge_join t on) e = each_length e ∙ numbered_length (by_right t) (in0 css) (in1 css) (at0 fs).streams (at1 fs).streams first second
    go (hash_join t on) e = each_length e ∙ length-map (in1 css) (with_all (concat (in0 css))) ∙ second
    go (output_requirement ks d f) e = ap length e ∙ first
    go (partial_sort p ks n f) e = sorting_many p ks (at0 fs) (in0 css) out first e
    go (aggregate ks n) e = each_length e ∙ first

-- ---- every node
pub run_streams : {E : Env} {i j : ℕ} {f : Plan} {out : Forest Streams} → Run E i j f out → Everywhere (λ o c css s. AsMany (facts_op o (facts c)) s) f out
run_streams run_none = nowhere
run_streams {E} (run_tree {i = i} {j = j} {o = o} {c = c} {cs = cs} st h k) =
    let g = run_streams h in
    node (ap length st.is ∙ length-map st.raw (cut_rows (cuts o)) ∙ made_many E i j o (facts c) (roots cs) st.raw (each_root AsMany g) st.made) g
    (run_streams k)
