-- The rows of any run of a plan that has no joins and no aggregates and cuts nothing off are those of its bag, in some order: `run_rows`. So runs of two
-- such plans with the same bags, given the same, deliver the same rows: `same_rows`.
use Rattle.std.specs.Prelude.{◌≡◌, refl, Bool, true, false, cond, not, ◌&&◌, ◌||◌, List, [], ◌∷◌, map, ℕ, eqb, get_or, drop, Option, Some, None}
use Rattle.std.proofs.Common.{sym, ap, ap₂, ◌∙◌, subst, eqb-true}
use Rattle.row_order.specs.Iso.{Row, Key}
use Rattle.row_order.proofs.Order.{no_bool}
use Rattle.row_order.specs.Lists.{sum, concat, Same}
use Rattle.row_order.specs.ListLaws.{sum_append, same_refl, same_sym, same_trans, same_append, mixes_sum}
use Rattle.plan.specs.Forest.{Forest, none, tree, roots}
use Rattle.plan.specs.Op.{Op, source, filter, projection, union, repartition, coalesce, sort_op, merge_op, global_limit, local_limit, sort_merge_join, hash_join, output_requirement, partial_sort, aggregate, Plan}
use Rattle.semantics.specs.Facts.{Facts, facts}
use Rattle.semantics.specs.Properties.{Cut, cuts, is_all, whole, is_join, is_aggregate, simple_op}
use Rattle.semantics.specs.Runs.{Streams, Env, next_s, next_f, past, Each, each_nil, each_cons, proj, Sorting, in0, Made, front, cut_rows, Run, run_none, run_tree, AtSource, EachSource, SameSource, SameInputs}
use Rattle.semantics.proofs.Theorems.Common.Bools.{and_left, and_right}
use Rattle.semantics.proofs.Theorems.Common.Streams.{each_at}
use Rattle.semantics.proofs.Theorems.Common.Sums.{sum-concat_append, sum-map, sum-keep, sum-concat-map, sum-concat-keep, sum_sorts, sum_single, sum_ext}
use Rattle.semantics.specs.Bags.{simple_plan, bag_op, bags, Fills, SameRows}

fills_concat : {css : List Streams} {bs : List (List Row)} → Each Fills css bs → Same (concat (concat css)) (concat bs)
fills_concat each_nil = same_refl []
fills_concat (each_cons {x = s} {l = css} r h) =
    same_trans (record { sums = λ w. sum-concat_append w s (concat css) ∙ sym (sum_append w (concat s) (concat (concat css))) })
    (same_append r (fills_concat h))

same_of : {l m : List Row} → l ≡ m → Same l m
same_of e = record { sums = λ w. ap (sum w) e }

sorting_rows : (p : Bool) (ks : List Key) (s out : Streams) → Sorting p ks s out → Same (concat out) (concat s)
sorting_rows true ks s out e = record { sums = λ w. sum_sorts w ks e }
sorting_rows false ks s out e = record { sums = λ w. sum_single w e ∙ e.that.same.sums w }

made_rows : (E : Env) (i j : ℕ) (o : Op) (fs : List Facts) (css : List Streams) (bs : List (List Row)) (out : Streams) → not (is_join o || is_aggregate o) ≡ true
    → Made E i j o fs css out → Each Fills css bs → Same (concat out) (bag_op E i j o bs)
made_rows E i j (source s) fs css bs out nj e hs = same_of (ap concat e)
made_rows E i j filter fs css bs out nj e hs =
    let h : Fills (in0 css) (get_or bs 0 []) = each_at [] [] (same_refl []) hs 0 in
    record {
      sums = λ w. ap (λ (s : Streams). sum w (concat s)) e ∙ sum-concat-keep w (E.test j) (in0 css) ∙ h.sums _
          ∙ sym (sum-keep w (E.test j) (get_or bs 0 []));
    }
made_rows E i j (projection cols) fs css bs out nj e hs =
    let h : Fills (in0 css) (get_or bs 0 []) = each_at [] [] (same_refl []) hs 0 in
    record {
      sums = λ w. ap (λ (s : Streams). sum w (concat s)) e ∙ sum-concat-map w (proj cols) (in0 css) ∙ h.sums _
          ∙ sym (sum-map w (proj cols) (get_or bs 0 []));
    }
made_rows E i j union fs css bs out nj e hs = same_trans (same_of (ap concat e)) (fills_concat hs)
made_rows E i j (repartition p n h ks) fs css bs out nj e hs = same_trans e.same (each_at [] [] (same_refl []) hs 0)
made_rows E i j (coalesce f) fs css bs out nj e hs = same_trans (record { sums = λ w. sum_single w e ∙ mixes_sum e.that w })
    (each_at [] [] (same_refl []) hs 0)
made_rows E i j (sort_op p ks f) fs css bs out nj e hs = same_trans (sorting_rows p ks (in0 css) out e) (each_at [] [] (same_refl []) hs 0)
made_rows E i j (merge_op ks f) fs css bs out nj e hs = same_trans (record { sums = λ w. sum_single w e ∙ mixes_sum e.that.mixed w })
    (each_at [] [] (same_refl []) hs 0)
made_rows E i j (global_limit s f note) fs css bs out nj e hs = same_trans (record { sums = λ w. sum_single w e ∙ mixes_sum e.that w })
    (each_at [] [] (same_refl []) hs 0)
made_rows E i j (local_limit f note) fs css bs out nj e hs = same_trans (same_of (ap concat e)) (each_at [] [] (same_refl []) hs 0)
made_rows E i j (sort_merge_join t on) fs css bs out nj e hs = no_bool nj
made_rows E i j (hash_join t on) fs css bs out nj e hs = no_bool nj
made_rows E i j (output_requirement ks d f) fs css bs out nj e hs = same_trans (same_of (ap concat e)) (each_at [] [] (same_refl []) hs 0)
made_rows E i j (partial_sort p ks n f) fs css bs out nj e hs = same_trans (sorting_rows p ks (in0 css) out e) (each_at [] [] (same_refl []) hs 0)
made_rows E i j (aggregate ks n) fs css bs out nj e hs = no_bool nj

front-whole : (f : Option ℕ) (l : List Row) → is_all f ≡ true → front f l ≡ l
front-whole None l e = refl
front-whole (Some n) l e = no_bool e

cut_whole : (k : Cut) → whole k ≡ true → (l : List Row) → cut_rows k l ≡ l
cut_whole k e l =
    front-whole k.fetch (drop k.skip l) (and_right (eqb k.skip 0) (is_all k.fetch) e)
    ∙ ap (λ (n : ℕ). drop n l) (eqb-true k.skip 0 (and_left (eqb k.skip 0) (is_all k.fetch) e))

pub map_id : {A : Type 0} (f : A → A) → ((x : A) → f x ≡ x) → (l : List A) → map f l ≡ l
map_id f h [] = refl
map_id f h (x ∷ l) = ap₂ ◌∷◌ (h x) (map_id f h l)

pub run_rows : {E : Env} {i j : ℕ} {f : Plan} {out : Forest Streams} → Run E i j f out → simple_plan f ≡ true → Each Fills (roots out) (bags E i j f)
run_rows run_none e = each_nil
run_rows {E} (run_tree {i = i} {j = j} {o = o} {c = c} {r = r} {s = s} {cs = cs} {rs = rs} st h k) e =
    let p : simple_op o ≡ true = and_left (simple_op o) (simple_plan c && simple_plan r) e in
    let q = and_right (simple_op o) (simple_plan c && simple_plan r) e in
    let whole_cut : s ≡ st.raw = st.is ∙ map_id (cut_rows (cuts o))
    (cut_whole (cuts o) (and_left (whole (cuts o)) (not (is_join o || is_aggregate o)) p)) st.raw in
    each_cons (same_trans (same_of (ap concat whole_cut))
    (made_rows E i j o (facts c) (roots cs) _ st.raw (and_right (whole (cuts o)) (not (is_join o || is_aggregate o)) p) st.made
    (run_rows h (and_left (simple_plan c) (simple_plan r) q))))
    (run_rows k (and_right (simple_plan c) (simple_plan r) q))

-- ---- bags, however the sources' rows are spread over their streams
same_concat : {bs ds : List (List Row)} → Each Same bs ds → Same (concat bs) (concat ds)
same_concat each_nil = same_refl []
same_concat (each_cons h hs) = same_append h (same_concat hs)

module _ (E E' : Env) (tests : (j : ℕ) (r : Row) → E.test j r ≡ E'.test j r) where
  same_bag : (i j : ℕ) (o : Op) (bs ds : List (List Row)) → AtSource (SameSource E E' i) o → Each Same bs ds → Same (bag_op E i j o bs) (bag_op E' i j o ds)
  same_bag i j (source s) bs ds h hs = h
  same_bag i j filter bs ds h hs =
      let b : Same (get_or bs 0 []) (get_or ds 0 []) = each_at [] [] (same_refl []) hs 0 in
      record {
        sums = λ w. sum-keep w (E.test j) (get_or bs 0 []) ∙ b.sums _ ∙ sum_ext _ _ (λ r. ap (λ (p : Bool). cond p (w r) 0) (tests j r))
            (get_or ds 0 []) ∙ sym (sum-keep w (E'.test j) (get_or ds 0 []));
      }
  same_bag i j (projection cols) bs ds h hs =
      let b : Same (get_or bs 0 []) (get_or ds 0 []) = each_at [] [] (same_refl []) hs 0 in
      record { sums = λ w. sum-map w (proj cols) (get_or bs 0 []) ∙ b.sums _ ∙ sym (sum-map w (proj cols) (get_or ds 0 [])) }
  same_bag i j union bs ds h hs = same_concat hs
  same_bag i j (repartition p n hash ks) bs ds h hs = each_at [] [] (same_refl []) hs 0
  same_bag i j (coalesce f) bs ds h hs = each_at [] [] (same_refl []) hs 0
  same_bag i j (sort_op p ks f) bs ds h hs = each_at [] [] (same_refl []) hs 0
  same_bag i j (merge_op ks f) bs ds h hs = each_at [] [] (same_refl []) hs 0
  same_bag i j (global_limit s f note) bs ds h hs = each_at [] [] (same_refl []) hs 0
  same_bag i j (local_limit f note) bs ds h hs = each_at [] [] (same_refl []) hs 0
  same_bag i j (sort_merge_join t on) bs ds h hs = same_refl []
  same_bag i j (hash_join t on) bs ds h hs = same_refl []
  same_bag i j (output_requirement ks d f) bs ds h hs = each_at [] [] (same_refl []) hs 0
  same_bag i j (partial_sort p ks n f) bs ds h hs = each_at [] [] (same_refl []) hs 0
  same_bag i j (aggregate ks n) bs ds h hs = same_refl []

  same_bags : (i j : ℕ) (f : Plan) → EachSource (SameSource E E') i f → Each Same (bags E i j f) (bags E' i j f)
  same_bags i j none h = each_nil
  same_bags i j (tree o c r) h =
      each_cons (same_bag i j o _ _ h.0 (same_bags (next_s o i) (next_f o j) c h.1))
      (same_bags (past next_s c (next_s o i)) (past next_f c (next_f o j)) r h.2)

-- ---- two runs
fills_same : {xs ys : List Streams} {bs ds : List (List Row)} → Each Fills xs bs → Each Same bs ds → Each Fills ys ds → Each SameRows xs ys
fills_same each_nil each_nil each_nil = each_nil
fills_same (each_cons p ps) (each_cons s ss) (each_cons q qs) = each_cons (same_trans p (same_trans s (same_sym q))) (fills_same ps ss qs)

pub same_rows : {E E' : Env} (f g : Plan) {x y : Forest Streams} → SameInputs E E' f → bags E' 0 0 g ≡ bags E' 0 0 f → simple_plan f ≡ true
    → simple_plan g ≡ true → Run E 0 0 f x → Run E' 0 0 g y →
    Each SameRows (roots x) (roots y)
same_rows {E} {E'} f g {y = y} given same p q rx ry =
    fills_same (run_rows rx p) (same_bags E E' given.tests 0 0 f given.rows) (subst (Each Fills (roots y)) same (run_rows ry q))
