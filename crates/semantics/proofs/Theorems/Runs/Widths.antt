-- In a run of a plan, over source rows as wide as their source, every row of every stream is as wide as its node: `run_wide`.
use Rattle.std.specs.Prelude.{◌≡◌, refl, Bool, true, false, List, [], ◌∷◌, map, ℕ, ◌+◌, eqb, length, get_or}
use Rattle.std.proofs.Common.{sym, ap, ap₂, ◌∙◌, subst, subst₂, arith, eqb-true, length-append}
use Rattle.std.proofs.lemmas.List.{length-map}
use Rattle.row_order.specs.Iso.{null, Row, Key, cell}
use Rattle.row_order.specs.RowLists.{row_discrete}
use Rattle.row_order.specs.Lists.{concat, All, all_nil, all_cons, tab}
use Rattle.row_order.specs.ListLaws.{all_append, all_map, all_over, all_concat, same_all, mixes_all, length-tab}
use Rattle.plan.specs.Forest.{Forest, roots}
use Rattle.plan.specs.Op.{On, Op, source, filter, projection, union, repartition, coalesce, sort_op, merge_op, global_limit, local_limit, sort_merge_join, hash_join, output_requirement, partial_sort, aggregate, Plan}
use Rattle.plan.specs.WellFormed.{every, join_width, width, widths, union_ok, nodes_ok, columns_of}
use Rattle.plan.specs.declared.JoinType.{JoinType}
use Rattle.plan.specs.declared.JoinType.TheVariants.{Inner, Left, Right, Full, LeftSemi, LeftAnti, RightSemi, RightAnti}
use Rattle.semantics.specs.Facts.{Facts, nothing, Kept, at0, at1, facts, smj_kept, hash_kept}
use Rattle.semantics.specs.Properties.{cuts}
use Rattle.semantics.specs.Joins.{keep, join_row, nulls, matches, left_pairs, right_pairs, matched, padded, semi, anti, g_left, g_right, unmatched, sql, Joined}
use Rattle.semantics.specs.Runs.{Streams, Env, Each, each_nil, each_cons, proj, Sorting, Pair, like_numbered, with_all, in0, in1, Made, Run, run_none, run_tree, AtSource, EachSource, Wide, WideSource, begins, GroupRow}
use Rattle.semantics.specs.Holds.{Everywhere, nowhere, node}
use Rattle.semantics.proofs.Theorems.Common.Bools.{and_left, and_right}
use Rattle.semantics.proofs.Theorems.Common.Streams.{keep_all, concat_each, each_at, each_all}
use Rattle.semantics.proofs.Theorems.Joins.Cells.{or_else_all, if_any_all, any_all, map_all, concat_all}
use Rattle.semantics.proofs.Theorems.Joins.AllRows.{joined_sql}
use Rattle.semantics.proofs.Theorems.Sound.KindsHold.{sorts_rows, cut_all}
use Rattle.semantics.proofs.Theorems.Sound.Sound.{numbered_all, joins_rows}
use Rattle.semantics.proofs.Theorems.Facts.Fits.{child_width, facts-widths}

abbrev Long : ℕ → Row → Type 0
Long w r = length r ≡ w

-- ---- joins
joined_long : (w : ℕ) (l r : Row) (v : ℕ) → Long v r → Long (w + v) (join_row w l r)
joined_long w l r v h = length-append (tab w (cell l)) r ∙ omega (arith, length-tab w (cell l))

nulls_long : (v : ℕ) → Long v (nulls v)
nulls_long v = length-tab v (λ c. null)

module _ (on : List On) (w v : ℕ) where
  left_pairs_lem : (R : List Row) → All (Long v) R → (l : Row) → All (Long (w + v)) (left_pairs on w R l)
  left_pairs_lem R qs l = all_over (join_row w l) (λ r q. joined_long w l r v q) (keep_all (matches on l) qs)

  left_padded : (R : List Row) → All (Long v) R → (l : Row) → All (Long (w + v)) (g_left padded on w v R l)
  left_padded R qs l = or_else_all (left_pairs_lem R qs l) (all_cons (joined_long w l (nulls v) v (nulls_long v)) all_nil)

  right_pairs_lem : (L : List Row) (r : Row) → Long v r → All (Long (w + v)) (right_pairs on w L r)
  right_pairs_lem L r q = map_all (λ l. join_row w l r) (λ l. joined_long w l r v q) (keep (λ l. matches on l r) L)

  sql_long : (t : JoinType) (L R : List Row) → All (Long w) L → All (Long v) R → All (Long (join_width t w v)) (sql t on w v L R)
  sql_long Inner L R ps qs = concat_all (g_left matched on w v R) (λ l p. left_pairs_lem R qs l) ps
  sql_long Left L R ps qs = concat_all (g_left padded on w v R) (λ l p. left_padded R qs l) ps
  sql_long Right L R ps qs = concat_all (g_right padded on w L) (λ r q. or_else_all (right_pairs_lem L r q) (all_cons (joined_long w (nulls w) r v q) all_nil)) qs
  sql_long Full L R ps qs =
      all_append (concat_all (g_left padded on w v R) (λ l p. left_padded R qs l) ps)
      (concat_all (unmatched on w L) (λ r q. if_any_all (right_pairs on w L r) all_nil (all_cons (joined_long w (nulls w) r v q) all_nil)) qs)
  sql_long LeftSemi L R ps qs = concat_all (g_left semi on w v R) (λ l p. if_any_all (left_pairs on w R l) (all_cons p all_nil) all_nil) ps
  sql_long LeftAnti L R ps qs = concat_all (g_left anti on w v R) (λ l p. if_any_all (left_pairs on w R l) all_nil (all_cons p all_nil)) ps
  sql_long RightSemi L R ps qs = concat_all (g_right semi on w L) (λ r q. if_any_all (right_pairs on w L r) (all_cons q all_nil) all_nil) qs
  sql_long RightAnti L R ps qs = concat_all (g_right anti on w L) (λ r q. if_any_all (right_pairs on w L r) all_nil (all_cons q all_nil)) qs

  joins_wide : (t : JoinType) (k : Kept) {ps : List Pair} {out : Streams} → All (λ p. All (Long w) p.0 × All (Long v) p.1) ps →
      Each (Joined t k on w v) ps out → Wide (join_width t w v) out
  joins_wide t k hs js = joins_rows (λ p o h j. same_all row_discrete o (joined_sql on w v p o t k j) (sql_long t p.0 p.1 h.0 h.1)) hs js

-- ---- one node
sorting_wide : (w : ℕ) (p : Bool) (ks : List Key) (s out : Streams) → Wide w s → Sorting p ks s out → Wide w out
sorting_wide w true ks s out hs e = sorts_rows e hs
sorting_wide w false ks s out hs e = subst (Wide w) (sym e.is) (all_cons (same_all row_discrete e.one e.that.same (all_concat s hs)) all_nil)

union_wide : (w : ℕ) {ws : List ℕ} {css : List Streams} → every (λ v. eqb v w) ws ≡ true → Each Wide ws css → All (Wide w) css
union_wide w e each_nil = all_nil
union_wide w e (each_cons {x = v} {y = s} {l = ws} h hs) = all_cons (subst (λ (n : ℕ). Wide n s) (eqb-true v w (search and_left)) h)
    (union_wide w (search (and_left, and_right)) hs)

-- a group's row is as wide as the group columns and the aggregate columns together
group_long : (ks : List Key) (n : ℕ) (x y : Row) → GroupRow ks n x y → Long (length ks + n) y
group_long ks n x y g = ap length g.is ∙ length-append (proj (columns_of ks) x) g.cells
    ∙ ap₂ ◌+◌ (length-map (columns_of ks) (cell x) ∙ length-map ks (λ k. k.col)) g.many

-- of children whose facts are fs, widths ws and streams css
module _ (E : Env) (i j : ℕ) (fs : List Facts) (ws : List ℕ) (css : List Streams) (ok : map (λ F. F.width) fs ≡ ws) (hs : Each Wide ws css)
    (out : Streams) where
  first : Wide (get_or ws 0 0) (in0 css)
  first = each_at 0 [] all_nil hs 0

  second : Wide (get_or ws 1 0) (in1 css)
  second = each_at 0 [] all_nil hs 1

  is_at : (n : ℕ) → (get_or fs n nothing).width ≡ get_or ws n 0
  is_at n = child_width fs n ∙ ap (λ (l : List ℕ). get_or l n 0) ok

  joined_wide : (t : JoinType) (k : Kept) (on : List On) (ps : List Pair) → All (λ p. All (Long (get_or ws 0 0)) p.0 × All (Long (get_or ws 1 0)) p.1) ps
      →
      Each (Joined t k on (at0 fs).width (at1 fs).width) ps out →
      Wide (join_width t (get_or ws 0 0) (get_or ws 1 0)) out
  joined_wide t k on ps ls e = joins_wide on (get_or ws 0 0) (get_or ws 1 0) t k ls
      (subst₂ (λ (a b : ℕ). Each (Joined t k on a b) ps out) (is_at 0) (is_at 1) e)

  made_wide : (o : Op) → AtSource (WideSource E i) o → union_ok o ws ≡ true → Made E i j o fs css out → Wide (width o ws) out
  made_wide (source s) d u e = subst (Wide s.width) (sym e) d
  made_wide filter d u e = subst (Wide (get_or ws 0 0)) (sym e) (all_over (keep (E.test j)) (λ l. keep_all (E.test j)) first)
  made_wide (projection cols) d u e =
      subst (Wide (length cols)) (sym e) (map_all (map (proj cols)) (λ l. map_all (proj cols) (λ r. length-map cols (cell r)) l) (in0 css))
  made_wide union d u e = subst (Wide (get_or ws 0 0)) (sym e) (all_concat css (union_wide (get_or ws 0 0) u hs))
  made_wide (repartition p n h ks) d u e = concat_each out (same_all row_discrete (concat out) e.same (all_concat (in0 css) first))
  made_wide (coalesce f) d u e = subst (Wide (get_or ws 0 0)) (sym e.is) (all_cons (mixes_all e.that first) all_nil)
  made_wide (sort_op p ks f) d u e = sorting_wide (get_or ws 0 0) p ks (in0 css) out first e
  made_wide (merge_op ks f) d u e = subst (Wide (get_or ws 0 0)) (sym e.is) (all_cons (mixes_all e.that.mixed first) all_nil)
  made_wide (global_limit s f note) d u e = subst (Wide (get_or ws 0 0)) (sym e.is) (all_cons (mixes_all e.that first) all_nil)
  made_wide (local_limit f note) d u e = subst (Wide (get_or ws 0 0)) (sym e) first
  made_wide (sort_merge_join t on) d u e = joined_wide t (smj_kept t) on (like_numbered t (in0 css) (in1 css)) (numbered_all t all_nil all_nil first second) e
  made_wide (hash_join t on) d u e = joined_wide t (hash_kept t) on (map (with_all (concat (in0 css))) (in1 css))
      (all_over (with_all (concat (in0 css))) (λ r q. (all_concat (in0 css) first, q)) second) e
  made_wide (output_requirement ks dist f) d u e = subst (Wide (get_or ws 0 0)) (sym e) first
  made_wide (partial_sort p ks n f) d u e = sorting_wide (get_or ws 0 0) p ks (in0 css) out first e
  made_wide (aggregate ks n) d u e = each_all (λ s t _ g. each_all (λ x y _. group_long ks n x y) (any_all (λ x. tt {0}) (begins ks s)) g)
      (any_all (λ s. tt {0}) (in0 css)) e

-- ---- every node
wide_roots : {f : Plan} {out : Forest Streams} → Everywhere (λ o c css s. Wide (width o (widths c)) s) f out → Each Wide (widths f) (roots out)
wide_roots nowhere = each_nil
wide_roots (node h k l) = each_cons h (wide_roots l)

pub run_wide : {E : Env} {i j : ℕ} {f : Plan} {out : Forest Streams} → Run E i j f out → EachSource (WideSource E) i f → nodes_ok f ≡ true →
    Everywhere (λ o c css s. Wide (width o (widths c)) s) f out
run_wide run_none d e = nowhere
run_wide {E} (run_tree {i = i} {j = j} {o = o} {c = c} {r = r} {cs = cs} st h k) d e =
    let g = run_wide h d.1 (search (and_left, and_right)) in
    let u : union_ok o (widths c) ≡ true = search (and_left, and_right) in
    let raw : Wide (width o (widths c)) st.raw = made_wide E i j (facts c) (widths c) (roots cs) (facts-widths c) (wide_roots g) st.raw o d.0 u
    st.made in
    node (subst (Wide (width o (widths c))) (sym st.is) (cut_all (cuts o) raw)) g (run_wide k d.2 (search (and_left, and_right)))
