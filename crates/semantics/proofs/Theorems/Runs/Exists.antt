-- "Every accepted plan has a run, whatever its source rows and filter tests."
use Rattle.std.specs.Prelude.{◌≡◌, refl, Bool, true, false, List, [], ◌∷◌, map, ℕ, zero, suc, ◌≤◌, length, get_or}
use Rattle.std.proofs.Common.{ap, arith, leb-true}
use Rattle.row_order.specs.Iso.{null, Row, Key}
use Rattle.row_order.specs.Lists.{sum, concat, Same, all_cons, pw_nil, tab}
use Rattle.row_order.specs.ListLaws.{sum_append, same_refl, mixes_sum, length-tab}
use Rattle.row_order.specs.RowLists.{Sorted}
use Rattle.row_order.proofs.Sorting.{merges, merges_mixes, merges_sorted, sort, sort_same, sort_sorted}
use Rattle.plan.specs.Forest.{Forest, none, tree, roots}
use Rattle.plan.specs.Op.{On, Op, source, filter, projection, union, repartition, coalesce, sort_op, merge_op, global_limit, local_limit, sort_merge_join, hash_join, output_requirement, partial_sort, aggregate, Plan}
use Rattle.plan.specs.WellFormed.{fields_ok, nodes_ok, well_formed}
use Rattle.plan.specs.declared.JoinType.{JoinType}
use Rattle.plan.specs.declared.JoinType.TheVariants.{Inner, Left, Right, Full, LeftSemi, LeftAnti, RightSemi, RightAnti}
use Rattle.semantics.specs.Facts.{Facts, keeps_order, smj_kept, hash_kept, at0, at1, facts}
use Rattle.semantics.specs.Properties.{cuts}
use Rattle.semantics.specs.Joins.{nulls, Gives, matched, padded, semi, anti, g_left, g_right, sql, Grouped, grouped_nil, grouped_cons, Joined}
use Rattle.semantics.specs.Runs.{Streams, Env, next_s, next_f, past, Each, each_nil, each_cons, Split, SortOf, Sorting, Pair, like_numbered, with_all, in0, in1, Made, cut_rows, Run, run_none, run_tree, begins, Grouping}
use Rattle.semantics.proofs.Theorems.Common.Bools.{and_left, and_right}
use Rattle.semantics.proofs.Theorems.Common.Streams.{all_tab}

-- ---- a split: all rows to the first of n streams, merged by the known order
abbrev empties : ℕ → Streams
empties n = tab n (λ k. [])

empties-sum : (w : Row → ℕ) (n : ℕ) → sum w (concat (empties n)) ≡ 0
empties-sum w zero = refl
empties-sum w (suc n) = empties-sum w n

split_exists : (n : ℕ) → 1 ≤ n → (ks : List Key) (b : Bool) (ins : Streams) → (out : Streams) × Split n ks b ins out
split_exists zero l ks b ins = absurd (omega arith)
split_exists (suc n) l ks b ins = (
  merges ks ins ∷ empties n,
  record {
    count = ap suc (length-tab n (λ k. []));
    same = record { sums = λ w. omega (arith, sum_append w (merges ks ins) (concat (empties n)), empties-sum w n, mixes_sum (merges_mixes ks ins) w) };
    sorted = λ _ h. all_cons (merges_sorted ks ins h) (all_tab n (λ k. []) (λ k. pw_nil));
  },
)

sorts : (ks : List Key) (s : Streams) → Each (SortOf ks) s (map (sort ks) s)
sorts ks [] = each_nil
sorts ks (x ∷ s) = each_cons (record { same = sort_same ks x; sorted = sort_sorted ks x }) (sorts ks s)

grouped : (g : Row → List Row) (l : List Row) → Grouped g l (concat (map g l))
grouped g [] = grouped_nil
grouped g (x ∷ l) = grouped_cons (same_refl (g x)) (grouped g l)

-- a pair of streams joined, each kind in the order of the side that it keeps
module _ (on : List On) (w v : ℕ) (p : Pair) where
  by_left : (g : Gives) → (out : List Row) × Grouped (g_left g on w v p.1) p.0 out
  by_left g = (_, grouped (g_left g on w v p.1) p.0)

  by_right : (g : Gives) → (out : List Row) × Grouped (g_right g on w p.0) p.1 out
  by_right g = (_, grouped (g_right g on w p.0) p.1)

  unordered : (t : JoinType) → (out : List Row) × Same out (sql t on w v p.0 p.1)
  unordered t = (_, same_refl (sql t on w v p.0 p.1))

  smj_joined : (t : JoinType) → (out : List Row) × Joined t (smj_kept t) on w v p out
  smj_joined Inner = by_left matched
  smj_joined Left = by_left padded
  smj_joined Right = by_right padded
  smj_joined Full = unordered Full
  smj_joined LeftSemi = by_left semi
  smj_joined LeftAnti = by_left anti
  smj_joined RightSemi = by_right semi
  smj_joined RightAnti = by_right anti

  hash_joined : (t : JoinType) → (out : List Row) × Joined t (hash_kept t) on w v p out
  hash_joined Inner = by_right matched
  hash_joined Left = unordered Left
  hash_joined Right = by_right padded
  hash_joined Full = unordered Full
  hash_joined LeftSemi = unordered LeftSemi
  hash_joined LeftAnti = unordered LeftAnti
  hash_joined RightSemi = by_right semi
  hash_joined RightAnti = by_right anti

-- one thing for each of several
each_of : {A B : Type 0} {J : A → B → Type 0} → ((p : A) → (out : B) × J p out) → (ps : List A) → (out : List B) × Each J ps out
each_of f [] = ([], each_nil)
each_of f (p ∷ ps) =
    let a = f p in
    let b = each_of f ps in
    (a.0 ∷ b.0, each_cons a.1 b.1)

-- a group's row, with nulls for its aggregate cells
grouping : (ks : List Key) (n : ℕ) (s : List Row) → (out : List Row) × Grouping ks n s out
grouping ks n s = each_of (λ x. (_, record { cells = nulls n; many = length-tab n (λ c. null); is = refl })) (begins ks s)

sorting : (p : Bool) (ks : List Key) (s : Streams) → (out : Streams) × Sorting p ks s out
sorting true ks s = (_, sorts ks s)
sorting false ks s = (
  _,
  record {
    one = sort ks (concat s);
    is = refl;
    that = record { same = sort_same ks (concat s); sorted = sort_sorted ks (concat s) };
  },
)

made_exists : (E : Env) (i j : ℕ) (o : Op) → fields_ok o ≡ true → (fs : List Facts) (css : List Streams) → (out : Streams) × Made E i j o fs css out
made_exists E i j (source s) ok fs css = (_, refl)
made_exists E i j filter ok fs css = (_, refl)
made_exists E i j (projection cols) ok fs css = (_, refl)
made_exists E i j union ok fs css = (_, refl)
made_exists E i j (repartition p n h ks) ok fs css =
    split_exists n (leb-true 1 n (search (and_left, and_right))) (at0 fs).order (keeps_order p (at0 fs)) (in0 css)
made_exists E i j (coalesce f) ok fs css = (_, record { one = merges [] (in0 css); is = refl; that = merges_mixes [] (in0 css) })
made_exists E i j (sort_op p ks f) ok fs css = sorting p ks (in0 css)
made_exists E i j (merge_op ks f) ok fs css =
    (_, record { one = merges ks (in0 css); is = refl; that = record { mixed = merges_mixes ks (in0 css); sorted = merges_sorted ks (in0 css) } })
made_exists E i j (global_limit s f note) ok fs css = (_, record { one = merges [] (in0 css); is = refl; that = merges_mixes [] (in0 css) })
made_exists E i j (local_limit f note) ok fs css = (_, refl)
made_exists E i j (sort_merge_join t on) ok fs css = each_of (λ p. smj_joined on (at0 fs).width (at1 fs).width p t) (like_numbered t (in0 css) (in1 css))
made_exists E i j (hash_join t on) ok fs css = each_of (λ p. hash_joined on (at0 fs).width (at1 fs).width p t) (map (with_all (concat (in0 css))) (in1 css))
made_exists E i j (output_requirement ks d f) ok fs css = (_, refl)
made_exists E i j (partial_sort p ks n f) ok fs css = sorting p ks (in0 css)
made_exists E i j (aggregate ks n) ok fs css = each_of (grouping ks n) (in0 css)

forest_runs : (E : Env) (i j : ℕ) (f : Plan) → nodes_ok f ≡ true → (out : Forest Streams) × Run E i j f out
forest_runs E i j none e = (none, run_none)
forest_runs E i j (tree o c r) e =
    let a = forest_runs E (next_s o i) (next_f o j) c (search (and_left, and_right)) in
    let b = forest_runs E (past next_s c (next_s o i)) (past next_f c (next_f o j)) r (search (and_left, and_right)) in
    let ok : fields_ok o ≡ true = search (and_left, and_right) in
    let m = made_exists E i j o ok (facts c) (roots a.0) in
    (tree (map (cut_rows (cuts o)) m.0) a.0 b.0, run_tree (record { raw = m.0; made = m.1; is = refl }) a.1 b.1)

pub run_exists : (E : Env) (f : Plan) → well_formed f ≡ true → (out : Forest Streams) × Run E 0 0 f out
run_exists E f e = forest_runs E 0 0 f (search (and_left, and_right))
