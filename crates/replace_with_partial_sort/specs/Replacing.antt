-- Partial sorting of one node, as the code asks.
use Rattle.std.specs.Prelude.{◌≡◌, refl, Bool, true, false, cond, ◌||◌, List, [], ◌∷◌, ◌++◌, ℕ, zero, suc, ◌≤◌, ◌<◌, eqb, length, get_or, take, Option, Some, None}
use Rattle.std.proofs.Common.{sym, ap, ap₂, ◌∙◌, append_assoc, arith}
use Rattle.row_order.specs.Iso.{Key}
use Rattle.plan.specs.Op.{Op, source, filter, projection, union, repartition, coalesce, sort_op, merge_op, global_limit, local_limit, sort_merge_join, hash_join, output_requirement, partial_sort, aggregate, Plan}
use Rattle.plan.specs.Numbers.{code}
use Rattle.plan_codec.specs.NodeRecord.{NodeRecord}
use Rattle.plan_codec.specs.Decode.{from_bytes, decode}
use Rattle.semantics.specs.Facts.{Facts, met, at0}
use Rattle.semantics.specs.Properties.{any_of, endless, endless_op}
use Rattle.key_lists.specs.Keys.{keys_of, Keyed}
use Rattle.key_lists.specs.Lists.{length_keys}
use Rattle.key_lists.specs.declared.Keys.{Keys}
use Rattle.asked_facts.specs.Asked.{told, MetKeys}
use Rattle.arena.specs.Arena.{index, slot}
use Rattle.walks.specs.Marks.{Tree, strip, known, op_t, fact}
use Rattle.walks.specs.PartialSort.{common_prefix_length, partial_of, replace_with_partial_sort}
use Rattle.plan_context.specs.View.{tree_of, forest, Sums}
use Rattle.plan_context.specs.Laws.{facts_at}
use Rattle.plan_context.specs.Facts.{Tells}
use Rattle.tree_summary.specs.declared.Summary.{Summary}
use Rattle.sort_connection.specs.Standing.{Standing, tree_is, op_is, own_over, own_proper, sort_op_lem, one_kid_lem, is_code, not_code}
use Rattle.scan.specs.Below.{or_false}

-- A sort with n keys met, as a partial sort
abbrev pub partial : ℕ → Op → Op
partial n (source s) = source s
partial n filter = filter
partial n (projection cols) = projection cols
partial n union = union
partial n (repartition p k h ks) = repartition p k h ks
partial n (coalesce f) = coalesce f
partial n (sort_op p ks f) = partial_sort p ks n f
partial n (merge_op ks f) = merge_op ks f
partial n (global_limit s f note) = global_limit s f note
partial n (local_limit f note) = local_limit f note
partial n (sort_merge_join t on) = sort_merge_join t on
partial n (hash_join t on) = hash_join t on
partial n (output_requirement ks d f) = output_requirement ks d f
partial n (partial_sort p ks k f) = partial_sort p ks k f
partial n (aggregate ks k) = aggregate ks k

-- What the code's answer stands for, at a node o
abbrev pub becoming : Op → Option ℕ → Op
becoming o None = o
becoming o (Some n) = partial n o

-- A partial sort comes in a sort's place, with eight keys met at most
abbrev pub Fitting : Op → Option ℕ → Type 0
Fitting o None = Unit {0}
Fitting o (Some n) = (n ≤ 8) × (code o ≡ 7)

-- ---- how many keys are met

common : (F : Facts) (done ks : List Key) (r : ℕ) → r ≤ length ks → ((i : ℕ) → i < r → met F (done ++ take (suc i) ks) ≡ true)
    → (r < length ks → met F (done ++ take (suc r) ks) ≡ false) → common_prefix_length F done ks ≡ r
common F done [] r l f s = omega arith
common F done (k ∷ ks) zero l f s = ap (λ b. cond b (suc (common_prefix_length F (done ++ (k ∷ [])) ks)) 0) (s (omega arith))
common F done (k ∷ ks) (suc r) l f s =
    ap (λ b. cond b (suc (common_prefix_length F (done ++ (k ∷ [])) ks)) 0) (f 0 (omega arith))
    ∙ ap suc (common F (done ++ (k ∷ [])) ks r (omega arith)
    (λ i j. ap (met F) (append_assoc done (k ∷ []) (take (suc i) ks)) ∙ f (suc i) (omega arith))
    (λ j. ap (met F) (append_assoc done (k ∷ []) (take (suc r) ks)) ∙ s (omega arith)))

met-common : (F : Facts) (ks : List Key) (r : ℕ) → MetKeys F ks r → common_prefix_length F [] ks ≡ r
met-common F ks r m = common F [] ks r m.few m.front m.stop

other_same : (o : Op) (c : Plan) → (code o ≡ 7 → ⊥) → replace_with_partial_sort o c ≡ o
other_same (source s) c f = refl
other_same filter c f = refl
other_same (projection cols) c f = refl
other_same union c f = refl
other_same (repartition p k h ks) c f = refl
other_same (coalesce g) c f = refl
other_same (sort_op p ks g) c f = absurd (f refl)
other_same (merge_op ks g) c f = refl
other_same (global_limit s g note) c f = refl
other_same (local_limit g note) c f = refl
other_same (sort_merge_join t on) c f = refl
other_same (hash_join t on) c f = refl
other_same (output_requirement ks d g) c f = refl
other_same (partial_sort p ks k g) c f = refl
other_same (aggregate ks k) c f = refl

-- the only child is unbounded, or not
only-endless : (m ks : List ℕ) → length ks ≡ 1 → any_of (endless (strip (forest m ks))) ≡ endless_op (op_t (tree_of m (get_or ks 0 0)))
    (endless (strip (tree_of m (get_or ks 0 0)).kids))
unfolding forest
only-endless m [] e = absurd (omega arith)
only-endless m (k ∷ []) e = or_false (endless_op (op_t (tree_of m k)) (endless (strip (tree_of m k).kids)))
only-endless m (k ∷ l ∷ ks) e = absurd (omega arith)

module _ (m : List ℕ) (u h : ℕ) (a : Standing m u h) (r : List ℕ) (hr : r ≡ (slot m (index h)).rec) (x : Bool) (hx : x ≡ eqb (code (decode r)) 7) where
  abbrev t : Tree
  t = tree_of m h

  pub not_sort : x ≡ false → replace_with_partial_sort (op_t (tree_of m h)) (strip (tree_of m h).kids) ≡ op_t (tree_of m h)
  not_sort e = other_same (op_t t) (strip t.kids) (λ c. not_code (decode r) 7 x hx e (ap code (op_is m u h a r hr) ∙ c))

  module _ (e : x ≡ true) where
    abbrev y : NodeRecord
    y = from_bytes r

    sorts_here : decode (slot m (index h)).rec ≡ sort_op (from_bytes (slot m (index h)).rec).preserve (from_bytes (slot m (index h)).rec).keys
        (from_bytes (slot m (index h)).rec).fetch
    sorts_here = sort_op_lem (slot m (index h)).rec (own_proper m u h a (slot m (index h)).rec refl)
        (ap (λ z. code (decode z)) (sym hr) ∙ is_code (decode r) 7 x hx e)

    sorts : op_t (tree_of m h) ≡ sort_op (from_bytes r).preserve (from_bytes r).keys (from_bytes r).fetch
    sorts = sym (op_is m u h a r hr) ∙ ap decode hr ∙ sorts_here ∙ ap (λ z. sort_op (from_bytes z).preserve (from_bytes z).keys (from_bytes z).fetch)
        (sym hr)

    only : length (slot m (index h)).kids ≡ 1
    only = one_kid_lem m (slot m (index h)).rec (slot m (index h)).kids (own_over m u h a) _ sorts_here (λ n. refl)

    pub sort_some : 0 < length (slot m (index h)).kids
    sort_some = let l = only in omega arith

    module _ (k : ℕ) (hk : k ≡ get_or (slot m (index h)).kids 0 0) (s : Summary) (hs : Sums (tree_of m k) s) where
      endless_is : any_of (endless (strip (tree_of m h).kids)) ≡ s.endless
      endless_is =
          ap (λ z. any_of (endless (strip z.kids))) (tree_is m u h a) ∙ only-endless m (slot m (index h)).kids only
          ∙ ap (λ i. endless_op (op_t (tree_of m i)) (endless (strip (tree_of m i).kids))) (sym hk) ∙ sym hs.endless

      -- what it becomes, by the keys met
      abbrev P : ℕ → Op
      P n = partial_of y.preserve y.keys y.fetch n

      by_endless : replace_with_partial_sort (op_t (tree_of m h)) (strip (tree_of m h).kids) ≡ cond s.endless
          (partial_of (from_bytes r).preserve (from_bytes r).keys (from_bytes r).fetch
          (common_prefix_length (at0 (known (tree_of m h).kids)) [] (from_bytes r).keys)) (op_t (tree_of m h))
      by_endless =
          ap (λ o. replace_with_partial_sort o (strip t.kids)) sorts
          ∙ ap₂ (λ b o. cond b (P (common_prefix_length (at0 (known t.kids)) [] y.keys)) o) endless_is (sym sorts)

      pub bounded : s.endless ≡ false → replace_with_partial_sort (op_t (tree_of m h)) (strip (tree_of m h).kids) ≡ op_t (tree_of m h)
      bounded z = by_endless ∙ ap (λ b. cond b (P (common_prefix_length (at0 (known t.kids)) [] y.keys)) (op_t t)) z

      module _ (z : s.endless ≡ true) (row : List ℕ) (sh : Tells (tree_of m k) row) (ks : Keys) (hks : Keyed (from_bytes r).keys ks) (n : ℕ)
          (hn : MetKeys (told row) (keys_of ks) n) where
        first : told row ≡ at0 (known (tree_of m h).kids)
        first = sh.is ∙ ap (λ i. fact (tree_of m i)) hk ∙ sym (facts_at m (slot m (index h)).kids 0 sort_some) ∙ ap (λ v. at0 (known v.kids))
            (sym (tree_is m u h a))

        met_is : common_prefix_length (at0 (known (tree_of m h).kids)) [] (from_bytes r).keys ≡ n
        met_is = ap₂ (λ F l. common_prefix_length F [] l) (sym first) (sym hks.is) ∙ met-common (told row) (keys_of ks) n hn

        by_keys : replace_with_partial_sort (op_t (tree_of m h)) (strip (tree_of m h).kids) ≡ cond (eqb n 0 || eqb n ks.len) (op_t (tree_of m h))
            (partial n (op_t (tree_of m h)))
        by_keys =
            by_endless ∙ ap₂ (λ b i. cond b (P i) (op_t t)) z met_is
            ∙ ap₂ (λ l o. cond (eqb n 0 || eqb n l) o (partial n o)) (ap length (sym hks.is) ∙ length_keys ks.len ks.word) (sym sorts)

        -- none of the keys is met, or all are
        pub stays : (eqb n 0 || eqb n ks.len) ≡ true → replace_with_partial_sort (op_t (tree_of m h)) (strip (tree_of m h).kids) ≡ op_t (tree_of m h)
        stays q = by_keys ∙ ap (λ b. cond b (op_t t) (partial n (op_t t))) q

        -- some of them are
        pub some_met : (eqb n 0 || eqb n ks.len) ≡ false
            → (replace_with_partial_sort (op_t (tree_of m h)) (strip (tree_of m h).kids) ≡ partial n (op_t (tree_of m h))) × Fitting (op_t (tree_of m h)) (Some n)
        some_met q =
            let l = length_keys ks.len ks.word in let f = hn.few in let g = hks.few in
            (by_keys ∙ ap (λ b. cond b (op_t t) (partial n (op_t t))) q, (omega arith, ap code sorts))
