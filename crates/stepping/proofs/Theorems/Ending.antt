-- A state in which no row waits at any operator: nothing more comes, and `Ahead` holds with what waits at the roots. `ended`.
use Rattle.std.specs.Prelude.{◌≡◌, refl, Bool, true, false, cond, List, [], ◌∷◌, ◌++◌, map, ℕ, zero, suc, ◌+◌, length}
use Rattle.std.proofs.Common.{sym, ap, ap₂, ◌∙◌, subst, arith}
use Rattle.row_order.specs.Iso.{Row, Key}
use Rattle.row_order.specs.Lists.{sum, concat, Same, All, all_nil, all_cons, pw_nil, mix_nil, Mixes, mixes_nil, mixes_cons, tab}
use Rattle.row_order.specs.ListLaws.{all_head, all_tail, all_over, length-tab}
use Rattle.row_order.specs.RowLists.{Sorted}
use Rattle.plan.specs.Forest.{Forest, none, tree, roots}
use Rattle.plan.specs.Op.{Op, source, filter, projection, union, repartition, coalesce, sort_op, merge_op, global_limit, local_limit, sort_merge_join, hash_join, output_requirement, partial_sort, aggregate, Plan}
use Rattle.semantics.specs.Facts.{Facts, known_order, keeps_order, at0, facts_op, facts}
use Rattle.semantics.specs.Properties.{cuts}
use Rattle.semantics.specs.Joins.{keep}
use Rattle.semantics.specs.Runs.{Streams, Each, each_nil, each_cons, OneStream, Split, SortOf, Sorting, MergeOf, proj, in0, Made}
use Rattle.semantics.specs.Holds.{AsMany}
use Rattle.semantics.proofs.Theorems.Common.Streams.{all_tab}
use Rattle.semantics.proofs.Theorems.Runs.RunStreams.{made_many}
use Rattle.stepping.specs.Outlets.{Outlet, on, tally, by_stream, inputs}
use Rattle.stepping.specs.Stepping.{waits, root_streams}
use Rattle.stepping.specs.Coming.{joined, rest, Coming, Ahead, ahead_none, ahead_tree}
use Rattle.stepping.proofs.Theorems.Formed.{Formed, Steppable, steppable-none, steppable-tree, first_only}
use Rattle.stepping.proofs.Theorems.Closed.{nils}
use Rattle.stepping.proofs.Theorems.Beginning.{joined_empty}

-- No row waits at any operator
pub data Rested : Plan → Forest Outlet → Type 0 where
  rested_none : Rested none none
  rested_tree : {o : Op} {c r : Plan} {d : Outlet} {sc sr : Forest Outlet} → All (λ l. l ≡ []) (inputs (facts c) (roots sc)) → Rested c sc → Rested r sr →
      Rested (tree o c r) (tree d sc sr)

pub ends_roots : {f : Plan} {st : Forest Outlet} → Rested f st → roots (waits f st) ≡ root_streams (facts f) (roots st)
ends_roots rested_none = refl
ends_roots (rested_tree {o = o} {c = c} {d = d} h a b) =
    ap (λ (l : List Streams). by_stream (facts_op o (facts c)).streams d.waiting ∷ l) (ends_roots b)

ends_inputs : {f : Plan} {st : Forest Outlet} → Rested f st → concat (roots (waits f st)) ≡ inputs (facts f) (roots st)
ends_inputs rested_none = refl
ends_inputs (rested_tree {o = o} {c = c} {d = d} h a b) =
    ap (λ (l : Streams). by_stream (facts_op o (facts c)).streams d.waiting ++ l) (ends_inputs b)

ends_many : {f : Plan} {st : Forest Outlet} → Rested f st → Each AsMany (facts f) (roots (waits f st))
ends_many rested_none = each_nil
ends_many (rested_tree {o = o} {c = c} {d = d} h a b) = each_cons (length-tab (facts_op o (facts c)).streams (λ k. on k d.waiting)) (ends_many b)

ends_length : {f : Plan} {st : Forest Outlet} → Rested f st → length (roots (waits f st)) ≡ length (roots f)
ends_length rested_none = refl
ends_length (rested_tree h a b) = ap suc (ends_length b)

-- ---- nothing is made of empty streams
abbrev Empty : Streams → Type 0
Empty ss = All (λ l. l ≡ []) ss

concat-empty : {ss : Streams} → Empty ss → concat ss ≡ []
concat-empty all_nil = refl
concat-empty (all_cons e h) = ap₂ (λ (a b : List Row). a ++ b) e (concat-empty h)

mixes_empty : {ss : Streams} → Empty ss → Mixes ss []
mixes_empty all_nil = mixes_nil
mixes_empty (all_cons {x = l} {l = ss} e h) = subst (λ (m : List Row). Mixes (m ∷ ss) []) (sym e) (mixes_cons (mixes_empty h) mix_nil)

sorts_empty : (ks : List Key) {ss : Streams} → Empty ss → Each (SortOf ks) ss ss
sorts_empty ks all_nil = each_nil
sorts_empty ks (all_cons {x = l} {l = ss} e h) =
    each_cons (record { same = record { sums = λ w. refl }; sorted = subst (Sorted ks) (sym e) pw_nil }) (sorts_empty ks h)

-- A node's rule over empty streams makes empty ones
record Nothing (o : Op) (fs : List Facts) (css : List Streams) : Type 0 where
  raw : Streams
  made : Made rest 0 0 o fs css raw
  empty : Empty raw

one_empty : Empty ([] ∷ [])
one_empty = all_cons refl all_nil

nothing_made : (o : Op) (fs : List Facts) (css : List Streams) → Formed o (length css) → Empty (concat css) → Nothing o fs css
nothing_made o fs css n z = go o n
  where
    first : length css ≡ 1 → Empty (in0 css)
    first n = subst Empty (first_only css n) z

    gather : {P : List Row → Type 0} → P [] → OneStream P ([] ∷ [])
    gather p = record { one = []; is = refl; that = p }

    sorting : (p : Bool) (ks : List Key) → Empty (in0 css) → (raw : Streams) × Sorting p ks (in0 css) raw × Empty raw
    sorting true ks e = (in0 css, sorts_empty ks e, e)
    sorting false ks e =
        ([] ∷ [], gather (record { same = record { sums = λ w. sym (ap (sum w) (concat-empty e)) }; sorted = pw_nil }), one_empty)

    go : (o : Op) → Formed o (length css) → Nothing o fs css
    go (source s) n = record { raw = tab s.streams (λ k. []); made = refl; empty = all_tab s.streams (λ k. []) (λ k. refl) }
    go filter n = record { raw = map (keep (λ r. true)) (in0 css); made = refl; empty = all_over (keep (λ r. true)) (λ l e. ap (keep (λ r. true)) e) (first n) }
    go (projection cols) n = record { raw = map (map (proj cols)) (in0 css); made = refl; empty = all_over (map (proj cols)) (λ l e. ap (map (proj cols)) e) (first n) }
    go union n = record { raw = concat css; made = refl; empty = z }
    go (repartition p m h ks) n =
        record {
          raw = tab m (λ k. []);
          made = record {
            count = length-tab m (λ k. []);
            same = record { sums = λ w. ap (sum w) (nils m) ∙ sym (ap (sum w) (concat-empty (first n.0))) };
            sorted = λ e o. all_tab m (λ k. []) (λ k. pw_nil);
          };
          empty = all_tab m (λ k. []) (λ k. refl);
        }
    go (coalesce f) n = record { raw = [] ∷ []; made = gather (mixes_empty (first n)); empty = one_empty }
    go (sort_op p ks f) n = let s = sorting p ks (first n) in record { raw = s.0; made = s.1; empty = s.2 }
    go (merge_op ks f) n = record { raw = [] ∷ []; made = gather (record { mixed = mixes_empty (first n); sorted = λ o. pw_nil }); empty = one_empty }
    go (global_limit s f note) n = record { raw = [] ∷ []; made = gather (mixes_empty (first n)); empty = one_empty }
    go (local_limit f note) n = record { raw = in0 css; made = refl; empty = first n }
    go (sort_merge_join t keys) n = absurd n
    go (hash_join t keys) n = absurd n
    go (output_requirement ks d f) n = record { raw = in0 css; made = refl; empty = first n }
    go (partial_sort p ks m f) n = let s = sorting p ks (first n) in record { raw = s.0; made = s.1; empty = s.2 }
    go (aggregate ks m) n = absurd n

pub ended : {f : Plan} {st : Forest Outlet} → Steppable f → Rested f st → Ahead f st (waits f st)
ended s rested_none = ahead_none
ended (steppable-tree n s t) (rested_tree {o = o} {c = c} {d = d} {sc = sc} h a b) =
    let m = nothing_made o (facts c) (roots (waits c sc)) (subst (Formed o) (sym (ends_length a)) n) (subst Empty (sym (ends_inputs a)) h) in
    let q : length m.raw ≡ (facts_op o (facts c)).streams = made_many rest 0 0 o (facts c) (roots (waits c sc)) m.raw (ends_many a) m.made in
    ahead_tree
    (record {
      raw = m.raw;
      made = m.made;
      many = q;
      is = sym (joined_empty (cuts o) (λ k. on k d.waiting) (λ k. tally k d.came) (facts_op o (facts c)).streams m.raw q m.empty);
    }) (ended s a) (ended t b)
