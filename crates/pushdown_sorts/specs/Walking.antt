-- The walk: a step, the children from left to right, and the decision carried out. Assumes nothing.
use Rattle.std.specs.Prelude.{◌≡◌, refl, Bool, true, false, cond, ◌&&◌, List, [], ◌∷◌, ℕ, zero, suc, ◌+◌, ◌*◌, ◌≤◌, ◌<◌, length, get_or, take, set, Option, None, Result, Ok, Err}
use Rattle.std.proofs.Common.{sym, ap, ap₂, ◌∙◌, subst, arith, length-append, length-take-le}
use Rattle.std.proofs.Math.Path.{subst⁻¹}
use Rattle.row_order.specs.Iso.{Key}
use Rattle.plan.specs.Forest.{Forest, none, tree, size, roots}
use Rattle.plan.specs.Op.{Op, Plan}
use Rattle.plan.specs.declared.Refusal.{Refusal}
use Rattle.plan.specs.declared.Refusal.TheVariants.{TooManyNodes, ConstantSort}
use Rattle.plan_format.specs.Record.{children}
use Rattle.plan_codec.specs.Decode.{decode}
use Rattle.semantics.specs.Facts.{facts, facts_op, is_nil, known_order}
use Rattle.semantics.specs.Properties.{fetches}
use Rattle.key_lists.specs.Keys.{order_of, Real}
use Rattle.asked_facts.specs.Asked.{told}
use Rattle.arena.specs.Arena.{index, slot, kept_part}
use Rattle.arena.specs.Laws.{below_at}
use Rattle.arena.specs.declared.At.{At}
use Rattle.walks.specs.Marks.{Marked, Tree, strip, known, fact, fetch_t, size_t, node, plant, kid0, rebuild, cover}
use Rattle.walks.specs.Utils.{is_sort, new_merge, new_sort}
use Rattle.walks.specs.Trees.{OkT}
use Rattle.walks.proofs.Theorems.Common.Trees.{ok_fit, strip-size}
use Rattle.walks.specs.PushdownSorts as walk
use Rattle.walks.proofs.Theorems.Push.WellFormed.{VisitFits, EachFits, helper_fitted, push_ok}
use Rattle.walks.proofs.Theorems.Common.Keys.{no_keys}
use Rattle.walks.specs.Counted.{answered, answer_of, stopped, counted, bind, constant_sort, overflows, afterwards, count_down}
use Rattle.walks.proofs.Theorems.Calls.Counts.{one_le, one_visited, cover-size}
use Rattle.plan_context.specs.View.{tree_in, tree_of, forest, Grown}
use Rattle.plan_context.specs.Laws.{facts_at, length_facts, same_trans}
use Rattle.plan_context.specs.Records.{plan_t}
use Rattle.plan_context.specs.Summaries.{drop-size}
use Rattle.sort_pushdown.specs.declared.Visit.{Visit}
use Rattle.sort_pushdown.specs.declared.Decision.{Decision}
use Rattle.sort_pushdown.specs.declared.NewNodes.{NewNodes}
use Rattle.sort_pushdown.specs.Decisions.{Decides, visit_of, visit_for, tops_of, of_child}
use Rattle.push_steps.specs.Steps.{step_by, after_by}
use Rattle.push_steps.specs.Visits.{children_visited, after_is, constant_is, over_is}
use Rattle.pushdown_sorts.specs.declared.Walked.{Walked}
use Rattle.pushdown_sorts.specs.Walk.{Rooted, AnswersPush, counted_t, pushed_t, Pushes, Ended, Ends, from, Visiting}
use Rattle.push_visits.specs.Carried.{carried_by, below_by, op_by, Carries}
use Rattle.push_visits.specs.Carrying.{below_size}
use Rattle.push_visits.specs.Visiting.{roots_long, shown, own_tells}
use Rattle.pushdown_sorts.specs.Children.{count_tree_lem, fetches_at, pushed_below, split, step_on, step_stop, visiting_end, visiting_more, visiting_none, visiting_pure, visiting_sizes, visiting_stop}

-- ---- one node, in the slot

merge_few : (ks : List Key) (f : Option ℕ) → length (new_merge ks f) ≤ 1
merge_few [] f = omega arith
merge_few (k ∷ ks) f = omega arith

sort_few : (p : Bool) (ks : List Key) (f : Option ℕ) → length (new_sort p ks f) ≤ 1
sort_few p [] f = omega arith
sort_few p (k ∷ ks) f = omega arith

tops_few : (t : NewNodes) → length (tops_of t) ≤ 2
tops_few t =
    let x = merge_few (order_of t.merge) t.mfetch in let y = sort_few t.preserve (order_of t.sort) t.sfetch in
    let z = length-append (new_merge (order_of t.merge) t.mfetch) (new_sort t.preserve (order_of t.sort) t.sfetch) in omega arith

roots-strip : (f : Forest Marked) → length (known f) ≡ length (roots f)
roots-strip none = refl
roots-strip (tree m c r) = ap suc (roots-strip r)

module _ (a : List ℕ) (ua h : ℕ) (b : List ℕ) (v : ℕ) (visit : Visit) (n : ℕ) (p : Pushes a ua h b v visit n) where
  abbrev i : ℕ
  i = index h

  abbrev q : walk.Visit
  q = visit_of visit

  abbrev o : Op
  o = decode (slot a (index h)).rec

  abbrev ks : List ℕ
  ks = (slot a (index h)).kids

  abbrev c : Plan
  c = strip (forest a (slot a (index h)).kids)

  abbrev N : Tree
  N = node (decode (slot a (index h)).rec) false (forest a (slot a (index h)).kids)

  abbrev D : walk.Decision
  D = walk.pushdown_sorts_helper (visit_of visit) (decode (slot a (index h)).rec) (strip (forest a (slot a (index h)).kids))

  pub low_i : index h < ua
  low_i = let z = p.visits.here in omega arith

  see : tree_in a (index h) ≡ N
  see = (shown a ua i p.visits.from low_i).tree

  size_is : size_t (tree_of a h) ≡ suc (size (forest a (slot a (index h)).kids))
  size_is = ap size_t see

  pub back : (r : Result Walked Refusal) (b' : List ℕ) → Ends (visit_of visit) n (node (decode (slot a (index h)).rec) false (forest a (slot a (index h)).kids)) b v b' r
      → Ends (visit_of visit) n (tree_in a (index h)) b v b' r
  back r b' e = subst⁻¹ (λ t. Ends (visit_of visit) n t b v b' r) see e

  fits : VisitFits (facts_op o (facts c)).width q
  fits = subst (λ t. VisitFits (fact t).width q) see p.visits.fits

  ok : OkT N
  ok = (shown a ua i p.visits.from low_i).ok

  each : EachFits D.reqs (facts c)
  each = (helper_fitted q c ok.1 o ok.0 fits).reqs

  pushed_ok : OkT (walk.carry_out D (walk.pushdown_sorts D.reqs c))
  pushed_ok = let x = push_ok (λ i. q) (tree o c none) one_fits (ok.0, ok.1, tt) in (x.0, x.1)
    where
      one_fits : EachFits (λ i. q) (facts (tree o c none))
      one_fits zero l = fits
      one_fits (suc i) l = absurd (omega arith)

  -- ---- the decision, and its step
  module _ (d : Decision) (dec : Decides (decode (slot a (index h)).rec) (strip (forest a (slot a (index h)).kids))
      (walk.pushdown_sorts_helper (visit_of visit) (decode (slot a (index h)).rec) (strip (forest a (slot a (index h)).kids))) d) where
    abbrev Q : ℕ → walk.Visit
    Q = visit_for d (fetches (strip (forest a (slot a (index h)).kids)))

    module _ (rec own : List ℕ) (er : rec ≡ (slot a (index h)).rec) (eo : own ≡ kept_part a (index h)) (s : Result ℕ Refusal)
        (es : s ≡ step_by (is_sort (decode rec) && is_nil (known_order (told own))) d.quiet d.peak (after_by d n)) where
      own_is : told own ≡ facts_op o (facts c)
      own_is = (own_tells a ua i p.visits.from low_i own eo).1

      step_is : s ≡ cond (constant_sort o c) (Err ConstantSort) (cond (overflows D n) (Err TooManyNodes) (Ok (after_by d n)))
      step_is = es ∙ ap (λ x. step_by (is_sort (decode x) && is_nil (known_order (told own))) d.quiet d.peak (after_by d n)) er
          ∙ ap₂ (λ x y. cond x (Err ConstantSort) (cond y (Err TooManyNodes) (Ok (after_by d n))))
          (constant_is o q c (told own) d dec own_is) (over_is o q c (told own) d dec own_is n)

      stops : (e : Refusal) → s ≡ Err e → counted_t (visit_of visit) n
          (node (decode (slot a (index h)).rec) false (forest a (slot a (index h)).kids)) ≡ stopped e
      stops e f = step_stop (constant_sort o c) (overflows D n) (after_by d n) s step_is e f
          (bind (count_down D.reqs (afterwards D n) c) (λ x m. counted (walk.carry_out D x) m))

      pub step_ends : (e : Refusal) → s ≡ Err e → (b' : List ℕ) → Ends (visit_of visit) n (tree_in a (index h)) b v b' (Err e)
      step_ends e f b' = back (Err e) b' (stops e f)

      pub goes_on : (m : ℕ) → s ≡ Ok m
          → (counted_t (visit_of visit) n (node (decode (slot a (index h)).rec) false (forest a (slot a (index h)).kids)) ≡ bind
          (count_down (visit_for d (fetches (strip (forest a (slot a (index h)).kids)))) m (strip (forest a (slot a (index h)).kids)))
          (λ x l. counted (walk.carry_out (walk.pushdown_sorts_helper (visit_of visit) (decode (slot a (index h)).rec)
          (strip (forest a (slot a (index h)).kids))) x) l)) × (m ≡ after_by d n)
      goes_on m f =
          let x = step_on (constant_sort o c) (overflows D n) (after_by d n) s step_is m f
          (bind (count_down D.reqs (afterwards D n) c) (λ x m. counted (walk.carry_out D x) m)) in (
            x.0
                ∙ ap (λ z. bind z (λ x l. counted (walk.carry_out D x) l))
                (ap (λ k. count_down D.reqs k c) (sym (after_is o q c (told own) d dec own_is n) ∙ sym x.1)
                ∙ sym (children_visited q o c d m dec)),
            x.1,
          )

    -- ---- the walk below
    module _ (m₀ : ℕ) (em : m₀ ≡ after_by d n)
        (is : counted_t (visit_of visit) n (node (decode (slot a (index h)).rec) false (forest a (slot a (index h)).kids)) ≡ bind
        (count_down (visit_for d (fetches (strip (forest a (slot a (index h)).kids)))) m₀ (strip (forest a (slot a (index h)).kids)))
        (λ x l. counted (walk.carry_out (walk.pushdown_sorts_helper (visit_of visit) (decode (slot a (index h)).rec)
        (strip (forest a (slot a (index h)).kids))) x) l)) where
      after_low : n ≤ m₀ + 1
      after_low = let z = one_le d.gone in omega arith

      after_high : m₀ ≤ n + 2
      after_high = let z = tops_few d.tops in omega arith

      pub start : (kids : List ℕ) → length kids ≡ 8 → Visiting a (slot a (index h)).kids (visit_for d (fetches (strip (forest a (slot a (index h)).kids))))
          m₀ b v 0 v m₀ kids b
      start kids l = visiting_none a ks Q m₀ b v kids p.arena l

      module _ (j w m : ℕ) (kids b₁ : List ℕ) (z : Visiting a (slot a (index h)).kids (visit_for d (fetches (strip (forest a (slot a (index h)).kids)))) m₀
          b v j w m kids b₁) (l : j < length (slot a (index h)).kids) where
        abbrev k : ℕ
        k = get_or (slot a (index h)).kids j 0

        stopped_child : (e : Refusal) → counted_t (Q j) m (tree_in a (index k)) ≡ stopped e → counted_t q n N ≡ stopped e
        stopped_child e f = is ∙ ap (λ x. bind x (λ x l. counted (walk.carry_out D x) l)) (visiting_stop a ks Q m₀ b v j w m kids b₁ z l e f)

        module _ (below : Visit) (f : Option ℕ) (ef : f ≡ fetch_t (tree_of a (get_or (slot a (index h)).kids j 0)))
            (ev : (ts : List (Option ℕ)) → f ≡ get_or ts j None → visit_of below ≡ visit_for d ts j) (eo : below.req.order ≡ (of_child d.reqs j).order) where
          visit_is : visit_of below ≡ Q j
          visit_is = ev (fetches c) (ef ∙ sym (fetches_at a ks j l))

          real : Real below.req.order
          real = subst⁻¹ Real eo (go j)
            where
              go : (i : ℕ) → Real (of_child d.reqs i).order
              go zero = dec.first
              go (suc i) = dec.rest

          child_fits : VisitFits (fact (tree_of a k)).width (visit_of below)
          child_fits =
              let y = length_facts a ks in let u = roots_long c in
              subst⁻¹ (λ x. VisitFits (fact (tree_of a k)).width x) (visit_is ∙ dec.reqs j (omega arith))
              (subst (λ F. VisitFits F.width (D.reqs j)) (facts_at a ks j l) (each j (omega arith)))

          pub child_pushes : (size_t (tree_of a (get_or (slot a (index h)).kids j 0)) < size_t (tree_of a h))
              × Pushes a ua (get_or (slot a (index h)).kids j 0) b₁ w below m
          child_pushes =
              let sz = ap size (split a ks Q m₀ b v j w m kids b₁ z l) in let s = size_is in let z₁ = z.left in let z₂ = z.low in let z₃ = z.high in
              let lb = z.made.long in
              let r = p.room in let sm = p.small in let lo = p.low in let hi = p.high in let al = after_low in let ah = after_high in
              let tot = drop-size a ks j in
              let bl = below_at (2 * i) ks j (shown a ua i p.visits.from low_i).below l in let he = p.visits.here in (
                omega arith,
                record {
                  visits = record { from = p.visits.from; here = omega arith; real = real; fits = child_fits };
                  arena = z.made.arena;
                  room = omega arith;
                  small = omega arith;
                  low = omega arith;
                  high = omega arith;
                },
              )

          module _ (b₂ : List ℕ) (lb : length b₂ ≡ length b₁) (r : Result Walked Refusal)
              (en : Ends (visit_of below) m (tree_in a (index (get_or (slot a (index h)).kids j 0))) b₁ w b₂ r) where
            pub child_more : (x : Walked) → r ≡ Ok x → Visiting a (slot a (index h)).kids
                (visit_for d (fetches (strip (forest a (slot a (index h)).kids)))) m₀ b v (j + 1) x.used x.count (set kids j x.root) b₂
            child_more x e =
                visiting_more a ks Q m₀ b v j w m kids b₁ z l (shown a ua i p.visits.from low_i).few b₂ lb x
                (subst (λ y. Ended y m (tree_in a (index k)) b₁ w b₂ x) visit_is
                (subst (λ y. Ends (visit_of below) m (tree_in a (index k)) b₁ w b₂ y) e en))

            pub child_stop : (e : Refusal) → r ≡ Err e → Ends (visit_of visit) n (tree_in a (index h)) b v b₂ (Err e)
            child_stop e f =
                back (Err e) b₂
                (stopped_child e (ap (λ y. counted_t y m (tree_in a (index k))) (sym visit_is)
                ∙ subst (λ y. Ends (visit_of below) m (tree_in a (index k)) b₁ w b₂ y) f en))

      -- ---- all children are walked
      module _ (j w m : ℕ) (kids b₁ : List ℕ) (z : Visiting a (slot a (index h)).kids (visit_for d (fetches (strip (forest a (slot a (index h)).kids)))) m₀
          b v j w m kids b₁) (e : ℕ) (ej : e ≡ j) (ek : e ≡ children (slot a (index h)).rec) where
        long : length (slot a (index h)).kids ≤ j
        long = let x = (shown a ua i p.visits.from low_i).count in omega arith

        abbrev f : Forest Marked
        f = forest b₁ (take j kids)

        pure_is : forest b₁ (take j kids) ≡ walk.pushdown_sorts D.reqs c
        pure_is = visiting_pure a ks Q m₀ b v j w m kids b₁ z long ∙ pushed_below Q D.reqs c dec.reqs

        carried_is : carried_by a (index h) d (forest b₁ (take j kids)) ≡ pushed_t q N
        carried_is =
            ap₂ (λ (ts : List Op) (t : Tree). cover ts t) dec.tops.is (ap₂ (λ (g : Bool) (x : Op). cond g (kid0 (node x false f) f) (rebuild x false f))
            dec.gone dec.op) ∙ ap (walk.carry_out D) pure_is

        taken : length (take j kids) ≡ length ks
        taken = let x = (shown a ua i p.visits.from low_i).count in let y = (shown a ua i p.visits.from low_i).few in let u = z.made.wide in
            length-take-le j kids (omega arith) ∙ (let w : j ≡ length ks = omega arith in w)

        sizes : (w ≤ v + 3 * size (forest a ks)) × (m₀ ≤ m + size (forest a ks)) × (m ≤ m₀ + 2 * size (forest a ks))
            × (size (forest b₁ (take j kids)) ≤ 3 * size (forest a ks))
        sizes = visiting_sizes a ks Q m₀ b v j w m kids b₁ z long

        first : d.gone ≡ true → 0 < length (take j kids)
        first t =
            let fit = ok_fit (tree o c none) (ok.0, ok.1, tt) in
            let x = one_visited q o c fit.0 fit.1 (sym dec.gone ∙ t) in
            let y = ap (λ g. length (roots g)) pure_is in let u = roots-strip (forest b₁ (take j kids)) in let r = length_facts b₁ (take j kids) in
            omega arith

        pub all_carries : Carries a ua (index h) b₁ w d (take e kids)
        all_carries =
            subst⁻¹ (λ y. Carries a ua (index h) b₁ w d (take y kids)) ej
            (let s = size_is in let x = sizes in let x₀ = x.0 in let x₃ = x.3 in let r = p.room in let sm = p.small in let lo = p.low in
            let hi = p.high in let lb = z.made.long in
            record {
              from = p.visits.from;
              low = low_i;
              arena = z.made.arena;
              room = omega arith;
              small = omega arith;
              below = z.made.below;
              count = taken;
              some = first;
              ok = subst⁻¹ OkT carried_is pushed_ok;
              few = omega arith;
              merge = dec.tops.merge;
              sort = dec.tops.sort;
            })

        pub all_ends : (b₂ : List ℕ) (x : At) → Grown b₁ w b₂ x (carried_by a (index h) d (forest b₁ (take e kids))) (w + 3)
            → Ends (visit_of visit) n (tree_in a (index h)) b v b₂ (Ok (record { used = x.used; root = x.root; count = m }))
        all_ends b₂ x g =
            let g₁ : Grown b₁ w b₂ x (pushed_t q N) (w + 3) = subst (λ t. Grown b₁ w b₂ x t (w + 3))
            (ap (λ y. carried_by a (index h) d (forest b₁ (take y kids))) ej ∙ carried_is) g in
            let y = sizes in let y₀ = y.0 in let y₁ = y.1 in let y₂ = y.2 in let y₃ = y.3 in let al = after_low in let ah = after_high in
            let mr = z.made.more in let gm = g₁.more in let gr = g₁.room in
            let cs = cover-size (tops_of d.tops) (below_by a (index h) d f) in let bs = below_size d.gone (op_by a (index h) d.rebuilt) f in
            let tf = tops_few d.tops in let ci = ap size_t carried_is in
            back (Ok (record { used = x.used; root = x.root; count = m })) b₂
            (record {
              is = is ∙ ap (λ y. bind y (λ x l. counted (walk.carry_out D x) l)) (visiting_end a ks Q m₀ b v j w m kids b₁ z long)
                  ∙ ap (λ y. counted (walk.carry_out D y) m) pure_is;
              grown = record {
                arena = g₁.arena;
                old = same_trans v w b b₁ b₂ mr z.made.old g₁.old;
                more = omega arith;
                here = g₁.here;
                tree = g₁.tree;
                room = omega arith;
              };
              few = omega arith;
              low = omega arith;
              high = omega arith;
            })

-- ---- a whole plan
module _ (a : List ℕ) (ua h : ℕ) (b : List ℕ) (p : Rooted a ua h b) (visit : Visit) (ev : visit_of visit ≡ walk.at_root) (n : ℕ)
    (en : n ≡ size_t (tree_of a h)) where
  pub root_pushes : Real visit.req.order → Pushes a ua h b 0 visit n
  root_pushes r =
      let x = p.few in let y = p.room in
      record {
        visits = record {
          from = p.arena;
          here = p.here;
          real = r;
          fits = subst⁻¹ (VisitFits (fact (tree_of a h)).width) ev
              (record { keys = no_keys; fetch = refl });
        };
        arena = record { slots = omega arith; small = omega arith; all = λ i l. absurd (omega arith) };
        room = omega arith;
        small = omega arith;
        low = omega arith;
        high = omega arith;
      }

  counted_is : count_down (λ i. walk.at_root) (size (plan_t (tree_of a h))) (plan_t (tree_of a h)) ≡ bind (counted_t (visit_of visit) n (tree_in a (index h)))
      (λ u m. counted (plant u none) m)
  counted_is =
      let e : size (plan_t (tree_of a h)) ≡ n = (let z = strip-size (tree_in a (index h)).kids in omega arith) in
      ap (λ m. count_down (λ i. walk.at_root) m (plan_t (tree_of a h))) e
      ∙ count_tree_lem (λ i. walk.at_root) n (tree_in a (index h)) none
      ∙ ap (λ q. bind (counted_t q n (tree_in a (index h))) (λ u m. counted (plant u none) m)) (sym ev)

  pub root_ends : (b' : List ℕ) (r : Result Walked Refusal) → Ends (visit_of visit) n (tree_in a (index h)) b 0 b' r → AnswersPush (plan_t (tree_of a h)) b' r
  root_ends b' (Err e) x = ap answer_of (counted_is ∙ ap (λ y. bind y (λ u m. counted (plant u none) m)) x)
  root_ends b' (Ok w) x =
      let z = strip-size (tree_in a (index h)).kids in let g = x.grown.room in
      record {
        is = ap answer_of (counted_is ∙ ap (λ y. bind y (λ u m. counted (plant u none) m)) x.is) ∙ ap (λ t. answered (plan_t t)) (sym x.grown.tree);
        arena = x.grown.arena;
        here = x.grown.here;
        room = omega arith;
      }
