-- Pushing asks handle_aggregate_pushdown only where the aggregate does not meet the required order, and there it declines: if its child met the
-- list in its columns, the aggregate would meet the list (`declines`). So what pushing decides at an aggregate is to put a sort above it, with a
-- merge where one stream is required (`sort_above_lem`).
use Rattle.std.specs.Prelude.{◌≡◌, refl, Bool, true, false, cond, ◌&&◌, ◌||◌, List, [], ◌∷◌, map, ℕ, zero, suc, ◌+◌, ◌<◌, eqb, ltb, length, get_or, is_some}
use Rattle.std.proofs.Common.{sym, ap, ap₂, ◌∙◌, subst, arith, eqb-true, eq-eqb, ne_eqb, lt-ltb}
use Rattle.row_order.specs.Iso.{Key}
use Rattle.row_order.proofs.Order.{no_bool}
use Rattle.row_order.specs.Lists.{All, all_nil, all_cons}
use Rattle.row_order.specs.ListLaws.{get_or-tab}
use Rattle.plan.specs.Op.{aggregate, Plan}
use Rattle.plan.specs.WellFormed.{columns_of, every, member}
use Rattle.semantics.specs.Facts.{at0, carried, cl, eq_key, Facts, facts, facts_op, is_c, is_nil, lowest, met, nf, placed, prefixb, proj_facts, proj_order, with_column}
use Rattle.semantics.specs.Properties.{fresh_keys, maintains}
use Rattle.semantics.specs.Canonical.{Canon, Classes}
use Rattle.semantics.proofs.Theorems.Common.Bools.{and_left, and_right}
use Rattle.semantics.proofs.Theorems.Common.Lowest.{lowest_ext, lowest_le}
use Rattle.semantics.proofs.Theorems.Orders.Comparing.{carried_ok, eq_key-true}
use Rattle.semantics.proofs.Theorems.Canonical.EveryNode.{canon, nth_canon, op_canon}
use Rattle.walks.specs.SortPushdown.{at_column, go_if, handle_aggregate_pushdown, Pushed, remap_requirement_through_projection, stop}
use Rattle.walks.specs.PushdownSorts.{after_merge, after_try, decide_node, new_ordering, push_down, pushdown_sorts_helper, satisfied, sort_added, unasked, unsatisfied, Visit}
use Rattle.walks.specs.Utils.{needs_merge}
use Rattle.walks.proofs.Theorems.Common.OrderMet.{fresh_same, met-nf, prefix_refl, repeats_same}
use Rattle.walks.proofs.Theorems.Push.ChildOrders.{every_lt}

-- where a test takes j, the lowest below j that it takes is the lowest of all
lowest-same : (p : ℕ → Bool) (j m : ℕ) → p j ≡ true → j < m → lowest p j ≡ lowest p m
lowest-same p j zero e l = absurd (omega arith)
lowest-same p zero (suc m) e l = sym (ap (λ (b : Bool). cond b zero (suc (lowest (λ i. p (suc i)) m))) e)
lowest-same p (suc j) (suc m) e l = ap (λ (n : ℕ). cond (p zero) zero (suc n)) (lowest-same (λ i. p (suc i)) j m e (omega arith))

module _ (F : Facts) (hF : Canon F) where
  -- ---- the group columns
  module _ (cols : List ℕ) (n : ℕ) (hG : Classes (placed (proj_facts F cols) n)) where
    abbrev G : Facts
    G = placed (proj_facts F cols) n

    abbrev child : ℕ → ℕ
    child j = get_or cols j 0

    abbrev out : ℕ → ℕ
    out a = carried F cols a

    -- A class's lowest that a group column carries
    abbrev Carried : ℕ → Type 0
    Carried a = (cl F a ≡ a) × (out a < length cols)

    module _ (j : ℕ) (l : j < length cols) where
      abbrev alike : ℕ → Bool
      alike i = eqb (cl F (child i)) (cl F (child j))

      out_is : lowest alike j ≡ out (cl F (child j))
      out_is = lowest-same alike j (length cols) (eq-eqb (cl F (child j)) (cl F (child j)) refl) l
          ∙ lowest_ext alike (λ i. eqb (cl F (child i)) (cl F (cl F (child j))))
          (λ i. ap (eqb (cl F (child i))) (sym (hF.classes.idem (child j)))) (length cols)

      carried_low : Carried (cl F (child j))
      carried_low = (hF.classes.idem (child j), subst (λ (m : ℕ). m < length cols) out_is (omega (arith, lowest_le alike j)))

      class_is : cl G j ≡ out (cl F (child j))
      class_is =
          get_or-tab (length cols + n) (λ c. cond (ltb c (length cols)) (cl (proj_facts F cols) c) c) j j (omega arith)
          ∙ ap (λ (b : Bool). cond b (cl (proj_facts F cols) j) j) (lt-ltb j (length cols) l)
          ∙ get_or-tab (length cols) (λ d. lowest (λ i. eqb (cl F (child i)) (cl F (child d))) d) j j l ∙ out_is

      const_is : is_c G (cl G j) ≡ is_c F (cl F (child j))
      const_is =
          hG.const j
          ∙ get_or-tab (length cols + n) (λ c. ltb c (length cols) && is_c (proj_facts F cols) c) false j (omega arith)
          ∙ ap (λ (b : Bool). b && is_c (proj_facts F cols) j) (lt-ltb j (length cols) l)
          ∙ get_or-tab (length cols) (λ d. is_c F (child d)) false j l ∙ sym (hF.classes.const (child j))

    -- two classes have two columns
    out_eq : (a s : ℕ) → Carried a → Carried s → eqb (out a) (out s) ≡ eqb a s
    out_eq a s p q = go (eqb a s) refl
      where
        back : (c : ℕ) → Carried c → cl F (child (out c)) ≡ c
        back c h = eqb-true (cl F (child (out c))) (cl F c) (carried_ok F cols c h.1) ∙ h.0

        go : (b : Bool) → eqb a s ≡ b → eqb (out a) (out s) ≡ b
        go true e = eq-eqb (out a) (out s) (ap out (eqb-true a s e))
        go false e = ne_eqb (out a) (out s)
            (λ x. no_bool (sym e ∙ eq-eqb a s (sym (back a p) ∙ ap (λ (c : ℕ). cl F (child c)) x ∙ back s q)))

    out-member : (a : ℕ) → Carried a → {seen : List ℕ} → All Carried seen → member (out a) (map out seen) ≡ member a seen
    out-member a p all_nil = refl
    out-member a p (all_cons {x = s} q qs) = ap₂ ◌||◌ (out_eq a s p q) (out-member a p qs)

    -- the normal form of a list of group columns is that of the child's list, moved
    moves : (seen : List ℕ) (ks : List Key) → All Carried seen → All (λ k. k.col < length cols) ks →
        nf G (map out seen) ks ≡ proj_order F cols (nf F seen (map (at_column child) ks))
    moves seen [] hs fits = refl
    moves seen (k ∷ ks) hs (all_cons l fits) =
        ap₂ (λ (b : Bool) (c : ℕ). cond (b || member c (map out seen)) (nf G (map out seen) ks) (with_column c k ∷ nf G (c ∷ map out seen) ks))
        (const_is k.col l) (class_is k.col l)
        ∙ ap (λ (b : Bool). cond (is_c F a || b) (nf G (map out seen) ks) (with_column (out a) k ∷ nf G (map out (a ∷ seen)) ks)) (out-member a p hs)
        ∙ go (is_c F a || member a seen) (moves seen ks hs fits) (moves (a ∷ seen) ks (all_cons p hs) fits)
      where
        a : ℕ
        a = cl F (child k.col)

        p : Carried a
        p = carried_low k.col l

        ms : List Key
        ms = map (at_column child) ks

        go : (b : Bool) → nf G (map out seen) ks ≡ proj_order F cols (nf F seen ms) →
            nf G (map out (a ∷ seen)) ks ≡ proj_order F cols (nf F (a ∷ seen) ms) →
            cond b (nf G (map out seen) ks) (with_column (out a) k ∷ nf G (map out (a ∷ seen)) ks)
            ≡ proj_order F cols (cond b (nf F seen ms) (with_column a (at_column child k) ∷ nf F (a ∷ seen) ms))
        go true ih _ = ih
        go false _ ih =
            ap (λ (m : List Key). with_column (out a) k ∷ m) ih
            ∙ sym (ap (λ (b : Bool). cond b (with_column (out a) k ∷ proj_order F cols (nf F (a ∷ seen) ms)) []) (lt-ltb (out a) (length cols) p.1))

    -- a prefix, moved, is a prefix
    moved_prefix : (p q : List Key) → prefixb p q ≡ true → prefixb (proj_order F cols p) (proj_order F cols q) ≡ true
    moved_prefix [] q e = refl
    moved_prefix (k ∷ p) [] e = no_bool e
    moved_prefix (k ∷ p) (l ∷ q) e =
        subst (λ (z : Key). prefixb (proj_order F cols (k ∷ p)) (proj_order F cols (z ∷ q)) ≡ true) (eq_key-true k l (and_left (eq_key k l) (prefixb p q) e))
        (same (ltb (out k.col) (length cols)) (moved_prefix p q (and_right (eq_key k l) (prefixb p q) e)))
      where
        m : Key
        m = with_column (out k.col) k

        same : (b : Bool) → prefixb (proj_order F cols p) (proj_order F cols q) ≡ true →
            prefixb (cond b (m ∷ proj_order F cols p) []) (cond b (m ∷ proj_order F cols q) []) ≡ true
        same true ih = ap₂ ◌&&◌ (and_left (eq_key m m) true (prefix_refl (m ∷ []))) ih
        same false ih = refl

    pub group_met : (ks : List Key) → All (λ k. k.col < length cols) ks → met F (remap_requirement_through_projection cols ks) ≡ true → met G ks ≡ true
    group_met ks fits e =
        let ms : List Key = map (at_column child) ks in
        ap (λ (l : List Key). prefixb l (proj_order F cols F.order)) (moves [] ks all_nil fits)
        ∙ moved_prefix (nf F [] ms) F.order
        (ap (λ (l : List Key). prefixb l F.order) (sym (repeats_same F hF ms)) ∙ e)

pub declines : (ks : List Key) (n : ℕ) (fs : List Facts) (parent : List Key) → All Canon fs → met (facts_op (aggregate ks n) fs) parent ≡ false →
    handle_aggregate_pushdown (aggregate ks n) (columns_of ks) fs parent ≡ stop
declines ks n fs parent hs e = go (maintains (aggregate ks n) fs 0) inside refl meets refl
  where
    inside : Bool
    inside = every (λ k. ltb k.col (length (columns_of ks))) parent

    meets : Bool
    meets = met (at0 fs) (remap_requirement_through_projection (columns_of ks) parent)

    go : (x y : Bool) → inside ≡ y → (z : Bool) → meets ≡ z →
        go_if (x && (y && z)) (λ i. remap_requirement_through_projection (columns_of ks) parent) ≡ stop
    go true true p true q =
        no_bool (sym e ∙ group_met (at0 fs) (nth_canon fs hs 0) (columns_of ks) n (op_canon (aggregate ks n) fs hs).classes parent
        (every_lt (length (columns_of ks)) parent p) q)
    go true true p false q = refl
    go true false p z q = refl
    go false y p z q = refl

-- ---- where pushing asks it: at the node, and once more below a merge that it adds

module _ (q : Visit) (ks : List Key) (n : ℕ) (c : Plan) where
  abbrev F : Facts
  F = facts_op (aggregate ks n) (facts c)

  stops : (l : List Key) → met F l ≡ false → push_down l q (aggregate ks n) c ≡ stop
  stops l e = go (is_some q.req.fetch && true) (declines ks n (facts c) l (canon c) e)
    where
      go : (b : Bool) {p : Pushed} → p ≡ stop → cond b stop p ≡ stop
      go true h = refl
      go false h = h

  new_unmet : (l : List Key) → met F l ≡ false → met F (new_ordering F l) ≡ false
  new_unmet l e =
      let h : Canon F = op_canon (aggregate ks n) (facts c) (canon c) in
      met-nf F (fresh_keys F [] l) h ∙ ap (λ (m : List Key). prefixb m F.order) (fresh_same F h l) ∙ e

  pub sort_above_lem : is_nil q.req.order ≡ false → met F q.req.order ≡ false →
      pushdown_sorts_helper q (aggregate ks n) c
      ≡ cond (needs_merge F q.req.dist) (after_merge stop q (aggregate ks n) c) (sort_added q (aggregate ks n) c)
  sort_above_lem some e =
      touched q.touch
      ∙ ap₂ (λ (x y : Bool). cond x (unasked q (aggregate ks n) c) (cond y (satisfied q (aggregate ks n) c) (unsatisfied q (aggregate ks n) c))) some e
      ∙ ap (λ (p : Pushed). after_try p q (aggregate ks n) c) (stops q.req.order e)
      ∙ ap (λ (p : Pushed). cond (needs_merge F q.req.dist) (after_merge p q (aggregate ks n) c) (sort_added q (aggregate ks n) c))
      (stops (new_ordering F q.req.order) (new_unmet q.req.order e))
    where
      touched : (b : Bool) → decide_node q (cond b (aggregate ks n) (aggregate ks n)) c ≡ decide_node q (aggregate ks n) c
      touched true = refl
      touched false = refl
