-- What one call of the Rust's helper (PushdownSortsLiteral) does, an equation for each branch: at a sort, and at another node.
use Rattle.std.specs.Prelude.{◌≡◌, refl, Bool, true, false, cond, not, ◌&&◌, ◌||◌, List, [], ◌∷◌, ◌++◌, ℕ, ltb, Option}
use Rattle.std.proofs.Common.{sym, ap, ap₂, ◌∙◌}
use Rattle.row_order.specs.Iso.{Key}
use Rattle.row_order.proofs.Order.{no_bool}
use Rattle.plan.specs.Forest.{Forest, none, tree}
use Rattle.plan.specs.Op.{merge_op, Op, Plan, sort_op}
use Rattle.plan.specs.declared.Distribution.{Distribution}
use Rattle.plan.specs.declared.Distribution.TheVariants.{Unspecified}
use Rattle.semantics.specs.Facts.{compatible, Facts, facts, facts_op, is_nil, met, nf}
use Rattle.semantics.specs.Properties.{dist_of, fetches, fetch_op, fresh_keys, rebuilt, wanted}
use Rattle.walks.specs.Marks.{cover_with, node, strip}
use Rattle.walks.specs.Utils.{is_sort, merge_above, needs_merge, new_merge, new_sort, sort_above, sort_above_with_distribution}
use Rattle.walks.specs.SortPushdown.{default_requirements, goes, min_fetch, ParentRequirements, pushdown_requirement_to_children, Pushed, stop, stronger_distribution, child_count, effective_dist}
use Rattle.push_literal.specs.PushdownSortsLiteral.{assign_initial, calls_itself, first_child_data, helper, helper_on, internal_error, node_pushes, Required, returns, SortPushDown}
use Rattle.walks.proofs.Theorems.Parallelize.Bottlenecks.{rebuilt_facts}
use Rattle.push_literal.proofs.Contexts.{each_holding, holding, plan_holding}

-- ---- tests

pub cond_yes : {A : Type 0} (b : Bool) (x y : A) → b ≡ true → cond b x y ≡ x
cond_yes true x y e = refl
cond_yes false x y e = no_bool e

pub cond_no : {A : Type 0} (b : Bool) (x y : A) → b ≡ false → cond b x y ≡ y
cond_no true x y e = no_bool (sym e)
cond_no false x y e = refl

in_both : {A : Type 0} (a b : Bool) (x y z : A) → b ≡ true → cond a (cond b x y) (cond b x z) ≡ x
in_both true b x y z e = cond_yes b x y e
in_both false b x y z e = cond_yes b x z e

neither : (a b : Bool) → a || b ≡ false → not a && not b ≡ true
neither true b e = no_bool (sym e)
neither false true e = no_bool (sym e)
neither false false e = refl

either : (a b : Bool) → a || b ≡ true → not a && not b ≡ false
either true b e = refl
either false true e = refl
either false false e = no_bool e

-- ---- the new nodes over facts F, for an order that leaves a key

abbrev pub new_sort_over : Facts → List Key → Option ℕ → Op
new_sort_over F ks f = sort_op (ltb 1 F.streams) (fresh_keys F [] ks) f

abbrev pub new_merge_over : Facts → List Key → Option ℕ → Op
new_merge_over F ks f = merge_op (fresh_keys F [] ks) f

module _ (F : Facts) (ks : List Key) (f : Option ℕ) (s : is_nil (fresh_keys F [] ks) ≡ false) where
  one_sort : sort_above F ks f ≡ new_sort_over F ks f ∷ []
  one_sort = go (fresh_keys F [] ks) s
    where
      go : (l : List Key) → is_nil l ≡ false → new_sort (ltb 1 F.streams) l f ≡ sort_op (ltb 1 F.streams) l f ∷ []
      go [] e = no_bool (sym e)
      go (k ∷ l) e = refl

  pub one_merge : merge_above F ks f ≡ new_merge_over F ks f ∷ []
  one_merge = go (fresh_keys F [] ks) s
    where
      go : (l : List Key) → is_nil l ≡ false → new_merge l f ≡ merge_op l f ∷ []
      go [] e = no_bool (sym e)
      go (k ∷ l) e = refl

  pub above_sort : (d : Distribution) → needs_merge F d ≡ false → sort_above_with_distribution F ks f d ≡ new_sort_over F ks f ∷ []
  above_sort d e = cond_no (needs_merge F d) _ _ e ∙ one_sort

  pub above_merge : (d : Distribution) → needs_merge F d ≡ true → sort_above_with_distribution F ks f d ≡ new_merge_over F ks f ∷ new_sort_over F ks f ∷ []
  above_merge d e = cond_yes (needs_merge F d) _ _ e ∙ ap₂ ◌++◌ one_merge one_sort

-- ---- at a sort that holds d, over the context of o₁ with the children x; C: the facts of o₁'s plan, o₂: o₁ rebuilt

module _ (p : Bool) (ks : List Key) (f : Option ℕ) (d : ParentRequirements) (o₁ : Op) (d₁ : ParentRequirements) (x : Forest Required) where
  abbrev pub sort_over : SortPushDown
  sort_over = node (sort_op p ks f) d (tree (record { op = o₁; mark = d₁ }) x none)

  module _ (C : Facts) (o₂ : Op) (e_c : facts_op o₁ (facts (strip x)) ≡ C) (eo : rebuilt o₁ (facts (strip x)) ≡ o₂) where
    abbrev pub its : Facts → Facts
    its H = facts_op (sort_op p ks f) (H ∷ [])

    abbrev own : Facts
    own = facts_op o₁ (facts (strip x))

    its_order : {b : Bool} → is_nil (nf C [] ks) ≡ b → is_nil (nf own [] ks) ≡ b
    its_order s = ap (λ (H : Facts). is_nil (nf H [] ks)) e_c ∙ s

    pub constant_call : is_nil (nf C [] ks) ≡ true → helper sort_over ≡ internal_error
    constant_call s = in_both (is_nil d.order) (is_nil (nf own [] ks)) _ _ _ (its_order s)

    pub unrequired_call : is_nil d.order ≡ true → is_nil (nf C [] ks) ≡ false →
        helper sort_over ≡ calls_itself (node o₂ (record { order = nf C [] ks; fetch = min_fetch f d.fetch; dist = d₁.dist }) x)
    unrequired_call e s =
        cond_yes (is_nil d.order) _ _ e ∙ cond_no (is_nil (nf own [] ks)) _ _ (its_order s)
        ∙ ap₂ (λ (H : Facts) (o : Op). calls_itself (node o (record { order = nf H [] ks; fetch = min_fetch f d.fetch; dist = d₁.dist }) x)) e_c eo

    -- satisfy_parent, or parent_is_stricter
    abbrev pub suits : Facts → Bool
    suits H = met (its H) d.order || compatible (its H) d.order (its H).order

    module _ (e : is_nil d.order ≡ false) (s : is_nil (nf C [] ks) ≡ false) where
      pub unnecessary_call : suits C ≡ true →
          helper sort_over ≡ calls_itself
          (node o₂ (record {
            order = cond (compatible (its C) (its C).order d.order) (its C).order d.order;
            fetch = min_fetch f d.fetch;
            dist = Unspecified;
          }) x)
      unnecessary_call q =
          cond_no (is_nil d.order) _ _ e ∙ cond_no (is_nil (nf own [] ks)) _ _ (its_order s)
          ∙ cond_no (not (met (its own) d.order) && not (compatible (its own) d.order (its own).order)) _ _
          (either (met (its own) d.order) (compatible (its own) d.order (its own).order) (ap suits e_c ∙ q))
          ∙ ap₂ (λ (H : Facts) (o : Op). calls_itself
          (node o (record {
            order = cond (compatible (its H) (its H).order d.order) (its H).order d.order;
            fetch = min_fetch f d.fetch;
            dist = Unspecified;
          }) x)) e_c eo

      -- ts: what add_sort_above_with_distribution puts over the child
      pub different_call : suits C ≡ false → (ts : List Op) → sort_above_with_distribution C d.order d.fetch d.dist ≡ ts →
          helper sort_over ≡ first_child_data (record { order = nf C [] ks; fetch = f; dist = Unspecified }) (cover_with default_requirements ts (node o₂ d₁ x))
      different_call q ts t =
          cond_no (is_nil d.order) _ _ e ∙ cond_no (is_nil (nf own [] ks)) _ _ (its_order s)
          ∙ cond_yes (not (met (its own) d.order) && not (compatible (its own) d.order (its own).order)) _ _
          (neither (met (its own) d.order) (compatible (its own) d.order (its own).order) (ap suits e_c ∙ q))
          ∙ ap (λ (H : Facts). first_child_data (record { order = nf H [] ks; fetch = f; dist = Unspecified })
          (cover_with default_requirements (tops (facts_op (rebuilt o₁ (facts (strip x))) (facts (strip x)))) (node (rebuilt o₁ (facts (strip x))) d₁ x)))
          e_c
          ∙ ap₂ (λ (H : Facts) (o : Op). first_child_data below (cover_with default_requirements (tops H) (node o d₁ x)))
          (rebuilt_facts o₁ (facts (strip x)) ∙ e_c) eo
          ∙ ap (λ (us : List Op). first_child_data below (cover_with default_requirements us (node o₂ d₁ x))) t
        where
          tops : Facts → List Op
          tops H = sort_above_with_distribution H d.order d.fetch d.dist

          below : ParentRequirements
          below = record { order = nf C [] ks; fetch = f; dist = Unspecified }

-- ---- at another node o over c that holds d, whose children hold g

module _ (o : Op) (ns : is_sort o ≡ false) (d : ParentRequirements) (c : Plan) where
  abbrev F : Facts
  F = facts_op o (facts c)

  abbrev handed : (ℕ → List Key) → Option ℕ → ℕ → ParentRequirements
  handed ks f i = record { order = ks i; fetch = f; dist = stronger_distribution (effective_dist F d.dist) (dist_of o i) }

  on_plan : (g : ℕ → ParentRequirements) → helper (node o d (holding g c)) ≡ helper_on c (node o d (holding g c))
  on_plan g = ap (λ (z : Plan). helper_on z (node o d (holding g c))) (plan_holding g c)

  pub node_unrequired_lem : (g : ℕ → ParentRequirements) → is_nil d.order ≡ true →
      helper (node o d (holding g c)) ≡ returns (node o d (holding (λ i. record { order = (g i).order; fetch = (g i).fetch; dist = dist_of o i }) c))
  node_unrequired_lem g e =
      cond_yes (is_nil d.order) _ _ e ∙ cond_no (is_sort o) _ _ ns
      ∙ ap (λ (y : Forest Required). returns (node o d y)) (each_holding (λ i r. record { order = r.order; fetch = r.fetch; dist = dist_of o i }) g c)

  module _ (e : is_nil d.order ≡ false) where
    pub node_satisfies_lem : met F d.order ≡ true → (g : ℕ → ParentRequirements) →
        helper (node o d (holding g c)) ≡ returns (node o d (holding (λ i. handed (wanted o) (min_fetch d.fetch (g i).fetch) i) c))
    node_satisfies_lem m g =
        on_plan g ∙ cond_no (is_nil d.order) _ _ e ∙ cond_no (is_sort o) _ _ ns ∙ cond_yes (met F d.order) _ _ m
        ∙ ap (λ (y : Forest Required). returns (node o d y)) (each_holding (λ i r. handed (wanted o) (min_fetch d.fetch r.fetch) i) g c)

    abbrev tried : Pushed
    tried = pushdown_requirement_to_children o (fetch_op o (fetches c)) (child_count c) (facts c) d.order d.fetch

    module _ (m : met F d.order ≡ false) (g : ℕ → ParentRequirements) where
      pushes : (u : Pushed) → tried ≡ u → helper (node o d (holding g c)) ≡ node_pushes u c (node o d (holding g c))
      pushes u t =
          on_plan g ∙ cond_no (is_nil d.order) _ _ e ∙ cond_no (is_sort o) _ _ ns ∙ cond_no (met F d.order) _ _ m
          ∙ ap (λ (v : Pushed). node_pushes v c (node o d (holding g c))) t

      pub node-goes : (ks : ℕ → List Key) → tried ≡ goes ks →
          helper (node o d (holding g c)) ≡ returns
          (node o (record { order = []; fetch = d.fetch; dist = d.dist }) (holding (handed ks (min_fetch (fetch_op o (fetches c)) d.fetch)) c))
      node-goes ks t =
          pushes (goes ks) t
          ∙ ap (λ (y : Forest Required). returns (node o (record { order = []; fetch = d.fetch; dist = d.dist }) y))
          (each_holding (λ i r. handed ks (min_fetch (fetch_op o (fetches c)) d.fetch) i) g c)

      -- ts: what add_sort_above_with_distribution puts over the node
      pub node_stops : tried ≡ stop → (ts : List Op) → sort_above_with_distribution F d.order d.fetch d.dist ≡ ts →
          helper (node o d (holding g c)) ≡ returns (assign_initial (cover_with default_requirements ts (node o d (holding g c))))
      node_stops t ts q =
          pushes stop t
          ∙ ap (λ (z : Plan). returns (assign_initial
          (cover_with default_requirements (sort_above_with_distribution (facts_op o (facts z)) d.order d.fetch d.dist) (node o d (holding g c)))))
          (plan_holding g c)
          ∙ ap (λ (us : List Op). returns (assign_initial (cover_with default_requirements us (node o d (holding g c))))) q
