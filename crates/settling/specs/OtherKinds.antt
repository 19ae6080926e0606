-- A node of another kind than union, over its children: its facts come from the first two.
use Rattle.std.specs.Prelude.{◌≡◌, refl, true, List, [], ◌∷◌, map, ℕ, zero, suc, ◌≤◌, ◌<◌, length, take, get_or}
use Rattle.std.proofs.Common.{ap, ap₂, ◌∙◌, subst, arith, eqb-true}
use Rattle.plan.specs.Op.{Op, source, filter, projection, union, repartition, coalesce, sort_op, merge_op, global_limit, local_limit, sort_merge_join, hash_join, output_requirement, partial_sort, aggregate, kind}
use Rattle.plan.specs.Numbers.{kind_of}
use Rattle.plan.specs.WellFormed.{children_ok, width, node_ok}
use Rattle.plan.specs.declared.Kind.TheVariants.{Union}
use Rattle.plan_format.specs.Record.{children}
use Rattle.plan_codec.specs.Decode.{decode}
use Rattle.semantics.specs.Facts.{Facts, at0, at1, facts_op}
use Rattle.facts.specs.declared.Facts.{Facts as Coded}
use Rattle.facts.specs.Known.{known as told, Says}
use Rattle.walks.specs.Marks.{known, node}
use Rattle.plan_context.specs.View.{forest, Over}
use Rattle.plan_context.specs.Laws.{length_facts}
use Rattle.plan_context.specs.Facts.{Child}
use Rattle.record_fields.specs.Kinds.{kind_is}
use Rattle.node_facts.specs.Ready.{kids_of, Ready}
use Rattle.plan_context.specs.Nodes.{rule, proper}

-- a kind other than union has two children at most
few_kids : (o : Op) (n : ℕ) → (kind o ≡ Union → ⊥) → children_ok o n ≡ true → n ≤ 2
few_kids (source s) n f e = omega (arith, eqb-true n 0 e)
few_kids filter n f e = omega (arith, eqb-true n 1 e)
few_kids (projection cols) n f e = omega (arith, eqb-true n 1 e)
few_kids union n f e = absurd (f refl)
few_kids (repartition p k h ks) n f e = omega (arith, eqb-true n 1 e)
few_kids (coalesce t) n f e = omega (arith, eqb-true n 1 e)
few_kids (sort_op p ks t) n f e = omega (arith, eqb-true n 1 e)
few_kids (merge_op ks t) n f e = omega (arith, eqb-true n 1 e)
few_kids (global_limit s t note) n f e = omega (arith, eqb-true n 1 e)
few_kids (local_limit t note) n f e = omega (arith, eqb-true n 1 e)
few_kids (sort_merge_join t on) n f e = omega (arith, eqb-true n 2 e)
few_kids (hash_join t on) n f e = omega (arith, eqb-true n 2 e)
few_kids (output_requirement ks d t) n f e = omega (arith, eqb-true n 1 e)
few_kids (partial_sort p ks k t) n f e = omega (arith, eqb-true n 1 e)
few_kids (aggregate ks k) n f e = omega (arith, eqb-true n 1 e)

-- the children's facts, from the first two
two_kids_lem : (fs : List Facts) (n : ℕ) (F G : Facts) → length fs ≡ n → n ≤ 2 → (0 < length fs → F ≡ at0 fs) → (1 < length fs → G ≡ at1 fs)
    → take n (F ∷ G ∷ []) ≡ fs
two_kids_lem [] zero F G e h f g = refl
two_kids_lem [] (suc n) F G e h f g = absurd (omega arith)
two_kids_lem (A ∷ fs) zero F G e h f g = absurd (omega arith)
two_kids_lem (A ∷ []) (suc zero) F G e h f g = ap (λ X. X ∷ []) (f (omega arith))
two_kids_lem (A ∷ []) (suc (suc n)) F G e h f g = absurd (omega arith)
two_kids_lem (A ∷ B ∷ fs) (suc zero) F G e h f g = absurd (omega arith)
two_kids_lem (A ∷ B ∷ []) (suc (suc zero)) F G e h f g = ap₂ (λ X Y. X ∷ Y ∷ []) (f (omega arith)) (g (omega arith))
two_kids_lem (A ∷ B ∷ C ∷ fs) (suc (suc zero)) F G e h f g = absurd (omega arith)
two_kids_lem (A ∷ B ∷ fs) (suc (suc (suc n))) F G e h f g = absurd (omega arith)

module _ (m r ks : List ℕ) (a : Over m r ks) (n : kind_of (get_or r 0 0) ≡ Union → ⊥) (f g : Coded) (p : Child (known (forest m ks)) 0 f)
    (q : Child (known (forest m ks)) 1 g) where
  pub same_kids : kids_of r f g ≡ known (forest m ks)
  same_kids =
      let few : length ks ≤ 2 = few_kids (decode r) (length ks) (λ e. n (kind_is r ∙ e)) (rule m r ks a).count in
      let l = length_facts m ks in let d = (proper m r ks a).count in
      two_kids_lem (known (forest m ks)) (children r) (told f) (told g) (omega arith) (omega arith) p.is q.is

  pub ready : Ready r f g
  ready = record {
    long = (proper m r ks a).long;
    rules = (proper m r ks a).rules;
    node = ap (λ l. node_ok (decode r) (map (λ F. F.width) l)) same_kids ∙ a.ok.0;
    first = p.usable.fine;
    second = q.usable.fine;
    first_fits = p.usable.fits;
    second_fits = q.usable.fits;
  }

  pub own_says : (h : Coded) → Says (facts_op (decode r) (kids_of r f g)) h → Says (facts_op (decode r) (known (forest m ks))) h
  own_says h s = subst (λ F. Says F h) (ap (facts_op (decode r)) same_kids) s
