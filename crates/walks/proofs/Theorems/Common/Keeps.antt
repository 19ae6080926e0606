-- What a rewrite of one tree, or of the children of a node, keeps: `Keeps`, `KeepsAll`, and how they are built. Every lemma about a walk is
-- made of these.
use Rattle.std.specs.Prelude.{◌≡◌, refl, Bool, true, false, cond, ◌&&◌, List, [], ◌∷◌, map, ℕ, suc, eqb, ltb, get_or, Option, None}
use Rattle.std.proofs.Common.{sym, ap, ap₂, ◌∙◌, subst, arith}
use Rattle.row_order.specs.Iso.{Key}
use Rattle.row_order.proofs.Order.{no_bool}
use Rattle.row_order.specs.Lists.{All, all_cons, all_nil}
use Rattle.plan.specs.Forest.{Forest, none, tree}
use Rattle.plan.specs.Op.{coalesce, filter, global_limit, hash_join, local_limit, merge_op, Op, output_requirement, partial_sort, aggregate, Plan, projection, repartition, sort_merge_join, sort_op, source, union}
use Rattle.plan.specs.Numbers.{code}
use Rattle.plan.specs.WellFormed.{fetch_ok, node_ok}
use Rattle.semantics.specs.Facts.{Facts, facts, facts_op}
use Rattle.semantics.specs.Properties.{cuts, fetches, fetch_op, fresh_keys, is_limit, rebuilt, remark, is_all}
use Rattle.semantics.proofs.Theorems.Common.Bools.{and_left, and_right}
use Rattle.semantics.proofs.Theorems.Facts.Fits.{fits}
use Rattle.walks.specs.Marks.{another, at, bare, cover, fact, fetch_t, kid0, known, Marked, node, op_t, over, plant, rebuild, set_mark, shape, strip, transform_up, Tree}
use Rattle.walks.specs.Utils.{add_sort_above, is_sort, new_sort}
use Rattle.walks.specs.Terms.{◌⊕◌, add_none, Added, blank, bone, clear_op, easing, Live, passing, skel}
use Rattle.walks.proofs.Theorems.Common.Lists.{all_nth}
use Rattle.walks.proofs.Theorems.Common.Skeleton.{added_append, added_bone, added_over, added_refl, added_same, added_trans, easing_limit, pass_ease, ⊕-none}
use Rattle.walks.proofs.Theorems.Common.Base.{blank_at, blank_widths, ease_blank, op_blank}
use Rattle.walks.proofs.Theorems.Common.ConstantSorts.{Alive, constant_blank, constant_over, fact-canon, fresh_alive, no_sort}
use Rattle.walks.specs.Trees.{Arity, arity, count, Fit, FitsA, FitT, LiveT, Ok, OkT, one_kid, Pure, PureT, skel_t}
use Rattle.walks.proofs.Theorems.Common.Keys.{KeysFit}
use Rattle.walks.proofs.Theorems.Common.NewNodes.{narrow_t, sort_ok}

-- The rewrite from t to u. a: limits may be added; b: nothing that is handed in cuts rows off; h: what is handed in fits
pub record Keeps (a b h : Bool) (t u : Tree) : Type 0 where
  pub fit : FitT u
  pub pure : b ≡ true → PureT t → PureT u
  pub ok : h ≡ true → OkT t → OkT u
  pub bones : Added a (skel_t t) (skel_t u)
  -- width, constants and classes
  pub base : blank (fact u) ≡ blank (fact t)
  -- no sort of all-constant keys is made
  pub live : LiveT t → LiveT u

pub record KeepsAll (a b h : Bool) (c d : Forest Marked) : Type 0 where
  pub same : count (strip d) ≡ count (strip c)
  pub fit : Fit (strip d)
  pub pure : b ≡ true → Pure (strip c) → Pure (strip d)
  pub ok : h ≡ true → Ok (strip c) → Ok (strip d)
  pub bones : Added a (skel (strip c)) (skel (strip d))
  pub bases : map blank (known d) ≡ map blank (known c)
  pub live : Live (strip c) → Live (strip d)

module _ {a b h : Bool} where
  pub kept_refl : (t : Tree) → FitT t → Keeps a b h t t
  kept_refl t f = record { fit = f; pure = λ e p. p; ok = λ e p. p; bones = added_refl (skel_t t); base = refl; live = λ p. p }

  pub kept_trans : {t u v : Tree} → Keeps a b h t u → Keeps a b h u v → Keeps a b h t v
  kept_trans k l = record {
    fit = l.fit;
    pure = λ e p. l.pure e (k.pure e p);
    ok = λ e p. l.ok e (k.ok e p);
    bones = added_trans k.bones l.bones;
    base = l.base ∙ k.base;
    live = λ p. l.live (k.live p);
  }

  pub kept_mark : {t u : Tree} (x : Bool) → Keeps a b h t u → Keeps a b h t (set_mark x u)
  kept_mark x k = record { fit = k.fit; pure = k.pure; ok = k.ok; bones = k.bones; base = k.base; live = k.live }

  pub kept_cond : {t u v : Tree} (x : Bool) → Keeps a b h t u → Keeps a b h t v → Keeps a b h t (cond x u v)
  kept_cond true k l = k
  kept_cond false k l = l

  pub kept_plant : {t u : Tree} {r s : Forest Marked} → Keeps a b h t u → KeepsAll a b h r s → KeepsAll a b h (plant t r) (plant u s)
  kept_plant k l =
      record {
        same = ap suc l.same;
        fit = (k.fit.0, k.fit.1, l.fit);
        pure = λ e p. let q = k.pure e (p.0, p.1) in (q.0, q.1, l.pure e p.2);
        ok = λ e p. let q = k.ok e (p.0, p.1) in (q.0, q.1, l.ok e p.2);
        bones = added_append k.bones l.bones;
        bases = ap₂ ◌∷◌ k.base l.bases;
        live = λ p. let q = k.live (p.0, p.1) in (q.0, q.1, l.live p.2);
      }

  pub all_kept_none : KeepsAll a b h none none
  all_kept_none = record { same = refl; fit = tt; pure = λ e p. tt; ok = λ e p. tt; bones = add_none; bases = refl; live = λ p. tt }

  -- Forests that differ in their marks alone
  pub all_kept_strip : (c d : Forest Marked) → strip d ≡ strip c → Fit (strip c) → KeepsAll a b h c d
  all_kept_strip c d e f =
      record {
        same = ap (λ (g : Plan). count g) e;
        fit = subst Fit (sym e) f;
        pure = λ _ p. subst Pure (sym e) p;
        ok = λ _ p. subst Ok (sym e) p;
        bones = added_same (ap skel e);
        bases = ap (λ (g : Plan). map blank (facts g)) e;
        live = λ p. subst Live (sym e) p;
      }

  pub all_kept_refl : (c : Forest Marked) → Fit (strip c) → KeepsAll a b h c c
  all_kept_refl c f = all_kept_strip c c refl f

  pub all_kept_trans : {c d e : Forest Marked} → KeepsAll a b h c d → KeepsAll a b h d e → KeepsAll a b h c e
  all_kept_trans k l =
      record {
        same = l.same ∙ k.same;
        fit = l.fit;
        pure = λ i p. l.pure i (k.pure i p);
        ok = λ i p. l.ok i (k.ok i p);
        bones = added_trans k.bones l.bones;
        bases = l.bases ∙ k.bases;
        live = λ p. l.live (k.live p);
      }

-- ---- nodes that can stand for one another
pub record Like (o p : Op) : Type 0 where
  pub kids : arity p ≡ arity o
  pub uncut : clear_op o ≡ true → clear_op p ≡ true
  pub ok : (ws : List ℕ) → node_ok o ws ≡ true → node_ok p ws ≡ true
  pub bones : (s : Plan) → bone passing p s ≡ bone passing o s
  pub base : (fs : List Facts) → blank (facts_op p fs) ≡ blank (facts_op o fs)
  pub constant : (fs : List Facts) → constant_over p fs ≡ constant_over o fs

pub like_refl : (o : Op) → Like o o
like_refl o = record { kids = refl; uncut = λ e. e; ok = λ ws e. e; bones = λ s. refl; base = λ fs. refl; constant = λ fs. refl }

pub like_trans : {o p q : Op} → Like o p → Like p q → Like o q
like_trans k l = record {
  kids = l.kids ∙ k.kids;
  uncut = λ e. l.uncut (k.uncut e);
  ok = λ ws e. l.ok ws (k.ok ws e);
  bones = λ s. l.bones s
      ∙ k.bones s;
  base = λ fs. l.base fs ∙ k.base fs;
  constant = λ fs. l.constant fs ∙ k.constant fs;
}

pub remark_like : (g : Bool → Bool) (o : Op) → Like o (remark g o)
remark_like g (source s) = like_refl (source s)
remark_like g filter = like_refl filter
remark_like g (projection cols) = like_refl (projection cols)
remark_like g union = like_refl union
remark_like g (repartition p n h ks) = record {
  kids = refl;
  uncut = λ e. refl;
  ok = λ ws e. e;
  bones = λ s. refl;
  base = λ fs. refl;
  constant = λ fs. refl;
}
remark_like g (coalesce f) = like_refl (coalesce f)
remark_like g (sort_op p ks f) = like_refl (sort_op p ks f)
remark_like g (merge_op ks f) = like_refl (merge_op ks f)
remark_like g (global_limit s f note) = like_refl (global_limit s f note)
remark_like g (local_limit f note) = like_refl (local_limit f note)
remark_like g (sort_merge_join t on) = like_refl (sort_merge_join t on)
remark_like g (hash_join t on) = like_refl (hash_join t on)
remark_like g (output_requirement ks d f) = like_refl (output_requirement ks d f)
remark_like g (partial_sort p ks n f) = like_refl (partial_sort p ks n f)
remark_like g (aggregate ks n) = like_refl (aggregate ks n)

-- What does not see a repartition's mark does not see it change
pub remark-same : {A : Type 0} (v : Op → A) (g : Bool → Bool)
    → ((p q : Bool) (n : ℕ) (h : Bool) (ks : List Key) → v (repartition p n h ks) ≡ v (repartition q n h ks)) → (o : Op) → v (remark g o) ≡ v o
remark-same v g e (source s) = refl
remark-same v g e filter = refl
remark-same v g e (projection cols) = refl
remark-same v g e union = refl
remark-same v g e (repartition p n h ks) = e (g p) p n h ks
remark-same v g e (coalesce f) = refl
remark-same v g e (sort_op p ks f) = refl
remark-same v g e (merge_op ks f) = refl
remark-same v g e (global_limit s f note) = refl
remark-same v g e (local_limit f note) = refl
remark-same v g e (sort_merge_join t on) = refl
remark-same v g e (hash_join t on) = refl
remark-same v g e (output_requirement ks d f) = refl
remark-same v g e (partial_sort p ks n f) = refl
remark-same v g e (aggregate ks n) = refl

-- Over children that are handed something: b' and h' say when that cuts nothing off, and fits
pub kept_under : {a b h : Bool} (b' h' : Bool) (o p : Op) (x y : Bool) (c d : Forest Marked) → Like o p → (clear_op o ≡ true → b' ≡ true)
    → (OkT (node o x c) → h' ≡ true) → FitsA (arity o) (count (strip c)) → KeepsAll a b' h' c d → Keeps a b h (node o x c) (node p y d)
kept_under {a} b' h' o p x y c d l u g f k =
    record {
      fit = (subst (λ (n : ℕ). FitsA (arity p) n) (sym k.same) (subst (λ (q : Arity). FitsA q (count (strip c))) (sym l.kids) f), k.fit);
      pure = λ e q. (l.uncut q.0, k.pure (u q.0) q.1);
      ok = λ e q. (
        subst (λ (ws : List ℕ). node_ok p ws ≡ true) (sym (blank_widths (known d) (known c) k.bases))
            (l.ok (map (λ F. F.width) (known c)) q.0),
        k.ok (g q) q.1,
      );
      bones = subst (Added a (bone passing o (skel (strip c)))) (sym (l.bones (skel (strip d)))) (added_bone o k.bones);
      base = l.base (known d) ∙ op_blank o (known d) (known c) k.bases;
      live = λ q. (l.constant (known d) ∙ constant_blank o (known d) (known c) k.bases ∙ q.0, k.live q.1);
    }

pub kept_node : {a b h : Bool} (o p : Op) (x y : Bool) (c d : Forest Marked) → Like o p → FitsA (arity o) (count (strip c)) → KeepsAll a b h c d
    → Keeps a b h (node o x c) (node p y d)
kept_node {a} o p x y c d l f k =
    record {
      fit = (subst (λ (n : ℕ). FitsA (arity p) n) (sym k.same) (subst (λ (q : Arity). FitsA q (count (strip c))) (sym l.kids) f), k.fit);
      pure = λ e q. (l.uncut q.0, k.pure e q.1);
      ok = λ e q. (
        subst (λ (ws : List ℕ). node_ok p ws ≡ true) (sym (blank_widths (known d) (known c) k.bases))
            (l.ok (map (λ F. F.width) (known c)) q.0),
        k.ok e q.1,
      );
      bones = subst (Added a (bone passing o (skel (strip c)))) (sym (l.bones (skel (strip d)))) (added_bone o k.bones);
      base = l.base (known d) ∙ op_blank o (known d) (known c) k.bases;
      live = λ q. (l.constant (known d) ∙ constant_blank o (known d) (known c) k.bases ∙ q.0, k.live q.1);
    }

pub kept_rebuild : {a b h : Bool} (o : Op) (x y : Bool) (c d : Forest Marked) → FitsA (arity o) (count (strip c)) → KeepsAll a b h c d
    → Keeps a b h (node o x c) (rebuild o y d)
kept_rebuild o x y c d f k = kept_node o (rebuilt o (known d)) x y c d (remark_like _ o) f k

-- A smaller assumption
pub kept_when : {a b h b' h' : Bool} {t u : Tree} → (b ≡ true → PureT t → b' ≡ true) → (h ≡ true → OkT t → h' ≡ true) → Keeps a b' h' t u → Keeps a b h t u
kept_when u v k = record { fit = k.fit; pure = λ e p. k.pure (u e p) p; ok = λ e p. k.ok (v e p) p; bones = k.bones; base = k.base; live = k.live }

pub all_kept_when : {a b h h' : Bool} {c d : Forest Marked} → (h ≡ true → h' ≡ true) → KeepsAll a b h' c d → KeepsAll a b h c d
all_kept_when v k = record { same = k.same; fit = k.fit; pure = k.pure; ok = λ e p. k.ok (v e) p; bones = k.bones; bases = k.bases; live = k.live }

-- ---- a node of kinds 5 to 10 on top, and one of kinds 5 to 8 away
pub ease_one : (o : Op) → easing o ≡ true → arity o ≡ one_kid
ease_one (source s) e = no_bool e
ease_one filter e = refl
ease_one (projection cols) e = refl
ease_one union e = no_bool e
ease_one (repartition p n h ks) e = refl
ease_one (coalesce f) e = refl
ease_one (sort_op p ks f) e = refl
ease_one (merge_op ks f) e = refl
ease_one (global_limit s f note) e = refl
ease_one (local_limit f note) e = refl
ease_one (sort_merge_join t on) e = no_bool e
ease_one (hash_join t on) e = no_bool e
ease_one (output_requirement ks d f) e = refl
ease_one (partial_sort p ks n f) e = refl
ease_one (aggregate ks n) e = refl

pub pass_one : (o : Op) → passing o ≡ true → arity o ≡ one_kid
pass_one o e = ease_one o (pass_ease o e)

pub bone_pass : (o : Op) (s : Plan) → passing o ≡ true → bone passing o s ≡ s
bone_pass o s e = ap (λ (x : Bool). cond x s (tree o s none)) e

-- What a new node over u has to be: it cuts nothing off, 01's rules accept it, and it is no sort of all-constant keys (Alive)
abbrev Uncut : Bool → Tree → Op → Type 0
Uncut b t o = b ≡ true → PureT t → clear_op o ≡ true

abbrev Accepted : Bool → Tree → Tree → Op → Type 0
Accepted h t u o = h ≡ true → OkT t → OkT u → node_ok o ((fact u).width ∷ []) ≡ true

kept_on : {a b h : Bool} {t u : Tree} (o : Op) (x : Bool) → easing o ≡ true → Added a (skel_t u) (bone passing o (skel_t u ⊕ none)) → Uncut b t o
    → Accepted h t u o → Alive (fact u) o → Keeps a b h t u → Keeps a b h t (over o x u)
kept_on {u = u} o x e s q r y k =
    record {
      fit = (subst (λ (z : Arity). FitsA z 1) (sym (ease_one o e)) refl, (k.fit.0, k.fit.1, tt));
      pure = λ i p. let v = k.pure i p in (q i p, (v.0, v.1, tt));
      ok = λ i p. let v = k.ok i p in (r i p v, (v.0, v.1, tt));
      bones = added_trans k.bones s;
      base = ease_blank o (fact u ∷ []) e ∙ k.base;
      live = λ p. let v = k.live p in (y, (v.0, v.1, tt));
    }

pub kept_over : {a b h : Bool} {t u : Tree} (o : Op) (x : Bool) → passing o ≡ true → Uncut b t o → Accepted h t u o → Alive (fact u) o → Keeps a b h t u
    → Keeps a b h t (over o x u)
kept_over {u = u} o x e q r y k = kept_on o x (pass_ease o e) (added_same (bone_pass o (skel_t u ⊕ none) e ∙ ⊕-none (skel_t u))) q r y k

pub kept_limit : {b h : Bool} {t u : Tree} (o : Op) (x : Bool) → is_limit o ≡ true → passing o ≡ false → Uncut b t o → Accepted h t u o → Alive (fact u) o
    → Keeps true b h t u → Keeps true b h t (over o x u)
kept_limit {u = u} o x e n q r y k =
    kept_on o x (easing_limit o e)
    (subst (Added true (skel_t u)) (sym (ap (λ (z : Bool). cond z (skel_t u ⊕ none) (tree o (skel_t u ⊕ none) none)) n))
    (added_over o refl e (added_same (⊕-none (skel_t u)))))
    q r y k

pub kept_kid : {a b h : Bool} (o : Op) (x : Bool) (c : Forest Marked) → passing o ≡ true → FitsA (arity o) (count (strip c)) → Fit (strip c)
    → Keeps a b h (node o x c) (kid0 (node o x c) c)
kept_kid o x none e f g = absurd (omega (arith, subst (λ (z : Arity). FitsA z 0) (pass_one o e) f))
kept_kid o x (tree m d none) e f g =
    record {
      fit = (g.0, g.1);
      pure = λ i p. (p.1.0, p.1.1);
      ok = λ i p. (p.1.0, p.1.1);
      bones = added_same (sym (bone_pass o (skel_t (at m d) ⊕ none) e ∙ ⊕-none (skel_t (at m d))));
      base = sym (ease_blank o (fact (at m d) ∷ []) (pass_ease o e));
      live = λ p. (p.1.0, p.1.1);
    }
kept_kid o x (tree m d (tree n c r)) e f g = absurd (omega (arith, subst (λ (z : Arity). FitsA z (suc (suc (count (strip r))))) (pass_one o e) f))

pub kept_first : {a b h : Bool} (t : Tree) → passing (op_t t) ≡ true → FitT t → Keeps a b h t (kid0 t t.kids)
kept_first t e f = kept_kid (op_t t) t.top.mark t.kids e f.0 f.1

-- One node of kinds 5 to 8 for another, no sort, over rewritten children
pub kept_swap : {a b h : Bool} (o p : Op) (x y : Bool) (c d : Forest Marked) → passing o ≡ true → passing p ≡ true → is_sort p ≡ false
    → (b ≡ true → clear_op o ≡ true → clear_op p ≡ true) → (h ≡ true → node_ok o (map (λ F. F.width) (known d)) ≡ true → Ok (strip d)
    → node_ok p (map (λ F. F.width) (known d)) ≡ true) → FitsA (arity o) (count (strip c)) → KeepsAll a b h c d → Keeps a b h (node o x c) (node p y d)
kept_swap {a} o p x y c d i j n u g f k =
    record {
      fit = (
        subst (λ (q : Arity). FitsA q (count (strip d))) (pass_one o i ∙ sym (pass_one p j)) (subst (λ (n : ℕ). FitsA (arity o) n) (sym k.same) f),
        k.fit,
      );
      pure = λ e q. (u e q.0, k.pure e q.1);
      ok = λ e q. let v = k.ok e q.1 in
          (g e (subst (λ (ws : List ℕ). node_ok o ws ≡ true) (sym (blank_widths (known d) (known c) k.bases)) q.0) v, v);
      bones = subst (λ (s : Plan). Added a s (bone passing p (skel (strip d)))) (sym (bone_pass o (skel (strip c)) i))
          (subst (Added a (skel (strip c))) (sym (bone_pass p (skel (strip d)) j)) k.bones);
      base = ease_blank p (known d) (pass_ease p j) ∙ blank_at (known d) (known c) 0 k.bases ∙ sym (ease_blank o (known c) (pass_ease o i));
      live = λ q. (no_sort p (known d) n, k.live q.1);
    }

-- ---- one induction for the kinds that the walks treat apart
pub shape_ind : (P : Op → Type 0) → ((p : Bool) (ks : List Key) (f : Option ℕ) → P (sort_op p ks f)) → ((ks : List Key) (f : Option ℕ) → P (merge_op ks f))
    → ((p : Bool) (n : ℕ) (h : Bool) (ks : List Key) → P (repartition p n h ks)) → ((f : Option ℕ) → P (coalesce f)) → ((o : Op) → shape o ≡ another → P o)
    → (o : Op) → P o
shape_ind P s m r c q (source d) = q (source d) refl
shape_ind P s m r c q filter = q filter refl
shape_ind P s m r c q (projection cols) = q (projection cols) refl
shape_ind P s m r c q union = q union refl
shape_ind P s m r c q (repartition p n h ks) = r p n h ks
shape_ind P s m r c q (coalesce f) = c f
shape_ind P s m r c q (sort_op p ks f) = s p ks f
shape_ind P s m r c q (merge_op ks f) = m ks f
shape_ind P s m r c q (global_limit k f note) = q (global_limit k f note) refl
shape_ind P s m r c q (local_limit f note) = q (local_limit f note) refl
shape_ind P s m r c q (sort_merge_join t on) = q (sort_merge_join t on) refl
shape_ind P s m r c q (hash_join t on) = q (hash_join t on) refl
shape_ind P s m r c q (output_requirement ks d f) = q (output_requirement ks d f) refl
shape_ind P s m r c q (partial_sort p ks n f) = q (partial_sort p ks n f) refl
shape_ind P s m r c q (aggregate ks n) = q (aggregate ks n) refl

-- ---- fetches of a plan that cuts nothing off
pub op_fetch : (o : Op) → clear_op o ≡ true → is_all (cuts o).fetch ≡ true
op_fetch o e = search (and_left, and_right)

pub fetch_op_lem : (o : Op) (fs : List (Option ℕ)) → clear_op o ≡ true → All (λ f. is_all f ≡ true) fs → is_all (fetch_op o fs) ≡ true
fetch_op_lem o fs e h = go (eqb (code o) 3)
  where
    go : (b : Bool) → is_all (cond b (get_or fs 0 None) (cuts o).fetch) ≡ true
    go true = all_nth None refl h 0
    go false = op_fetch o e

pub pure-fetches : (f : Plan) → Pure f → All (λ x. is_all x ≡ true) (fetches f)
pure-fetches none p = all_nil
pure-fetches (tree o c r) p = all_cons (fetch_op_lem o (fetches c) p.0 (pure-fetches c p.1)) (pure-fetches r p.2)

pub pure_fetch : (t : Tree) → PureT t → is_all (fetch_t t) ≡ true
pure_fetch t p = fetch_op_lem (op_t t) (fetches (strip t.kids)) p.0 (pure-fetches (strip t.kids) p.1)

-- ---- a sort on top
pub uncut_fetch : (f : Option ℕ) → is_all f ≡ true → ((is_all f && true) && true) ≡ true
uncut_fetch f e = ap (λ (x : Bool). (x && true) && true) e

-- add_sort_above, over u
pub kept_sort_above : {a b h : Bool} {t u : Tree} (w : List Key) (f : Option ℕ) → (b ≡ true → PureT t → is_all f ≡ true)
    → (h ≡ true → OkT t → OkT u → KeysFit (fact u).width (fresh_keys (fact u) [] w) × (fetch_ok f ≡ true)) → Keeps a b h t u
    → Keeps a b h t (add_sort_above w f u)
kept_sort_above {a} {b} {h} {t} {u} w f q r k = go (fresh_keys (fact u) [] w) refl r
  where
    p : Bool
    p = ltb 1 (fact u).streams

    go : (ks : List Key) → fresh_keys (fact u) [] w ≡ ks → (h ≡ true → OkT t → OkT u → KeysFit (fact u).width ks × (fetch_ok f ≡ true))
        → Keeps a b h t (cover (new_sort p ks f) u)
    go [] e s = k
    go (j ∷ ks) e s =
        kept_over (sort_op p (j ∷ ks) f) false refl (λ i v. uncut_fetch f (q i v)) (λ i v x. let y = s i v x in
        sort_ok p j ks f ((fact u).width ∷ []) y.0 y.1 (refl, narrow_t u x))
        (fresh_alive (fact u) (fact-canon u).classes.const p f w j ks e) k

-- ---- marks first false
pub strip-bare : (f : Plan) → strip (bare f) ≡ f
strip-bare none = refl
strip-bare (tree o c r) = ap₂ (λ (x y : Plan). tree o x y) (strip-bare c) (strip-bare r)

-- A walk keeps what its step keeps
pub walk_kept : {a b h : Bool} (step : Tree → Tree) → ((t : Tree) → FitT t → Keeps a b h t (step t)) → (f : Plan) → Fit f
    → KeepsAll a b h (bare f) (transform_up step f)
walk_kept step g none f = all_kept_none
walk_kept {a} {b} {h} step g (tree o c r) f =
    let k : KeepsAll a b h (bare c) (transform_up step c) = walk_kept step g c f.1 in
    let fits : FitsA (arity o) (count (strip (bare c))) = subst (λ (x : Plan). FitsA (arity o) (count x)) (sym (strip-bare c)) f.0 in
    let here : Keeps a b h (node o false (bare c)) (rebuild o false (transform_up step c)) = kept_rebuild o false false (bare c) (transform_up step c) fits k in
    kept_plant (kept_trans here (g (rebuild o false (transform_up step c)) here.fit)) (walk_kept step g r f.2)
