-- What a sort or a merge has, and when it is rebuilt.
use Rattle.std.specs.Prelude.{◌≡◌, refl, Bool, true, false, cond, not, ◌&&◌, ◌||◌, List, [], ◌∷◌, ℕ, ◌≤◌, eqb, leb, ltb, length, get_or, Option}
use Rattle.std.proofs.Common.{sym, ap, ap₂, ◌∙◌, subst, arith, ltb-true, ltb-false, le-leb}
use Rattle.std.proofs.lemmas.Bool.{lt-leb}
use Rattle.row_order.specs.Iso.{Key}
use Rattle.row_order.proofs.Order.{no_bool}
use Rattle.plan.specs.Forest.{Forest, none}
use Rattle.plan.specs.Op.{Op, source, filter, projection, union, repartition, coalesce, sort_op, merge_op, global_limit, local_limit, sort_merge_join, hash_join, output_requirement, partial_sort, aggregate}
use Rattle.plan.specs.Numbers.{code, kind_of}
use Rattle.plan.specs.WellFormed.{fetch_ok, keys_fit, node_ok}
use Rattle.plan.specs.declared.Kind.{Kind}
use Rattle.plan.specs.declared.Kind.TheVariants.{Source, Filter, Projection, Union, Repartition, Coalesce, Sort, Merge, GlobalLimit, LocalLimit, SortMergeJoin, HashJoin, OutputRequirement, PartialSort, Aggregate}
use Rattle.plan_codec.specs.Decode.{decode, from_bytes, operator_of}
use Rattle.semantics.specs.Facts.{Facts, facts_op, sort_streams}
use Rattle.semantics.specs.Properties.{cuts}
use Rattle.semantics.proofs.Theorems.Common.Bools.{and_left, and_right}
use Rattle.key_lists.specs.Keys.{keys_of, Keyed}
use Rattle.record_fields.specs.Kinds.{op_of, code-kind}
use Rattle.walks.specs.Marks.{Marked, Tree, fact, node, over, plant, Shape, a_sort, a_merge, a_repartition, a_coalesce, another, shape}
use Rattle.walks.specs.Utils.{is_sort, is_sort_preserving_merge, is_coalesce_partitions, add_sort_above_with_check}
use Rattle.walks.specs.Terms.{passing}
use Rattle.walks.proofs.Theorems.Common.Keys.{KeysFit, keys_of_lem}
use Rattle.walks.specs.ParallelizeSorts.{cascade, without_self, parallel_by}
use Rattle.parallelize_sorts.specs.declared.SortExprs.{SortExprs}
use Rattle.bottleneck_removal.specs.Removing.{without_self_by}

-- They are those that parallel_by hands to cascade, as written (reading 7)
abbrev pub Exprs : Shape → SortExprs → Type 0
Exprs (a_sort p ks f) s = Keyed ks s.keys × (s.fetch ≡ f)
Exprs (a_merge ks f) s = Keyed ks s.keys × (s.fetch ≡ f)
Exprs (a_repartition p n h ks) s = Unit {0}
Exprs (a_coalesce f) s = Unit {0}
Exprs another s = Unit {0}

-- A sort or a merge that gives one stream over a child with facts F
abbrev pub cascades : Op → Facts → Bool
cascades o F = (is_sort o || is_sort_preserving_merge o) && leb (facts_op o (F ∷ [])).streams 1

-- ---- the record's

pub exprs_are : (r : List ℕ) (s : SortExprs) → Keyed (from_bytes r).keys s.keys → s.fetch ≡ (from_bytes r).fetch → Exprs (shape (decode r)) s
exprs_are r s k f = subst (λ o. Exprs (shape o) s) (sym (op_of r (kind_of (get_or r 0 0)) refl)) (go (kind_of (get_or r 0 0)))
  where
    go : (x : Kind) → Exprs (shape (operator_of x (from_bytes r))) s
    go Source = tt
    go Filter = tt
    go Projection = tt
    go Union = tt
    go Repartition = tt
    go Coalesce = tt
    go Sort = (k, f)
    go Merge = (k, f)
    go GlobalLimit = tt
    go LocalLimit = tt
    go SortMergeJoin = tt
    go HashJoin = tt
    go OutputRequirement = tt
    go PartialSort = tt
    go Aggregate = tt

module _ (r : List ℕ) (F : Facts) where
  pub merge-cascades : eqb (code (decode r)) 8 ≡ true → true ≡ cascades (decode r) F
  merge-cascades e = sym (ap (λ o. cascades o F) (op_of r Merge (code-kind r Merge e)))

  pub no_cascade : eqb (code (decode r)) 8 ≡ false → eqb (code (decode r)) 7 ≡ false → false ≡ cascades (decode r) F
  no_cascade e f = sym (ap₂ (λ x y. (x || y) && leb (facts_op (decode r) (F ∷ [])).streams 1) f e)

  pub sort-cascades : eqb (code (decode r)) 7 ≡ true → (p : Bool) → p ≡ (from_bytes r).preserve → (q : Bool) → q ≡ ltb 1 F.streams
      → not (p && q) ≡ cascades (decode r) F
  sort-cascades e p hp q hq = ap₂ (λ x y. not (x && y)) hp hq ∙ one (from_bytes r).preserve
      ∙ sym (ap (λ o. cascades o F) (op_of r Sort (code-kind r Sort e)))
    where
      few : (x : Bool) → ltb 1 F.streams ≡ x → not x ≡ leb F.streams 1
      few true h = sym (lt-leb F.streams 1 (ltb-true 1 F.streams h))
      few false h = sym (le-leb F.streams 1 (ltb-false 1 F.streams h))

      one : (x : Bool) → not (x && ltb 1 F.streams) ≡ leb (sort_streams x F) 1
      one true = few (ltb 1 F.streams) refl
      one false = refl

-- ---- the rewrites, by the kind

-- A kind that is neither sort, merge nor coalesce stays
pub record Plain (o : Op) : Type 0 where
  pub sort : is_sort o ≡ false
  pub merge : is_sort_preserving_merge o ≡ false
  pub coalesce : is_coalesce_partitions o ≡ false
  pub stays : (t : Tree) → parallel_by (shape o) t ≡ t

by_kind : (P : Op → Type 0) → ((p : Bool) (ks : List Key) (f : Option ℕ) → P (sort_op p ks f)) → ((ks : List Key) (f : Option ℕ) → P (merge_op ks f))
    → ((f : Option ℕ) → P (coalesce f)) → ((o : Op) → Plain o → P o) → (o : Op) → P o
by_kind P s m c q (source d) = q (source d) (record { sort = refl; merge = refl; coalesce = refl; stays = λ t. refl })
by_kind P s m c q filter = q filter (record { sort = refl; merge = refl; coalesce = refl; stays = λ t. refl })
by_kind P s m c q (projection cols) = q (projection cols) (record { sort = refl; merge = refl; coalesce = refl; stays = λ t. refl })
by_kind P s m c q union = q union (record { sort = refl; merge = refl; coalesce = refl; stays = λ t. refl })
by_kind P s m c q (repartition p n h ks) = q (repartition p n h ks) (record { sort = refl; merge = refl; coalesce = refl; stays = λ t. refl })
by_kind P s m c q (coalesce f) = c f
by_kind P s m c q (sort_op p ks f) = s p ks f
by_kind P s m c q (merge_op ks f) = m ks f
by_kind P s m c q (global_limit k f note) = q (global_limit k f note) (record { sort = refl; merge = refl; coalesce = refl; stays = λ t. refl })
by_kind P s m c q (local_limit f note) = q (local_limit f note) (record { sort = refl; merge = refl; coalesce = refl; stays = λ t. refl })
by_kind P s m c q (sort_merge_join t on) = q (sort_merge_join t on) (record { sort = refl; merge = refl; coalesce = refl; stays = λ t. refl })
by_kind P s m c q (hash_join t on) = q (hash_join t on) (record { sort = refl; merge = refl; coalesce = refl; stays = λ t. refl })
by_kind P s m c q (output_requirement ks d f) = q (output_requirement ks d f) (record { sort = refl; merge = refl; coalesce = refl; stays = λ t. refl })
by_kind P s m c q (partial_sort p ks n f) = q (partial_sort p ks n f) (record { sort = refl; merge = refl; coalesce = refl; stays = λ t. refl })
by_kind P s m c q (aggregate ks n) = q (aggregate ks n) (record { sort = refl; merge = refl; coalesce = refl; stays = λ t. refl })

-- A sort or a merge over t that is rebuilt; w: a width
pub record Cascaded (o : Op) (s : SortExprs) (w : ℕ) (t : Tree) : Type 0 where
  pub pass : passing o ≡ true
  pub few : s.keys.len ≤ 8
  pub merge : node_ok (merge_op (keys_of s.keys) s.fetch) (w ∷ []) ≡ true
  pub is : (x : Bool) → parallel_by (shape o) (over o x t) ≡ over (merge_op (keys_of s.keys) s.fetch) false
      (add_sort_above_with_check (keys_of s.keys) s.fetch (without_self (over o x t)))

pub cascaded : (o : Op) (s : SortExprs) (w : ℕ) (t : Tree) → Exprs (shape o) s → node_ok o (w ∷ []) ≡ true → cascades o (fact t) ≡ true → Cascaded o s w t
cascaded o s w t =
    by_kind (λ p. Exprs (shape p) s → node_ok p (w ∷ []) ≡ true → cascades p (fact t) ≡ true → Cascaded p s w t)
    (λ p ks f x k c.
    record {
      pass = refl;
      few = x.0.few;
      merge = ap₂ (λ l g. node_ok (merge_op l g) (w ∷ [])) x.0.is x.1 ∙ k;
      is = λ y. ap (λ b. cond b (over (merge_op ks f) false (add_sort_above_with_check ks f (without_self (over (sort_op p ks f) y t))))
          (over (sort_op p ks f) y t)) c
          ∙ ap₂ (λ l g. over (merge_op l g) false (add_sort_above_with_check l g (without_self (over (sort_op p ks f) y t)))) (sym x.0.is) (sym x.1);
    })
    (λ ks f x k c.
    record {
      pass = refl;
      few = x.0.few;
      merge = ap₂ (λ l g. node_ok (merge_op l g) (w ∷ [])) x.0.is x.1 ∙ k;
      is = λ y. ap₂ (λ l g. over (merge_op l g) false (add_sort_above_with_check l g (without_self (over (merge_op ks f) y t)))) (sym x.0.is) (sym x.1);
    })
    (λ f x k c. no_bool c)
    (λ p e x k c. no_bool (sym (ap₂ (λ a b. (a || b) && leb (facts_op p (fact t ∷ [])).streams 1) e.sort e.merge) ∙ c))
    o

-- its keys, over a child of width w
pub merge_keys : (w : ℕ) (ks : List Key) (f : Option ℕ) → node_ok (merge_op ks f) (w ∷ []) ≡ true → KeysFit w ks × (fetch_ok f ≡ true)
merge_keys w ks f e =
    let n : leb (length ks) 8 ≡ true = search (and_left, and_right) in
    let m : keys_fit w ks ≡ true = search (and_left, and_right) in
    (keys_of_lem w ks (ap₂ ◌&&◌ (ap₂ ◌&&◌ (le-leb 0 (length ks) (omega arith)) n) m), search (and_left, and_right))

-- A coalesce over t
pub record Coalesced (o : Op) (t : Tree) : Type 0 where
  pub pass : passing o ≡ true
  pub is : (x : Bool) → parallel_by (shape o) (over o x t) ≡ over (coalesce (cuts o).fetch) false (without_self (over o x t))

pub coalesced : (o : Op) (t : Tree) → is_coalesce_partitions o ≡ true → Coalesced o t
coalesced o t =
    by_kind (λ p. is_coalesce_partitions p ≡ true → Coalesced p t)
    (λ p ks f c. no_bool c)
    (λ ks f c. no_bool c)
    (λ f c. record { pass = refl; is = λ x. refl })
    (λ p e c. no_bool (sym e.coalesce ∙ c))
    o

-- Anything else stays. c: its children, t where it has one only
pub stays_else : (o : Op) (x : Bool) (c : Forest Marked) (t : Tree) → (passing o ≡ true → c ≡ plant t none) → cascades o (fact t) ≡ false
    → is_coalesce_partitions o ≡ false → parallel_by (shape o) (node o x c) ≡ node o x c
stays_else o x c t =
    by_kind (λ p. (passing p ≡ true → c ≡ plant t none) → cascades p (fact t) ≡ false → is_coalesce_partitions p ≡ false
    → parallel_by (shape p) (node p x c) ≡ node p x c)
    (λ p ks f h e d. subst (λ g. cascade ks f (node (sort_op p ks f) x g) ≡ node (sort_op p ks f) x g) (sym (h refl))
    (ap (λ b. cond b (over (merge_op ks f) false (add_sort_above_with_check ks f (without_self (over (sort_op p ks f) x t)))) (over (sort_op p ks f) x t)) e))
    (λ ks f h e d. no_bool (sym e))
    (λ f h e d. no_bool (sym d))
    (λ p k h e d. k.stays (node p x c))
    o

-- ---- the mark of what is rebuilt does not matter

same_without_self : (o : Op) (x : Bool) (t : Tree) → without_self (over o x t) ≡ without_self (over o false t)
same_without_self o x t = without_self_by o x t ∙ sym (without_self_by o false t)

pub cascades_alike : (o : Op) (x : Bool) (t : Tree) → cascades o (fact t) ≡ true → parallel_by (shape o) (over o false t) ≡ parallel_by (shape o) (over o x t)
cascades_alike o x t =
    by_kind (λ p. cascades p (fact t) ≡ true → parallel_by (shape p) (over p false t) ≡ parallel_by (shape p) (over p x t))
    (λ p ks f c.
    ap (λ b. cond b (over (merge_op ks f) false (add_sort_above_with_check ks f (without_self (over (sort_op p ks f) false t)))) (over (sort_op p ks f) false t)) c
    ∙ ap (λ v. over (merge_op ks f) false (add_sort_above_with_check ks f v)) (sym (same_without_self (sort_op p ks f) x t))
    ∙ sym (ap (λ b. cond b (over (merge_op ks f) false (add_sort_above_with_check ks f (without_self (over (sort_op p ks f) x t)))) (over (sort_op p ks f) x t)) c))
    (λ ks f c. ap (λ v. over (merge_op ks f) false (add_sort_above_with_check ks f v)) (sym (same_without_self (merge_op ks f) x t)))
    (λ f c. no_bool c)
    (λ p e c. no_bool (sym (ap₂ (λ a b. (a || b) && leb (facts_op p (fact t ∷ [])).streams 1) e.sort e.merge) ∙ c))
    o

pub coalesced_alike : (o : Op) (x : Bool) (t : Tree) → is_coalesce_partitions o ≡ true → parallel_by (shape o) (over o false t) ≡ parallel_by (shape o)
    (over o x t)
coalesced_alike o x t c = let k = coalesced o t c in k.is false ∙ ap (over (coalesce (cuts o).fetch) false) (sym (same_without_self o x t))
    ∙ sym (k.is x)

-- ---- what is rebuilt has one child

pub cascades-pass : (o : Op) (F : Facts) → cascades o F ≡ true → passing o ≡ true
cascades-pass o F =
    by_kind (λ p. cascades p F ≡ true → passing p ≡ true)
    (λ p ks f c. refl)
    (λ ks f c. refl)
    (λ f c. no_bool c)
    (λ p e c. no_bool (sym (ap₂ (λ a b. (a || b) && leb (facts_op p (F ∷ [])).streams 1) e.sort e.merge) ∙ c))
    o
