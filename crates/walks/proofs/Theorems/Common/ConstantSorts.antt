-- Sorts whose keys are all constant, refusal 25's: whether a node is one is settled by the constants and classes of its child alone, and a new
-- sort never is one.
use Rattle.std.specs.Prelude.{◌≡◌, refl, Bool, true, false, cond, ◌&&◌, ◌||◌, List, [], ◌∷◌, map, ℕ, Option}
use Rattle.std.proofs.Common.{sym, ap, ◌∙◌}
use Rattle.row_order.specs.Iso.{Key}
use Rattle.row_order.proofs.Order.{no_bool}
use Rattle.row_order.specs.ListLaws.{all_head}
use Rattle.plan.specs.Forest.{none, tree}
use Rattle.plan.specs.Op.{coalesce, filter, global_limit, hash_join, local_limit, merge_op, Op, output_requirement, partial_sort, aggregate, projection, repartition, sort_merge_join, sort_op, source, union}
use Rattle.plan.specs.WellFormed.{member}
use Rattle.semantics.specs.Facts.{cl, Facts, facts_op, is_c, is_nil, known_order, nf, with_column}
use Rattle.semantics.specs.Properties.{fresh_keys}
use Rattle.semantics.specs.Canonical.{Canon}
use Rattle.semantics.proofs.Theorems.Common.Bools.{or_false}
use Rattle.semantics.proofs.Theorems.Canonical.EveryNode.{canon}
use Rattle.walks.specs.Marks.{fact, op_t, strip, Tree}
use Rattle.walks.specs.Utils.{is_sort}
use Rattle.walks.specs.Terms.{blank}
use Rattle.walks.proofs.Theorems.Common.Base.{blank_at}

-- constant_sort, by the facts of the children
abbrev pub constant_over : Op → List Facts → Bool
constant_over o fs = is_sort o && is_nil (known_order (facts_op o fs))

-- A node over a child with the facts F is no such sort
abbrev pub Alive : Facts → Op → Type 0
Alive F o = constant_over o (F ∷ []) ≡ false

pub no_sort : (o : Op) (fs : List Facts) → is_sort o ≡ false → constant_over o fs ≡ false
no_sort o fs e = ap (λ (b : Bool). b && is_nil (known_order (facts_op o fs))) e

pub constant_blank : (o : Op) (fs gs : List Facts) → map blank fs ≡ map blank gs → constant_over o fs ≡ constant_over o gs
constant_blank (source s) fs gs e = refl
constant_blank filter fs gs e = refl
constant_blank (projection cols) fs gs e = refl
constant_blank union fs gs e = refl
constant_blank (repartition p n h ks) fs gs e = refl
constant_blank (coalesce f) fs gs e = refl
constant_blank (sort_op p ks f) fs gs e = ap (λ (B : Facts). is_nil (nf B [] ks)) (blank_at fs gs 0 e)
constant_blank (merge_op ks f) fs gs e = refl
constant_blank (global_limit s f note) fs gs e = refl
constant_blank (local_limit f note) fs gs e = refl
constant_blank (sort_merge_join t on) fs gs e = refl
constant_blank (hash_join t on) fs gs e = refl
constant_blank (output_requirement ks d f) fs gs e = refl
constant_blank (partial_sort p ks n f) fs gs e = refl
constant_blank (aggregate ks n) fs gs e = refl

pub alive_blank : (F G : Facts) (o : Op) → blank F ≡ blank G → Alive F o → Alive G o
alive_blank F G o e h = constant_blank o (G ∷ []) (F ∷ []) (ap (λ (B : Facts). B ∷ []) (sym e)) ∙ h

-- ---- the keys of a new sort
first_fresh : (F : Facts) (seen : List ℕ) (ks : List Key) (k : Key) (rest : List Key) → fresh_keys F seen ks ≡ k ∷ rest → is_c F k.col ≡ false
first_fresh F seen [] k rest e = no_bool (sym (ap is_nil e))
first_fresh F seen (j ∷ ks) k rest e = go (is_c F j.col || member j.col seen) refl (λ h. first_fresh F seen ks k rest h) e
  where
    head_or : Key → List Key → Key
    head_or d [] = d
    head_or d (x ∷ l) = x

    go : (b : Bool) → (is_c F j.col || member j.col seen) ≡ b → (fresh_keys F seen ks ≡ k ∷ rest → is_c F k.col ≡ false) →
        cond b (fresh_keys F seen ks) (j ∷ fresh_keys F (j.col ∷ seen) ks) ≡ k ∷ rest → is_c F k.col ≡ false
    go true q ih h = ih h
    go false q ih h = ap (λ (x : Key). is_c F x.col) (sym (ap (head_or j) h)) ∙ (or_false (is_c F j.col) (member j.col seen) q).0

-- "A class that holds a constant is all constant": so says Classes
abbrev pub WholeClasses : Facts → Type 0
WholeClasses F = (c : ℕ) → is_c F (cl F c) ≡ is_c F c

pub fresh_alive : (F : Facts) → WholeClasses F → (p : Bool) (f : Option ℕ) (ks : List Key) (k : Key) (rest : List Key) → fresh_keys F [] ks ≡ k ∷ rest →
    Alive F (sort_op p (k ∷ rest) f)
fresh_alive F h p f ks k rest e =
    ap (λ (b : Bool). is_nil (cond (b || false) (nf F [] rest) (with_column (cl F k.col) k ∷ nf F (cl F k.col ∷ []) rest)))
    (h k.col ∙ first_fresh F [] ks k rest e)

-- A tree's facts are held in one way only
pub fact-canon : (t : Tree) → Canon (fact t)
fact-canon t = all_head (canon (tree (op_t t) (strip t.kids) none))
