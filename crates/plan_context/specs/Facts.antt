-- Facts of a tree on a walk's way, as the code has them; a union's, folded from the last child to the first.
use Rattle.std.specs.Prelude.{◌≡◌, refl, true, List, [], ◌∷◌, ℕ, suc, ◌+◌, ◌*◌, ◌-◌, ◌≤◌, ◌<◌, length, get_or, drop}
use Rattle.std.proofs.Common.{sym, ap, ap₂, ◌∙◌, subst, arith, length-drop, drop_of_length-le, drop-cons}
use Rattle.row_order.specs.Lists.{all_nil, tab}
use Rattle.row_order.specs.ListLaws.{all_head}
use Rattle.plan.specs.Forest.{none, tree}
use Rattle.plan.specs.Op.{Plan}
use Rattle.plan.specs.WellFormed.{nodes_ok}
use Rattle.semantics.specs.Facts.{Facts, nothing, both, union_facts}
use Rattle.semantics.proofs.Theorems.Facts.Fits.{Fits, fits}
use Rattle.semantics.proofs.Theorems.Facts.StreamCounts.{streams_few}
use Rattle.walks.specs.Marks.{Tree, strip, known, op_t, fact, size_t}
use Rattle.walks.specs.Trees.{OkT}
use Rattle.walks.proofs.Theorems.Common.Trees.{ok_to, strip-size}
use Rattle.class_tables.specs.Filling.{alone_filled}
use Rattle.facts.specs.Saying.{says-unknown}
use Rattle.facts.specs.declared.Facts.{Facts as Coded}
use Rattle.facts.specs.Known.{known as told, Coherent, Says}
use Rattle.fact_slots.specs.Slots.{loaded}
use Rattle.asked_facts.specs.Asked.{FactRow}
use Rattle.arena.specs.Arena.{kept_size, index, kept_part}
use Rattle.arena.specs.Keeping.{kept_long}
use Rattle.plan_context.specs.View.{tree_of, forest, most_nodes, Here}
use Rattle.plan_context.specs.Laws.{facts_at, length_facts}

-- 64 streams a node at most
abbrev pub most_streams : ℕ
most_streams = 65472

pub record Usable (f : Coded) : Type 0 where
  pub fine : Coherent f
  pub fits : Fits (told f)
  pub few : f.streams ≤ most_streams

-- They are those of the tree t
pub record Shows (t : Tree) (f : Coded) : Type 0 where
  pub usable : Usable f
  pub is : told f ≡ fact t

-- They are those of child j, if there is one
pub record Child (fs : List Facts) (j : ℕ) (f : Coded) : Type 0 where
  pub usable : Usable f
  pub is : j < length fs → told f ≡ get_or fs j nothing

abbrev plan_t : Tree → Plan
plan_t t = tree (op_t t) (strip t.kids) none

pub ok_plan : (t : Tree) → OkT t → nodes_ok (tree (op_t t) (strip t.kids) none) ≡ true
ok_plan t h = ok_to (plan_t t) (h.0, h.1, tt)

pub usable_of : (t : Tree) → OkT t → size_t t ≤ most_nodes → (f : Coded) → Says (fact t) f → Usable f
usable_of t h l f s =
    let n = ok_plan t h in
    let few = streams_few (plan_t t) n in
    let z = strip-size t.kids in
    let e : f.streams ≡ (fact t).streams = ap (λ F. F.streams) s.is in
    record { fine = s.fine; fits = subst Fits (sym s.is) (all_head (fits (plan_t t) n)); few = omega arith }

pub nothing-usable : (f : Coded) → Says nothing f → Usable f
nothing-usable f s = let e = ap (λ F. F.streams) s.is in record { fine = s.fine; fits = subst Fits (sym s.is) all_nil; few = omega arith }

-- some facts of nothing
pub coded_nothing : (z : Coded) × Says nothing z
coded_nothing = (_, says-unknown 0 (tab 32 (λ c. c)) (record { word = 0; len = 0 }) (omega arith) alone_filled (record { is = refl; few = omega arith }))

-- what the slot of a handle shows
pub shows : (m : List ℕ) (h : ℕ) → Here m h → (f : Coded) → f ≡ loaded (kept_part m (index h)) → Shows (tree_of m h) f
shows m h x f e =
    let y = x.holds in
    let s : Says (fact (tree_of m h)) f = subst (λ g. Says (fact (tree_of m h)) g) (sym e) y.facts in
    record { usable = usable_of (tree_of m h) y.proper.ok y.proper.few f s; is = s.is }

-- The bytes b hold the facts of the tree t
pub record Tells (t : Tree) (b : List ℕ) : Type 0 where
  pub long : length b ≡ kept_size
  pub row : FactRow b
  pub is : told (loaded b) ≡ fact t
  pub usable : Usable (loaded b)

pub tells : (m : List ℕ) (h : ℕ) → Here m h → (b : List ℕ) → b ≡ kept_part m (index h) → Tells (tree_of m h) b
tells m h x b e =
    let s = shows m h x (loaded b) (ap loaded e) in
    let l : length b ≡ kept_size = ap length e ∙ kept_long m (index h) x.slot in
    record { long = l; row = record { long = omega arith; fine = s.usable.fine }; is = s.is; usable = s.usable }

pub child_is : (m ks : List ℕ) (j : ℕ) → j < length ks → (f : Coded) → Shows (tree_of m (get_or ks j 0)) f → Child (known (forest m ks)) j f
child_is m ks j h f s = record { usable = s.usable; is = λ l. s.is ∙ sym (facts_at m ks j h) }

pub no_child : (m ks : List ℕ) (j : ℕ) (f : Coded) → length ks ≤ j → Usable f → Child (known (forest m ks)) j f
no_child m ks j f h g = record { usable = g; is = λ l. absurd (omega (arith, length_facts m ks)) }

-- ---- a union's

pub record United (fs : List Facts) (j : ℕ) (f : Coded) : Type 0 where
  pub low : j < length fs
  pub says : Says (union_facts (drop j fs)) f
  pub few : f.streams + most_streams * j ≤ most_streams * length fs

pub united_last : (fs : List Facts) (n : ℕ) (f : Coded) → n ≡ length fs → 0 < n → Child fs (n - 1) f → United fs (n - 1) f
united_last fs n f q h c =
    let d : drop (suc (n - 1)) fs ≡ [] = drop_of_length-le fs {i = suc (n - 1)} (omega arith) in
    let e : drop (n - 1) fs ≡ get_or fs (n - 1) nothing ∷ [] = drop-cons fs (n - 1) nothing (omega arith) ∙ ap (λ l. get_or fs (n - 1) nothing ∷ l) d in
    let w = c.usable.few in
    record { low = omega arith; says = record { is = c.is (omega arith) ∙ ap union_facts (sym e); fine = c.usable.fine }; few = omega arith }

-- two facts before others
fold : (F : Facts) (l : List Facts) → 0 < length l → union_facts (F ∷ l) ≡ both F (union_facts l)
fold F [] h = absurd (omega arith)
fold F (G ∷ l) h = refl

module _ (fs : List Facts) (j : ℕ) (f a : Coded) (z : 0 < j) (c : Child fs (j - 1) a) (p : United fs j f) where
  pub united_fits : length fs ≤ 8 → a.streams + f.streams ≤ 1000000
  united_fits h = let x = p.few in let y = c.usable.few in let l = p.low in omega arith

  pub united_more : (g : Coded) → Says (both (told a) (told f)) g → United fs (j - 1) g
  united_more g s =
      let l = p.low in let x = p.few in let y = c.usable.few in
      let k : suc (j - 1) ≡ j = omega arith in
      let d : drop (j - 1) fs ≡ get_or fs (j - 1) nothing ∷ drop j fs = drop-cons fs (j - 1) nothing (omega arith)
      ∙ ap (λ n. get_or fs (j - 1) nothing ∷ drop n fs) k in
      let e : both (told a) (told f) ≡ union_facts (drop (j - 1) fs) = ap₂ both (c.is (omega arith)) p.says.is
      ∙ sym (fold (get_or fs (j - 1) nothing) (drop j fs) (omega (arith, length-drop j fs))) ∙ ap union_facts (sym d) in
      let n : g.streams ≡ a.streams + f.streams = ap (λ F. F.streams) s.is in
      record { low = omega arith; says = subst (λ F. Says F g) e s; few = omega arith }

pub united_all : (fs : List Facts) (j : ℕ) (f : Coded) → j ≤ 0 → United fs j f → Says (union_facts fs) f
united_all fs j f h p = let e : j ≡ 0 = omega arith in subst (λ n. Says (union_facts (drop n fs)) f) e p.says
