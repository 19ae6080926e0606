-- What the trees in the slots keep while the arena grows.
use Rattle.std.specs.Prelude.{◌≡◌, false, ℕ, zero, suc, ◌+◌, ◌*◌, ◌≤◌, ◌<◌, length, get_or}
use Rattle.std.proofs.Math.Path.{refl, ap, ap₂}
use Rattle.std.proofs.Common.{sym, ◌∙◌, subst, arith}
use mathlib.Core.List.{List, [], ◌∷◌}
use Rattle.std.proofs.Math.Decide.{ℕ_discrete}
use Rattle.scan.specs.Parts.{part_same}
use Rattle.plan_codec.specs.Decode.{decode}
use Rattle.plan_codec.specs.Encode.{encode}
use Rattle.walks.specs.Trees.{OkT}
use Rattle.facts.specs.Known.{Says}
use Rattle.fact_slots.specs.Slots.{loaded}
use Rattle.walks.specs.Marks.{node, plant, set_mark, known, fact, size_t}
use Rattle.semantics.specs.Facts.{nothing}
use Rattle.arena.specs.Arena.{slot_size, kept_from, kept_size, Node, index, marked, slot, held, at as numbered, kept_part, Below, blank}
use Rattle.arena.specs.Laws.{at_new, at_old, below_at}
use Rattle.arena.specs.Held.{held_same, length-held}
use Rattle.plan_context.specs.View.{leaf, forest_by, trees, newest, tree_in, tree_of, forest, summary_in, Sums, most_nodes, ProperSlot, SettledSlot, Arena, Same, Here}

pub length-trees : (ns : List Node) → length (trees ns) ≡ length ns
unfolding trees
length-trees [] = refl
length-trees (n ∷ ns) = ap suc (length-trees ns)

pub at_trees : (m : List ℕ) (u i : ℕ) → i < u → numbered leaf (trees (held m u)) i ≡ tree_in m i
unfolding held trees tree_in
at_trees m zero i h = absurd (omega arith)
at_trees m (suc u) i h = go (ℕ_discrete i u) (at_trees m u i)
  where
    go : Dec (i ≡ u) → (i < u → numbered leaf (trees (held m u)) i ≡ tree_in m i) → numbered leaf (trees (held m (suc u))) i ≡ tree_in m i
    go (yes e) r = at_new leaf _ (trees (held m u)) i (e ∙ sym (length-trees (held m u) ∙ length-held m u)) ∙ ap (tree_in m) (sym e)
    go (no f) r = let l : i < u = omega arith in at_old leaf _ (trees (held m u)) i (let x = length-trees (held m u) ∙ length-held m u in omega arith) ∙ r l

forest_is : (m : List ℕ) (i : ℕ) (hs : List ℕ) → Below (2 * i) hs → forest_by (trees (held m i)) hs ≡ forest m hs
unfolding forest_by forest
forest_is m i [] b = refl
forest_is m i (h ∷ hs) b = let l = b.0 in ap₂ (λ t f. plant (set_mark (marked h) t) f) (at_trees m i (index h) (omega arith)) (forest_is m i hs b.1)

-- the tree in slot i
pub tree_in_lem : (m : List ℕ) (i : ℕ) → Below (2 * i) (slot m i).kids → tree_in m i ≡ node (decode (slot m i).rec) false (forest m (slot m i).kids)
unfolding tree_in trees held
tree_in_lem m i b = ap (node (decode (slot m i).rec) false) (forest_is m i (slot m i).kids b)

-- ---- the first slots stay

pub same_trans : (u v : ℕ) (a b c : List ℕ) → u ≤ v → Same u a b → Same v b c → Same u a c
same_trans u v a b c h x y = part_same 0 (v * slot_size) (u * slot_size) c b (omega arith) y ∙ x

abbrev pub first_of : List Node → Node
first_of [] = blank
first_of (n ∷ ns) = n

pub slot_held : (m m' : List ℕ) (i : ℕ) → held m' (suc i) ≡ held m (suc i) → slot m' i ≡ slot m i
unfolding held
slot_held m m' i e = ap first_of e

-- a slot with the same node and the same tree is as right
pub moved_proper : (m m' : List ℕ) (i : ℕ) → slot m' i ≡ slot m i → tree_in m' i ≡ tree_in m i → ProperSlot m i → ProperSlot m' i
moved_proper m m' i s t p = record {
  below = subst (λ n. Below (2 * i) n.kids) (sym s) p.below;
  canon = subst (λ n. n.rec ≡ encode (length n.kids) (decode n.rec)) (sym s) p.canon;
  ok = subst OkT (sym t) p.ok;
  few = subst (λ x. size_t x ≤ most_nodes) (sym t) p.few;
}

pub moved_holds : (m m' : List ℕ) (i : ℕ) → slot m' i ≡ slot m i → tree_in m' i ≡ tree_in m i → kept_part m' i ≡ kept_part m i → SettledSlot m i → SettledSlot m' i
moved_holds m m' i s t f p = record {
  proper = moved_proper m m' i s t p.proper;
  facts = subst (λ x. Says (fact x) (loaded (kept_part m' i))) (sym t) (subst (λ x. Says (fact (tree_in m i)) (loaded x)) (sym f) p.facts);
  summary = subst (λ x. Sums x (summary_in (kept_part m' i))) (sym t) (subst (λ x. Sums (tree_in m i) (summary_in x)) (sym f) p.summary);
}

module _ (u : ℕ) (m m' : List ℕ) (e : Same u m m') where
  pub slot_same : (i : ℕ) → i < u → slot m' i ≡ slot m i
  slot_same i h = slot_held m m' i (held_same m m' (suc i) u (omega arith) e)

  pub kept_same : (i : ℕ) → i < u → kept_part m' i ≡ kept_part m i
  kept_same i h = part_same (i * slot_size + kept_from) (u * slot_size) kept_size m' m (omega arith) e

  pub in_same : (i : ℕ) → i < u → tree_in m' i ≡ tree_in m i
  unfolding tree_in
  in_same i h = ap (λ ns. newest (trees ns)) (held_same m m' (suc i) u (omega arith) e)

  pub tree_same : (h : ℕ) → h < 2 * u → tree_of m' h ≡ tree_of m h
  tree_same h l = ap (set_mark (marked h)) (in_same (index h) (omega arith))

  pub forest_same : (hs : List ℕ) → Below (2 * u) hs → forest m' hs ≡ forest m hs
  unfolding forest
  forest_same [] b = refl
  forest_same (h ∷ hs) b = ap₂ plant (tree_same h b.0) (forest_same hs b.1)

  pub holds_same : (i : ℕ) → i < u → SettledSlot m i → SettledSlot m' i
  holds_same i h p = moved_holds m m' i (slot_same i h) (in_same i h) (kept_same i h) p

-- ---- handles of an arena

pub here : (m : List ℕ) (u h : ℕ) → Arena m u → h < 2 * u → Here m h
here m u h a l = let s = a.slots in record { slot = omega arith; holds = a.all (index h) (omega arith) }

pub theres : (m : List ℕ) (u : ℕ) (hs : List ℕ) → Arena m u → Below (2 * u) hs → (j : ℕ) → j < length hs → Here m (get_or hs j 0)
theres m u hs a b j l = here m u (get_or hs j 0) a (below_at (2 * u) hs j b l)

-- going back to fewer slots
pub fewer : (m : List ℕ) (u v : ℕ) → v ≤ u → Arena m u → Arena m v
fewer m u v l a = let s = a.slots in let k = a.small in record { slots = omega arith; small = omega arith; all = λ i h. a.all i (omega arith) }

-- ---- children by handles

pub facts_at : (m hs : List ℕ) (j : ℕ) → j < length hs → get_or (known (forest m hs)) j nothing ≡ fact (tree_of m (get_or hs j 0))
unfolding forest
facts_at m [] j h = absurd (omega arith)
facts_at m (k ∷ hs) zero h = refl
facts_at m (k ∷ hs) (suc j) h = facts_at m hs j (omega arith)

pub length_facts : (m hs : List ℕ) → length (known (forest m hs)) ≡ length hs
unfolding forest
length_facts m [] = refl
length_facts m (k ∷ hs) = ap suc (length_facts m hs)
