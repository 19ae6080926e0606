-- A loop over the children of the node at the handle h that makes them anew, one after the other (Kids): what it reads of the node stays while the
-- arena grows. Nothing is said of what becomes of a child.
use Rattle.std.specs.Prelude.{◌≡◌, List, [], ℕ, suc, ◌+◌, ◌*◌, ◌≤◌, ◌<◌, length, get_or, take, drop}
use Rattle.std.proofs.Common.{sym, ap, ◌∙◌, subst, arith, drop_of_length-le, drop-cons, length-take-le}
use Rattle.plan.specs.Forest.{Forest, none, size}
use Rattle.plan_format.specs.Record.{children}
use Rattle.walks.specs.Marks.{Marked, plant, size_t}
use Rattle.walks.specs.Terms.{◌⊕◌}
use Rattle.arena.specs.Arena.{slot_size, index, slot, Below}
use Rattle.arena.specs.Laws.{below_at, below_more}
use Rattle.plan_context.specs.View.{tree_of, forest, Arena}
use Rattle.plan_context.specs.Laws.{slot_same, tree_same, forest_same, fewer}
use Rattle.plan_context.specs.Nodes.{Seen, seen}
use Rattle.plan_updates.specs.Kids.{Kids, plus_none}

-- ---- the children from number j on

pub drop_next : (m ks : List ℕ) (j : ℕ) → j < length ks → forest m (drop j ks) ≡ plant (tree_of m (get_or ks j 0)) (forest m (drop (suc j) ks))
unfolding forest
drop_next m ks j l = ap (forest m) (drop-cons ks j 0 l)

-- after the last one there is nothing more to come: `rest` is what the children from number j on become
pub no_more : (m ks b ds : List ℕ) (j : ℕ) (rest : Forest Marked → Forest Marked) (f : Forest Marked) → length ks ≤ j → rest none ≡ none
    → forest b ds ⊕ rest (forest m (drop j ks)) ≡ f → forest b ds ≡ f
unfolding forest
no_more m ks b ds j rest f l z e =
    let d : drop j ks ≡ [] = drop_of_length-le ks {i = j} l in
    sym (plus_none (forest b ds)) ∙ ap (λ x. forest b ds ⊕ x) (sym (ap (λ x. rest (forest m x)) d ∙ z)) ∙ e

-- ---- the node

module _ {b₀ : List ℕ} {u h : ℕ} (a : Arena b₀ u) (l : h < 2 * u) where
  pub half : index h < u
  half = omega arith

  pub up_to : Arena b₀ (index h + 1)
  up_to = fewer b₀ u (index h + 1) (omega arith) a

  pub view : Seen b₀ (index h)
  view = seen b₀ (index h) (a.all (index h) half).proper

  pub whole : size_t (tree_of b₀ h) ≡ suc (size (forest b₀ (slot b₀ (index h)).kids))
  whole = ap size_t view.tree

  -- the first j children are done: the node is still there
  module _ {j w : ℕ} {kids b : List ℕ} (q : Kids b₀ u j w kids b) where
    pub same_slot : slot b (index h) ≡ slot b₀ (index h)
    same_slot = slot_same u b₀ b q.old (index h) half

    pub same_tree : tree_of b h ≡ tree_of b₀ h
    same_tree = tree_same u b₀ b q.old h l

    pub same_kids : forest b (slot b (index h)).kids ≡ forest b₀ (slot b₀ (index h)).kids
    same_kids =
        ap (λ x. forest b x.kids) same_slot
        ∙ forest_same u b₀ b q.old (slot b₀ (index h)).kids (below_more (slot b₀ (index h)).kids (omega arith) view.below)

    pub node_room : (index h + 1) * slot_size ≤ length b
    node_room = let x = q.long in let s = a.slots in omega arith

    pub node_arena : Arena b (index h + 1)
    node_arena = let x = q.more in fewer b w (index h + 1) (omega arith) q.arena

    pub few_kids : (children (slot b (index h)).rec ≤ 8) × (children (slot b (index h)).rec ≡ length (slot b₀ (index h)).kids)
    few_kids = let x = view.few in let y = view.count in let z = ap (λ n. children n.rec) same_slot in (omega arith, omega arith)

    -- the next child
    module _ (i : j < length (slot b₀ (index h)).kids) where
      pub kid_there : j < length (slot b (index h)).kids
      kid_there = let z = ap (λ n. length n.kids) same_slot in omega arith

      module _ {k : ℕ} (e : k ≡ get_or (slot b (index h)).kids j 0) where
        kid : k ≡ get_or (slot b₀ (index h)).kids j 0
        kid = e ∙ ap (λ n. get_or n.kids j 0) same_slot

        pub kid_below : k < 2 * u
        kid_below = let x = below_at (2 * index h) (slot b₀ (index h)).kids j view.below i in let y = kid in omega arith

        pub kid_same : tree_of b k ≡ tree_of b₀ (get_or (slot b₀ (index h)).kids j 0)
        kid_same = tree_same u b₀ b q.old k kid_below ∙ ap (tree_of b₀) kid

        pub split : forest b₀ (drop j (slot b₀ (index h)).kids) ≡ plant (tree_of b k) (forest b₀ (drop (suc j) (slot b₀ (index h)).kids))
        split =
            drop_next b₀ (slot b₀ (index h)).kids j i
            ∙ ap (λ t. plant t (forest b₀ (drop (suc j) (slot b₀ (index h)).kids))) (sym kid_same)

    -- all children are done
    module _ {n : ℕ} (e : n ≡ j) (c : n ≡ length (slot b₀ (index h)).kids) where
      pub counted : length (take n kids) ≡ length (slot b₀ (index h)).kids
      counted = let y = view.few in let z = q.wide in length-take-le n kids (omega arith) ∙ c

      pub new_below : Below (2 * w) (take n kids)
      new_below = subst (λ i. Below (2 * w) (take i kids)) (sym e) q.below

      pub new_kids : (rest : Forest Marked → Forest Marked) (f : Forest Marked) → rest none ≡ none
          → forest b (take j kids) ⊕ rest (forest b₀ (drop j (slot b₀ (index h)).kids)) ≡ f → forest b (take n kids) ≡ f
      new_kids rest f z d = ap (λ i. forest b (take i kids)) e ∙ no_more b₀ (slot b₀ (index h)).kids b (take j kids) j rest f (omega arith) z d
