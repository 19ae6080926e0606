-- A loop that makes a node's children anew, one after the other, and collects their handles.
use Rattle.std.specs.Prelude.{◌≡◌, refl, List, [], ◌∷◌, ◌++◌, ℕ, ◌+◌, ◌*◌, ◌≤◌, ◌<◌, length, take, set}
use Rattle.std.proofs.Common.{sym, ap, ap₂, ◌∙◌, subst, arith, add-one, length-set, take-suc-set}
use Rattle.plan.specs.Forest.{Forest, none, tree}
use Rattle.walks.specs.Marks.{Marked, Tree, plant}
use Rattle.walks.specs.Terms.{◌⊕◌}
use Rattle.arena.specs.Arena.{Below}
use Rattle.arena.specs.declared.At.{At}
use Rattle.arena.specs.Laws.{below_more}
use Rattle.plan_context.specs.View.{tree_of, forest, Arena, Same, Grown}
use Rattle.plan_context.specs.Laws.{same_trans, forest_same}

-- The first j children are made: b₀ with v nodes has become b with w nodes, and the children's handles stand in kids
pub record Kids (b₀ : List ℕ) (v j w : ℕ) (kids b : List ℕ) : Type 0 where
  pub long : length b ≡ length b₀
  pub wide : length kids ≡ 8
  pub arena : Arena b w
  pub old : Same v b₀ b
  pub more : v ≤ w
  pub below : Below (2 * w) (take j kids)

pub kids_none : (b : List ℕ) (v : ℕ) (kids : List ℕ) → Arena b v → length kids ≡ 8 → Kids b v 0 v kids b
kids_none b v kids a l = record { long = refl; wide = l; arena = a; old = refl; more = omega arith; below = tt }

-- one more at the end
pub snoc : (b : List ℕ) (hs : List ℕ) (h : ℕ) (s : Forest Marked) → forest b (hs ++ (h ∷ [])) ⊕ s ≡ forest b hs ⊕ plant (tree_of b h) s
unfolding forest
snoc b [] h s = refl
snoc b (x ∷ hs) h s = ap (plant (tree_of b x)) (snoc b hs h s)

pub below-snoc : (n : ℕ) (hs : List ℕ) (h : ℕ) → Below n hs → h < n → Below n (hs ++ (h ∷ []))
below-snoc n [] h b l = (l, tt)
below-snoc n (x ∷ hs) h b l = (b.0, below-snoc n hs h b.1 l)

module _ (b₀ : List ℕ) (v j w : ℕ) (kids b : List ℕ) (p : Kids b₀ v j w kids b) (h : j < 8) (b' : List ℕ) (l : length b' ≡ length b) (r : At) (t : Tree)
    (top : ℕ) (g : Grown b w b' r t top) where
  taken : take (j + 1) (set kids j r.root) ≡ take j kids ++ (r.root ∷ [])
  taken = let x = p.wide in rw (add-one j) (take-suc-set kids j r.root (omega arith))

  pub kids_more : Kids b₀ v (j + 1) r.used (set kids j r.root) b'
  kids_more =
      let x = p.more in let y = g.more in
      record {
        long = l ∙ p.long;
        wide = length-set kids j r.root ∙ p.wide;
        arena = g.arena;
        old = same_trans v w b₀ b b' x p.old g.old;
        more = omega arith;
        below = subst (Below (2 * r.used)) (sym taken)
            (below-snoc (2 * r.used) (take j kids) r.root (below_more (take j kids) (omega arith) p.below) g.here);
      }

  -- its forest, before any siblings
  pub kids_forest : (s : Forest Marked) → forest b' (take (j + 1) (set kids j r.root)) ⊕ s ≡ forest b (take j kids) ⊕ plant t s
  kids_forest s =
      ap (λ hs. forest b' hs ⊕ s) taken ∙ snoc b' (take j kids) r.root s
      ∙ ap₂ (λ f u. f ⊕ plant u s) (forest_same w b b' g.old (take j kids) p.below) g.tree

pub plus_none : (f : Forest Marked) → f ⊕ none ≡ f
plus_none none = refl
plus_none (tree m c r) = ap (tree m c) (plus_none r)
