-- What a stepping needs of a plan: child counts, a repartition's streams, no joins. Every plan without joins has it: `formed`.
use Rattle.std.specs.Prelude.{◌≡◌, refl, Bool, true, false, List, [], ◌∷◌, ℕ, suc, ◌≤◌, length}
use Rattle.std.proofs.Common.{sym, ap, ◌∙◌, append-nil, arith, eqb-true, leb-true}
use Rattle.std.proofs.lemmas.Bool.{not-true}
use Rattle.row_order.proofs.Order.{no_bool}
use Rattle.row_order.specs.Lists.{concat}
use Rattle.plan.specs.Forest.{Forest, none, tree, roots}
use Rattle.plan.specs.Op.{Op, source, filter, projection, union, repartition, coalesce, sort_op, merge_op, global_limit, local_limit, sort_merge_join, hash_join, output_requirement, partial_sort, aggregate, Plan}
use Rattle.plan.specs.WellFormed.{width, widths, node_ok, nodes_ok, well_formed}
use Rattle.stepping.specs.Stepping.{is_unstepped, can_step}
use Rattle.semantics.specs.Facts.{facts}
use Rattle.semantics.specs.Runs.{Streams, in0}
use Rattle.semantics.proofs.Theorems.Common.Bools.{and_left, and_right}
use Rattle.stepping.specs.Outlets.{Outlet}
use Rattle.stepping.specs.Coming.{Ahead, ahead_none, ahead_tree}

-- n: the number of children
abbrev pub Formed : Op → ℕ → Type 0
Formed (source s) n = n ≡ 0
Formed filter n = n ≡ 1
Formed (projection cols) n = n ≡ 1
Formed union n = 2 ≤ n
Formed (repartition p m h ks) n = (n ≡ 1) × (1 ≤ m)
Formed (coalesce f) n = n ≡ 1
Formed (sort_op p ks f) n = n ≡ 1
Formed (merge_op ks f) n = n ≡ 1
Formed (global_limit s f note) n = n ≡ 1
Formed (local_limit f note) n = n ≡ 1
Formed (sort_merge_join t on) n = ⊥
Formed (hash_join t on) n = ⊥
Formed (output_requirement ks d f) n = n ≡ 1
Formed (partial_sort p ks m f) n = n ≡ 1
Formed (aggregate ks m) n = ⊥

pub data Steppable : Plan → Type 0 where
  steppable-none : Steppable none
  steppable-tree : {o : Op} {c r : Plan} → Formed o (length (roots c)) → Steppable c → Steppable r → Steppable (tree o c r)

roots-widths : (f : Plan) → length (widths f) ≡ length (roots f)
roots-widths none = refl
roots-widths (tree o c r) = ap suc (roots-widths r)

node_formed : (o : Op) (ws : List ℕ) (n : ℕ) → length ws ≡ n → node_ok o ws ≡ true → is_unstepped o ≡ false → Formed o n
node_formed (source s) ws n q e j = sym q ∙ eqb-true (length ws) 0 (search (and_left, and_right))
node_formed filter ws n q e j = sym q ∙ eqb-true (length ws) 1 (search (and_left, and_right))
node_formed (projection cols) ws n q e j = sym q ∙ eqb-true (length ws) 1 (search (and_left, and_right))
node_formed union ws n q e j = let h : 2 ≤ length ws = leb-true 2 (length ws) (search (and_left, and_right)) in omega arith
node_formed (repartition p m h ks) ws n q e j =
    (sym q ∙ eqb-true (length ws) 1 (search (and_left, and_right)), leb-true 1 m (search (and_left, and_right)))
node_formed (coalesce f) ws n q e j = sym q ∙ eqb-true (length ws) 1 (search (and_left, and_right))
node_formed (sort_op p ks f) ws n q e j = sym q ∙ eqb-true (length ws) 1 (search (and_left, and_right))
node_formed (merge_op ks f) ws n q e j = sym q ∙ eqb-true (length ws) 1 (search (and_left, and_right))
node_formed (global_limit s f note) ws n q e j = sym q ∙ eqb-true (length ws) 1 (search (and_left, and_right))
node_formed (local_limit f note) ws n q e j = sym q ∙ eqb-true (length ws) 1 (search (and_left, and_right))
node_formed (sort_merge_join t on) ws n q e j = no_bool (sym j)
node_formed (hash_join t on) ws n q e j = no_bool (sym j)
node_formed (output_requirement ks d f) ws n q e j = sym q ∙ eqb-true (length ws) 1 (search (and_left, and_right))
node_formed (partial_sort p ks m f) ws n q e j = sym q ∙ eqb-true (length ws) 1 (search (and_left, and_right))
node_formed (aggregate ks m) ws n q e j = no_bool (sym j)

pub steppable : (f : Plan) → nodes_ok f ≡ true → can_step f ≡ true → Steppable f
steppable none e j = steppable-none
steppable (tree o c r) e j =
    steppable-tree (node_formed o (widths c) (length (roots c)) (roots-widths c) (search (and_left, and_right)) (not-true (is_unstepped o) (search (and_left, and_right))))
    (steppable c (search (and_left, and_right)) (search (and_left, and_right))) (steppable r (search (and_left, and_right)) (search (and_left, and_right)))

-- ---- one child
pub first_only : (css : List Streams) → length css ≡ 1 → concat css ≡ in0 css
first_only [] e = absurd (omega arith)
first_only (s ∷ []) e = append-nil s
first_only (s ∷ t ∷ css) e = absurd (omega arith)

pub ahead_roots : {f : Plan} {st : Forest Outlet} {out : Forest Streams} → Ahead f st out → length (roots out) ≡ length (roots f)
ahead_roots ahead_none = refl
ahead_roots (ahead_tree h a b) = ap suc (ahead_roots b)
