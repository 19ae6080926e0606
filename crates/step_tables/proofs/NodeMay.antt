-- Which nodes can move, by the tables and by the plan. Assumes nothing.
use Rattle.std.specs.Prelude.{◌≡◌, refl, Bool, List, ◌∷◌, ◌++◌, map, ℕ, zero, suc, ◌+◌, length}
use Rattle.std.proofs.Common.{sym, ap, ap₂, ◌∙◌}
use Rattle.std.proofs.lemmas.List.{map-append}
use Rattle.row_order.specs.Lists.{tab}
use Rattle.plan.specs.Forest.{none, tree, size}
use Rattle.plan.specs.Op.{Plan}
use Rattle.semantics.specs.Facts.{facts_op, facts}
use Rattle.stepping.specs.Moves.{manner}
use Rattle.step_tables.specs.Places.{total, inner, Node, nodes_at}
use Rattle.step_tables.specs.Found.{Known}
use Rattle.step_tables.specs.Shown.{tab_ext}
use Rattle.step_tables.specs.Choosing.{waits_at, any_from}
use Rattle.step_tables.specs.Movers.{movers}
use Rattle.step_tables.specs.Passes.{node_in, Listed, may_by, may_by_lem, node_may}
use Rattle.step_tables.specs.declared.StepNode.{StepNode}
use Rattle.step_tables.specs.Holding.{HeldAre}
use Rattle.step_tables.specs.Complete.{Complete}
use Rattle.step_tables.specs.Waiting.{held_waits}
use Rattle.step_tables.specs.Layout.{listed_are}
use Rattle.step_tables.specs.Queueing.{QueuedAre, queued_some}

-- A node's own test; w: whether a row waits at a place
abbrev pub may_node : List Bool → (ℕ → Bool) → Node → Bool
may_node fl w x = may_by x.kind fl w (any_from w x.inp x.inps) x.inp x.inps

pub movers_are : (fl : List Bool) (w : ℕ → Bool) (p n a b : ℕ) (f : Plan) → movers fl w b f ≡ map (may_node fl w) (nodes_at p n a b f)
movers_are fl w p n a b none = refl
movers_are fl w p n a b (tree o c r) =
    ap₂ (λ (x : Bool) (l : List Bool). x ∷ l) (sym (may_by_lem (manner o (facts c)) fl w (any_from w b (total (facts c))) b (total (facts c))))
    (ap₂ ◌++◌ (movers_are fl w n (suc n) b (b + total (facts c)) c)
    (movers_are fl w p (suc n + size c) (a + (facts_op o (facts c)).streams) (b + total (facts c) + inner c) r)
    ∙ sym (map-append (may_node fl w) (nodes_at n (suc n) b (b + total (facts c)) c)
    (nodes_at p (suc n + size c) (a + (facts_op o (facts c)).streams) (b + total (facts c) + inner c) r)))

map-tab : {A B : Type 0} (h : A → B) (n : ℕ) (g : ℕ → A) → map h (tab n g) ≡ tab n (λ i. h (g i))
map-tab h zero g = refl
map-tab h (suc n) g = ap (λ l. h (g 0) ∷ l) (map-tab h n (λ k. g (suc k)))

pub may_node_lem : (t : List StepNode) (p : ℕ) (f : Plan) (fl : List Bool) (held queued places order : List ℕ) → Listed t (nodes_at p 0 0 (total (facts f)) f) →
    HeldAre held places → QueuedAre t (size f) queued places → Complete order (length places) → Known order (length places) →
    tab (size f) (node_may t fl held queued) ≡ movers fl (waits_at places order) (total (facts f)) f
may_node_lem t p f fl held queued places order listed are queue complete known =
    tab_ext (size f) (node_may t fl held queued) (λ j. may_node fl w (node_in t j))
    (λ j h. ap₂ (λ (v : ℕ → Bool) (some : Bool). may_by (node_in t j).kind fl v some (node_in t j).inp (node_in t j).inps)
    (sym (held_waits places order complete known held are)) (sym (queued_some t (size f) queued places order queue complete known j h)))
    ∙ sym (map-tab (may_node fl w) (size f) (node_in t)) ∙ ap (map (may_node fl w)) (listed_are t p 0 (total (facts f)) f listed)
    ∙ sym (movers_are fl w p 0 0 (total (facts f)) f)
  where
    w : ℕ → Bool
    w = waits_at places order
