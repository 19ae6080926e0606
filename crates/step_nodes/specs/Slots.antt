-- What the tables tell of node j: its slot holds its operator over its children, and its row says how it moves.
use Rattle.std.specs.Prelude.{◌≡◌, true, false, List, [], ◌∷◌, ◌++◌, map, ℕ, zero, suc, ◌+◌, ◌≤◌, ◌<◌, length, get_or}
use Rattle.std.proofs.Common.{sym, ap, ap₂, ◌∙◌, subst, arith}
use Rattle.std.proofs.lemmas.List.{length-map}
use Rattle.row_order.specs.Lists.{All, all_nil, all_cons}
use Rattle.row_order.specs.ListLaws.{all_append, get_or-tab}
use Rattle.plan.specs.Forest.{none, tree, roots, size}
use Rattle.plan.specs.Op.{Op, filter, Plan}
use Rattle.semantics.specs.Facts.{facts, facts_op}
use Rattle.stepping.specs.Moves.{manner, way}
use Rattle.stepping.proofs.Theorems.Formed.{Formed, Steppable, steppable-none, steppable-tree}
use Rattle.plan_context.specs.View.{Arena}
use Rattle.step_tables.specs.Places.{total, inner, kind_of, is_straight, Node, nodes_at, node_of}
use Rattle.step_tables.specs.Passes.{node_in, Listed}
use Rattle.step_tables.specs.declared.StepNode.{StepNode}
use Rattle.step_nodes.specs.Layout.{plan_in, subtrees, Slotted, LaidOut, Entry, entries}
use Rattle.step_nodes.specs.Rows.{entry_nodes, entry_plans, entry_count}
use Rattle.step_nodes.specs.declared.Layout.{Layout}
use Rattle.step_nodes.specs.Laying.{op_in, below_in, plan_is}

-- Slot i holds o over c
pub record NodeAt (m : List ℕ) (u i : ℕ) (o : Op) (c : Plan) : Type 0 where
  pub there : i < u
  pub op : op_in m i ≡ o
  pub below : below_in m i ≡ c

abbrev top_op : Plan → Op
top_op none = filter
top_op (tree o c r) = o

abbrev top_kids : Plan → Plan
top_kids none = none
top_kids (tree o c r) = c

pub slot_at : (m : List ℕ) (u : ℕ) (s : List ℕ) (f : Plan) → Arena m u → Slotted m u s f → (j : ℕ) → j < size f → (o : Op) (c : Plan)
    → get_or (subtrees f) j none ≡ tree o c none → NodeAt m u (get_or s j 0) o c
slot_at m u s f a h j l o c e =
    let t = h.there j l in
    let p : tree (op_in m (get_or s j 0)) (below_in m (get_or s j 0)) none ≡ tree o c none =
    sym (plan_is m u (get_or s j 0) a t) ∙ sym (get_or-tab (size f) (λ k. plan_in m (get_or s k 0)) none j l) ∙ ap (λ x. get_or x j none) h.are ∙ e in
    record { there = t; op = ap top_op p; below = ap top_kids p }

-- Row x is that of o over c, wherever its places are
pub record RowOf (x : Node) (o : Op) (c : Plan) : Type 0 where
  pub kind : x.kind ≡ kind_of (manner o (facts c))
  pub straight_on : x.straight_on ≡ is_straight (way o)
  pub outs : x.outs ≡ (facts_op o (facts c)).streams
  pub inps : x.inps ≡ total (facts c)

-- each row and the tree at its number
abbrev Matched : Node → Plan → Type 0
Matched x t = (o : Op) (c : Plan) → t ≡ tree o c none → RowOf x o c

abbrev Each : List Entry → Type 0
Each [] = Unit {0}
Each (e ∷ l) = Matched e.node e.plan × Each l

each_join : (l k : List Entry) → Each l → Each k → Each (l ++ k)
each_join [] k a b = b
each_join (e ∷ l) k a b = (a.0, each_join l k a.1 b)

matched : (p a b : ℕ) (o : Op) (c : Plan) → Matched (node_of p a b o c) (tree o c none)
matched p a b o c o' c' e =
    let q : o ≡ o' = ap top_op e in
    let k : c ≡ c' = ap top_kids e in
    record {
      kind = ap₂ (λ x y. kind_of (manner x (facts y))) q k;
      straight_on = ap (λ x. is_straight (way x)) q;
      outs = ap₂ (λ x y. (facts_op x (facts y)).streams) q k;
      inps = ap (λ y. total (facts y)) k;
    }

each_entry : (p n a b : ℕ) (f : Plan) → Each (entries p n a b f)
each_entry p n a b none = tt
each_entry p n a b (tree o c r) = (matched p a b o c, each_join (entries n (suc n) b _ c) _ (each_entry n (suc n) b _ c) (each_entry p _ _ _ r))

blank : Node
blank = record { kind = 0; straight_on = false; out = 0; outs = 0; inp = 0; inps = 0; above = 0 }

each_at : (l : List Entry) → Each l → (j : ℕ) → j < length l → Matched (get_or (map (λ e. e.node) l) j blank) (get_or (map (λ e. e.plan) l) j none)
each_at [] a j h = absurd (omega arith)
each_at (e ∷ l) a zero h = a.0
each_at (e ∷ l) a (suc j) h = each_at l a.1 j (omega arith)

-- row j of the tables, and the tree of node j
pub row_at : (t : List StepNode) (p n a b : ℕ) (f : Plan) → Listed t (nodes_at p n a b f) → (j : ℕ) → j < size f → (o : Op) (c : Plan)
    → get_or (subtrees f) j none ≡ tree o c none → RowOf (node_in t j) o c
row_at t p n a b f h j l o c e =
    let k = entry_count p n a b f in
    let q = entry_nodes p n a b f in
    let w : length (nodes_at p n a b f) ≡ length (entries p n a b f) = ap length (sym q) ∙ length-map (entries p n a b f) (λ x. x.node) in
    let x : get_or (map (λ y. y.node) (entries p n a b f)) j blank ≡ node_in t j =
    ap (λ y. get_or y j blank) (q ∙ sym h.are) ∙ get_or-tab (length (nodes_at p n a b f)) (node_in t) blank j (omega arith) in
    subst (λ y. RowOf y o c) x
    (each_at (entries p n a b f) (each_entry p n a b f) j (omega arith) o c (ap (λ y. get_or y j none) (entry_plans p n a b f) ∙ e))

-- ---- all rows of the tables

pub node_count_lem : (p n a b : ℕ) (f : Plan) → length (nodes_at p n a b f) ≡ size f
node_count_lem p n a b f = ap length (sym (entry_nodes p n a b f)) ∙ length-map (entries p n a b f) (λ x. x.node) ∙ entry_count p n a b f

pub each_row : (P : Node → Type 0) (t : List StepNode) (ns : List Node) → Listed t ns → All P ns → (j : ℕ) → j < length ns → P (node_in t j)
each_row P t ns h a j l = subst P (ap (λ x. get_or x j blank) (sym h.are) ∙ get_or-tab (length ns) (node_in t) blank j l) (at ns a j l)
  where
    at : (ns : List Node) → All P ns → (j : ℕ) → j < length ns → P (get_or ns j blank)
    at [] a j l = absurd (omega arith)
    at (x ∷ ns) (all_cons p ps) zero l = p
    at (x ∷ ns) (all_cons p ps) (suc j) l = at ns ps j (omega arith)

-- Outputs stand before inputs, and these below e
abbrev pub Before : ℕ → Node → Type 0
Before e x = (x.out + x.outs ≤ x.inp) × (x.inp + x.inps ≤ e)

pub rows_before : (p n a b e : ℕ) (f : Plan) → a + total (facts f) ≤ b → b + inner f ≤ e → All (Before e) (nodes_at p n a b f)
rows_before p n a b e none h k = all_nil
rows_before p n a b e (tree o c r) h k =
    all_cons {x = node_of p a b o c} (omega arith, omega arith)
    (all_append (rows_before n (suc n) b (b + total (facts c)) e c (omega arith) (omega arith))
    (rows_before p (suc n + size c) (a + (facts_op o (facts c)).streams) (b + total (facts c) + inner c) e r (omega arith) (omega arith)))

-- A straight node is as wide as its inputs; w: by its way (step_tables, `way_fits`)
abbrev pub AsWide : Node → Type 0
AsWide x = x.straight_on ≡ true → x.outs ≡ x.inps

module _ (w : (o : Op) (c : Plan) → Formed o (length (roots c)) → is_straight (way o) ≡ true → (facts_op o (facts c)).streams ≡ total (facts c)) where
  pub rows_wide : (p n a b : ℕ) (f : Plan) → Steppable f → All AsWide (nodes_at p n a b f)
  rows_wide p n a b none steppable-none = all_nil
  rows_wide p n a b (tree o c r) (steppable-tree h x y) =
      all_cons {x = node_of p a b o c} (λ e. w o c h e)
      (all_append (rows_wide n (suc n) b (b + total (facts c)) c x)
      (rows_wide p (suc n + size c) (a + (facts_op o (facts c)).streams) (b + total (facts c) + inner c) r y))

-- of the plan that was laid out
module _ (m : List ℕ) (u : ℕ) (f : Plan) (t : List StepNode) (s : List ℕ) (r : Layout) (h : LaidOut m u f t s r) where
  row_count : length (nodes_at (size f) 0 0 (total (facts f)) f) ≡ size f
  row_count = node_count_lem (size f) 0 0 (total (facts f)) f

  pub laid_before : (j : ℕ) → j < size f → Before (total (facts f) + inner f) (node_in t j)
  laid_before j l = let n = row_count in
      each_row (Before (total (facts f) + inner f)) t (nodes_at (size f) 0 0 (total (facts f)) f) h.listed
      (rows_before (size f) 0 0 (total (facts f)) (total (facts f) + inner f) f (omega arith) (omega arith)) j (omega arith)

  pub laid_wide : ((o : Op) (c : Plan) → Formed o (length (roots c)) → is_straight (way o) ≡ true → (facts_op o (facts c)).streams ≡ total (facts c))
      → Steppable f → (j : ℕ) → j < size f → AsWide (node_in t j)
  laid_wide w q j l = let n = row_count in
      each_row AsWide t (nodes_at (size f) 0 0 (total (facts f)) f) h.listed (rows_wide w (size f) 0 0 (total (facts f)) f q) j (omega arith)
