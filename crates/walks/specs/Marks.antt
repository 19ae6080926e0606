-- Marked trees, and the walk that goes children before parents. These are definitions.
use Rattle.std.specs.Prelude.{Bool, false, ◌||◌, List, [], ◌∷◌, ℕ, zero, suc, Option}
use Rattle.row_order.specs.Iso.{Key}
use Rattle.plan.specs.Forest.{Forest, none, tree, size, map_f}
use Rattle.plan.specs.Op.{Op, source, filter, projection, union, repartition, coalesce, sort_op, merge_op, global_limit, local_limit, sort_merge_join, hash_join, output_requirement, partial_sort, aggregate, Plan}
use Rattle.semantics.specs.Facts.{Facts, facts_op, facts}
use Rattle.semantics.specs.Properties.{rebuilt, fetch_op, fetches}

-- ---- trees with a mark on each node: the Rust's PlanContext<T>, whose data (here `mark`) are never in the plan

-- A node, and its data
pub record Noted (T : Type 0) : Type 0 where
  pub op : Op
  pub mark : T

-- A tree: its top node, and the forest of its children. A context's plan has its child contexts' plans for children wherever the text
-- reads it, so the node alone is held
pub record PlanContext (T : Type 0) : Type 0 where
  pub top : Noted T
  pub kids : Forest (Noted T)

-- Three walks mark each node or not
abbrev pub Marked : Type 0
Marked = Noted Bool

abbrev pub Tree : Type 0
Tree = PlanContext Bool

-- The plan, without the marks
abbrev pub strip : {T : Type 0} → Forest (Noted T) → Plan
strip c = map_f (λ m. m.op) c

-- The same mark on each node
abbrev pub marked : {T : Type 0} → T → Plan → Forest (Noted T)
marked x f = map_f (λ o. record { op = o; mark = x }) f

-- 01, 'The four walks': "marks first false"
abbrev pub bare : Plan → Forest Marked
bare f = marked false f

-- The facts of each root
abbrev pub known : {T : Type 0} → Forest (Noted T) → List Facts
known c = facts (strip c)

abbrev pub at : {T : Type 0} → Noted T → Forest (Noted T) → PlanContext T
at m c = record { top = m; kids = c }

abbrev pub node : {T : Type 0} → Op → T → Forest (Noted T) → PlanContext T
node o x c = record { top = record { op = o; mark = x }; kids = c }

-- A tree before its siblings
abbrev pub plant : {T : Type 0} → PlanContext T → Forest (Noted T) → Forest (Noted T)
plant t r = tree t.top t.kids r

-- A node over one tree
abbrev pub over : {T : Type 0} → Op → T → PlanContext T → PlanContext T
over o x t = node o x (plant t none)

-- New nodes over a tree, the outermost first, each with the mark x
abbrev pub cover_with : {T : Type 0} → T → List Op → PlanContext T → PlanContext T
cover_with x [] t = t
cover_with x (o ∷ os) t = over o x (cover_with x os t)

-- A new node's mark is false
abbrev pub cover : List Op → Tree → Tree
cover os t = cover_with false os t

abbrev pub op_t : {T : Type 0} → PlanContext T → Op
op_t t = t.top.op

abbrev pub fact : {T : Type 0} → PlanContext T → Facts
fact t = facts_op (op_t t) (known t.kids)

-- The plan's fetch: for a projection its input's (reading 3)
abbrev pub fetch_t : {T : Type 0} → PlanContext T → Option ℕ
fetch_t t = fetch_op (op_t t) (fetches (strip t.kids))

abbrev pub size_t : {T : Type 0} → PlanContext T → ℕ
size_t t = suc (size t.kids)

abbrev pub set_mark : {T : Type 0} → T → PlanContext T → PlanContext T
set_mark x t = node (op_t t) x t.kids

-- The first tree (the Rust's children[0]); d if there is none
abbrev pub kid0 : {T : Type 0} → PlanContext T → Forest (Noted T) → PlanContext T
kid0 d none = d
kid0 d (tree m c r) = at m c

-- for child in children { child.data = false }
abbrev pub unmark : Forest Marked → Forest Marked
unmark none = none
unmark (tree m c r) = tree (record { op = m.op; mark = false }) c (unmark r)

-- children.iter().any(|child| child.data)
abbrev pub any_mark : Forest Marked → Bool
any_mark none = false
any_mark (tree m c r) = m.mark || any_mark r

-- children[0].data
abbrev pub head_mark : Forest Marked → Bool
head_mark none = false
head_mark (tree m c r) = m.mark

-- Some number below n
abbrev pub any_below : ℕ → (ℕ → Bool) → Bool
any_below zero p = false
any_below (suc n) p = p 0 || any_below n (λ i. p (suc i))

-- ---- the kinds that the walks treat apart, with their fields

pub data Shape : Type 0 where
  a_sort : Bool → List Key → Option ℕ → Shape
  a_merge : List Key → Option ℕ → Shape
  a_repartition : Bool → ℕ → Bool → List Key → Shape
  a_coalesce : Option ℕ → Shape
  another : Shape

abbrev pub shape : Op → Shape
shape (source s) = another
shape filter = another
shape (projection cols) = another
shape union = another
shape (repartition p n h ks) = a_repartition p n h ks
shape (coalesce f) = a_coalesce f
shape (sort_op p ks f) = a_sort p ks f
shape (merge_op ks f) = a_merge ks f
shape (global_limit s f note) = another
shape (local_limit f note) = another
shape (sort_merge_join t on) = another
shape (hash_join t on) = another
shape (output_requirement ks d f) = another
shape (partial_sort p ks n f) = another
shape (aggregate ks n) = another

-- One kind's fields, or what holds of every other kind

abbrev pub if_sort : {A : Type 0} → Shape → (Bool → List Key → Option ℕ → A) → A → A
if_sort (a_sort p ks f) g x = g p ks f
if_sort (a_merge ks f) g x = x
if_sort (a_repartition p n h ks) g x = x
if_sort (a_coalesce f) g x = x
if_sort another g x = x

abbrev pub if_merge : {A : Type 0} → Shape → (List Key → Option ℕ → A) → A → A
if_merge (a_sort p ks f) g x = x
if_merge (a_merge ks f) g x = g ks f
if_merge (a_repartition p n h ks) g x = x
if_merge (a_coalesce f) g x = x
if_merge another g x = x

abbrev pub if_repartition : {A : Type 0} → Shape → (Bool → ℕ → Bool → List Key → A) → A → A
if_repartition (a_sort p ks f) g x = x
if_repartition (a_merge ks f) g x = x
if_repartition (a_repartition p n h ks) g x = g p n h ks
if_repartition (a_coalesce f) g x = x
if_repartition another g x = x

abbrev pub if_coalesce : {A : Type 0} → Shape → (Option ℕ → A) → A → A
if_coalesce (a_sort p ks f) g x = x
if_coalesce (a_merge ks f) g x = x
if_coalesce (a_repartition p n h ks) g x = x
if_coalesce (a_coalesce f) g x = g f
if_coalesce another g x = x

-- ---- rebuilding (reading 1): update_plan_from_children, and a node put back over its walked children

abbrev pub rebuild : {T : Type 0} → Op → T → Forest (Noted T) → PlanContext T
rebuild o x c = node (rebuilt o (known c)) x c

-- ---- transform_up: "children before parents, each node once, marks first false"

abbrev pub transform_up : (Tree → Tree) → Plan → Forest Marked
transform_up step none = none
transform_up step (tree o c r) = plant (step (rebuild o false (transform_up step c))) (transform_up step r)
