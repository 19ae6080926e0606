-- The stepper's tables. A PLACE is an output stream of a node: one number for node and stream. The output streams of a node's children stand one
-- after another, so a node's input stream i is the place `inputs + i`. places: of each row, where it waits; order: row numbers by arrival.
use Rattle.std.specs.Prelude.{◌≡◌, Bool, true, false, cond, ◌&&◌, List, [], ◌∷◌, ◌++◌, ℕ, zero, suc, ◌+◌, ◌-◌, ◌<◌, eqb, ltb, leb, length, get_or, take, drop}
use Rattle.row_order.specs.Iso.{Row}
use Rattle.row_order.specs.Lists.{sum}
use Rattle.plan.specs.Forest.{Forest, none, tree, size}
use Rattle.plan.specs.Op.{Op, Plan}
use Rattle.semantics.specs.Facts.{Facts, facts_op, facts}
use Rattle.stepping.specs.Outlets.{Placed, place, Outlet, tally}
use Rattle.stepping.specs.Moves.{Manner, still, passing, merging, sorting, manner, Way, straight, gathered, scattered, way}

-- The rows at place g
abbrev pub on_place : (ℕ → Row) → List ℕ → ℕ → List ℕ → List Row
on_place rows pl g [] = []
on_place rows pl g (r ∷ l) = cond (eqb (get_or pl r 0) g) (rows r ∷ on_place rows pl g l) (on_place rows pl g l)

-- m places from a on
abbrev pub within : ℕ → ℕ → ℕ → Bool
within a m g = leb a g && ltb g (a + m)

-- The rows at these places, each with its stream
abbrev pub waiting_in : (ℕ → Row) → List ℕ → ℕ → ℕ → List ℕ → List Placed
waiting_in rows pl a m [] = []
waiting_in rows pl a m (r ∷ l) = cond (within a m (get_or pl r 0)) (place (get_or pl r 0 - a) (rows r) ∷ waiting_in rows pl a m l) (waiting_in rows pl a m l)

-- The list without its element i; and that element put to its end
abbrev pub without : ℕ → List ℕ → List ℕ
without i [] = []
without zero (x ∷ l) = l
without (suc i) (x ∷ l) = x ∷ without i l

abbrev pub taken_out : ℕ → List ℕ → List ℕ
taken_out i l = without i l ++ (get_or l i 0 ∷ [])

-- ---- the layout: how many places the roots have, and how many the nodes below them

abbrev pub total : List Facts → ℕ
total fs = sum (λ F. F.streams) fs

abbrev pub inner : Plan → ℕ
inner none = 0
inner (tree o c r) = total (facts c) + (inner c + inner r)

-- ---- what the code keeps of each node

-- 0: still, 1: passing, 2: merging, 3: sorting
abbrev pub kind_of : Manner → ℕ
kind_of still = 0
kind_of passing = 1
kind_of (merging ks) = 2
kind_of (sorting p ks) = 3

abbrev pub is_straight : Way → Bool
is_straight straight = true
is_straight gathered = false
is_straight (scattered n) = false

-- How it takes rows and where it sends them; the places of its outputs and of its inputs, the first and how many; the number of the node above it
pub record Node : Type 0 where
  pub kind : ℕ
  pub straight_on : Bool
  pub out : ℕ
  pub outs : ℕ
  pub inp : ℕ
  pub inps : ℕ
  pub above : ℕ

-- One node. p: the number of the node above it; a: the place of its first output; b: of its first input; c: its children
abbrev pub node_of : ℕ → ℕ → ℕ → Op → Plan → Node
node_of p a b o c =
    record {
      kind = kind_of (manner o (facts c));
      straight_on = is_straight (way o);
      out = a;
      outs = (facts_op o (facts c)).streams;
      inp = b;
      inps = total (facts c);
      above = p;
    }

-- The nodes of a forest, in node order. p: the number of the node above it; n, a, b as in `Shows`
abbrev pub nodes_at : ℕ → ℕ → ℕ → ℕ → Plan → List Node
nodes_at p n a b none = []
nodes_at p n a b (tree o c r) =
    node_of p a b o c ∷
    (nodes_at n (suc n) b (b + total (facts c)) c ++ nodes_at p (suc n + size c) (a + (facts_op o (facts c)).streams) (b + total (facts c) + inner c) r)

-- counts: how many rows came to each place
pub record Tables : Type 0 where
  pub rows : ℕ → Row
  pub places : List ℕ
  pub order : List ℕ
  pub counts : List ℕ

-- The tables hold the state: n: the number of the forest's first node; a: the place of its first stream; b: the first place of the streams below the
-- roots. `moves` reads `came` by `tally` alone, so a count is all that is said of it
pub data Shows (T : Tables) : ℕ → ℕ → ℕ → Plan → Forest Outlet → Type 0 where
  shows_none : {n a b : ℕ} → Shows T n a b none none
  shows_tree : {n a b : ℕ} {o : Op} {c r : Plan} {d : Outlet} {sc sr : Forest Outlet} →
      d.waiting ≡ waiting_in T.rows T.places a (facts_op o (facts c)).streams T.order →
      ((s : ℕ) → s < (facts_op o (facts c)).streams → get_or T.counts (a + s) 0 ≡ tally s d.came) →
      Shows T (suc n) b (b + total (facts c)) c sc →
      Shows T (suc n + size c) (a + (facts_op o (facts c)).streams) (b + total (facts c) + inner c) r sr →
      Shows T n a b (tree o c r) (tree d sc sr)

-- r is not in the list; each row number stands there once, and has a place
abbrev pub Absent : ℕ → List ℕ → Type 0
Absent r [] = Unit {0}
Absent r (x ∷ l) = (x ≡ r → ⊥) × Absent r l

abbrev pub Once : List ℕ → Type 0
Once [] = Unit {0}
Once (x ∷ l) = Absent x l × Once l
