-- What it means that facts hold of a node's streams, and that no node is fed out of order. These are definitions.
use Rattle.std.specs.Prelude.{◌≡◌, Bool, true, List, [], ℕ, length, get_or}
use Rattle.row_order.specs.Iso.{Cell, Row, cell}
use Rattle.row_order.specs.Lists.{All}
use Rattle.row_order.specs.RowLists.{Sorted}
use Rattle.plan.specs.Forest.{Forest, none, tree, roots}
use Rattle.plan.specs.Op.{Op, Plan}
use Rattle.semantics.specs.Facts.{Facts, cl, is_c, facts_op, facts}
use Rattle.semantics.specs.Properties.{wanted}
use Rattle.semantics.specs.Runs.{Streams}

-- Of one row: v has the constants' values, and a column's cell is its class's
pub record RowFacts (cs : ℕ → Bool) (low : ℕ → ℕ) (v : ℕ → Cell) (r : Row) : Type 0 where
  pub const : (c : ℕ) → cs c ≡ true → cell r c ≡ v c
  pub class : (c : ℕ) → cell r (low c) ≡ cell r c

abbrev pub RowOK : Facts → (ℕ → Cell) → Row → Type 0
RowOK F v r = RowFacts (is_c F) (cl F) v r

-- Of all streams: each constant has one value over them all; equal columns have equal cells; the known order orders each
pub record Holds (F : Facts) (out : Streams) : Type 0 where
  pub value : ℕ → Cell
  pub rows : All (All (RowOK F value)) out
  pub sorted : All (Sorted F.order) out

-- There are as many streams as the facts say
abbrev pub AsMany : Facts → Streams → Type 0
AsMany F out = length out ≡ F.streams

-- The order wanted of each child holds on every stream that comes from it
abbrev pub Wanted : Op → List Streams → Type 0
Wanted o css = (i : ℕ) → All (Sorted (wanted o i)) (get_or css i [])

-- P at every node of a plan: of its operator, the plan below it, its children's streams and its own, as a run chose them
pub data Everywhere (P : Op → Plan → List Streams → Streams → Type 0) : Plan → Forest Streams → Type 0 where
  nowhere : Everywhere P none none
  node : {o : Op} {c r : Plan} {s : Streams} {cs rs : Forest Streams} → P o c (roots cs) s → Everywhere P c cs → Everywhere P r rs →
      Everywhere P (tree o c r) (tree s cs rs)

-- The facts of every node hold, and so does every order that is wanted of its children
abbrev pub Good : Plan → Forest Streams → Type 0
Good f out = Everywhere (λ o c children s. Holds (facts_op o (facts c)) s × Wanted o children) f out
