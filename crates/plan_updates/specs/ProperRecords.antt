-- The record of a plan's node is proper.
use Rattle.std.specs.Prelude.{◌≡◌, false, ◌&&◌, List, map, ℕ, zero, suc, ◌≤◌, leb, length, get_or}
use Rattle.std.proofs.Common.{arith, leb-true}
use Rattle.scan.specs.Below.{and_left, and_right}
use Rattle.plan.specs.Forest.{Forest, none, tree}
use Rattle.plan.specs.Op.{Op, Plan}
use Rattle.plan.specs.WellFormed.{fields_ok, children_ok, union_ok, columns_ok, width}
use Rattle.plan_codec.specs.Decode.{decode}
use Rattle.plan_codec.specs.Encode.{encode}
use Rattle.semantics.specs.Facts.{facts}
use Rattle.record_fields.specs.Proper.{Proper}
use Rattle.record_fields.specs.Encoded.{proper}
use Rattle.walks.specs.Marks.{Marked, known, strip, node}
use Rattle.walks.specs.Trees.{Ok, OkT}
use Rattle.walks.proofs.Theorems.Common.NewNodes.{narrow}
use Rattle.plan_context.specs.View.{forest, Over}
use Rattle.plan_context.specs.Nodes.{counts_of}

-- no node of a plan is wider than 32 columns
widths_small : (f : Plan) → Ok f → (j : ℕ) → get_or (map (λ F. F.width) (facts f)) j 0 ≤ 32
widths_small none h j = omega arith
widths_small (tree o c r) h zero = leb-true _ 32 (narrow o (facts c) h.0)
widths_small (tree o c r) h (suc j) = widths_small r h.2 j

pub record_proper : (r : List ℕ) (n : ℕ) (c : Forest Marked) → r ≡ encode n (decode r) → OkT (node (decode r) false c) → Proper r
record_proper r n c e k =
    let o : Op = decode r in
    let ws : List ℕ = map (λ F. F.width) (known c) in
    let x = and_right (fields_ok o && children_ok o (length ws)) (union_ok o ws && (columns_ok o ws && leb (width o ws) 32)) k.0 in
    let y = and_left (columns_ok o ws) (leb (width o ws) 32) (and_right (union_ok o ws) (columns_ok o ws && leb (width o ws) 32) x) in
    proper r n ws e (counts_of o (known c) k.0).fields y (widths_small (strip c) k.1 0) (widths_small (strip c) k.1 1)

pub over_proper : (m r ks : List ℕ) → Over m r ks → Proper r
over_proper m r ks o = record_proper r (length ks) (forest m ks) o.canon o.ok
