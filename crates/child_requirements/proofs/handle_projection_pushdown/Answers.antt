use native.Mathlib.Omega.{arith}
use mathlib.Core.Path.{◌≡◌, ap, ◌∙◌, subst}
use mathlib.Core.List.{List}
use Prim.Native.Nat.{ℕ}
use lib.ListN.{length, length-drop}
use Rattle.row_order.specs.Iso.{Key}
use Rattle.key_lists.specs.Keys.{keys_of, Ordered}
use Rattle.record_fields.specs.Fields.{tail_columns}
use Rattle.record_fields.specs.Fronts.{counted}
use Rattle.push_requirements.specs.Answers.{alike}
use Rattle.walks.specs.SortPushdown as walk
use Rattle.child_requirements.specs.Children.{columns_lent, lent_columns_lem}
use Rattle.child_requirements.proofs.handle_projection_pushdown.Goals as goal

pub slice_bounds-remap_requirement_through_projection-end : goal.slice_bounds-remap_requirement_through_projection-end
slice_bounds-remap_requirement_through_projection-end c = let r = c.args.r.now in let q = c.requires.0.long in
    let w = c.requires.0.wide in let e = c.wide-n.ensures in let l : length (tail_columns r) ≡ 32 = omega (arith, length-drop 32 r) in
    let k = c.tail_columns-cols in
    counted k.result (tail_columns r) 32 c.wide-n.result k.ensures l (omega arith)

pub remap_requirement_through_projection-requires : goal.remap_requirement_through_projection-requires
remap_requirement_through_projection-requires c = let k = c.tail_columns-cols in
    (columns_lent c.args.r.now c.requires.0 c.wide-n.result k.result c.requires.1 k.ensures, c.requires.2)

pub order_of-order-requires : goal.order_of-order-requires
order_of-order-requires c = c.remap_requirement_through_projection.ensures.few

pub returns : goal.returns
returns c = λ cols m e.
    let k = c.tail_columns-cols in let n = c.wide-n in
    alike m _ _ (subst (λ (l : List Key). Ordered l c.order_of-order.result) (c.remap_requirement_through_projection.ensures.is
    ∙ ap (λ (l : List ℕ). walk.remap_requirement_through_projection l (keys_of c.args.parent))
    (lent_columns_lem c.args.r.now c.requires.0 n.result k.result c.requires.1 n.ensures k.ensures cols e)) c.order_of-order.ensures)
