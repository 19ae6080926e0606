use native.Mathlib.Omega.{arith}
use mathlib.Core.Path.{◌≡◌, refl}
use lib.ListN.{length}
use Rattle.plan_format.specs.LastPass.{key_columns}
use Rattle.key_lists.specs.Keys.{keys_of}
use Rattle.record_fields.specs.Fronts.{counted}
use Rattle.push_requirements.specs.Answers.{go_stop, go_on}
use Rattle.child_requirements.specs.Children.{groups_lent, by_aggregate, first_among}
use Rattle.child_requirements.proofs.handle_aggregate_pushdown.Goals as goal

pub slice_bounds-remap_requirement_through_projection-end : goal.slice_bounds-remap_requirement_through_projection-end
slice_bounds-remap_requirement_through_projection-end c = let r = c.args.r.now in let k = c.key_columns-cols in
    let f = c.requires.0.few in let e = c.wide-n.ensures in let l : length (key_columns r) ≡ 8 = refl in
    counted k.result (key_columns r) 8 c.wide-n.result k.ensures l (omega arith)

pub remap_requirement_through_projection-mapped-requires : goal.remap_requirement_through_projection-mapped-requires
remap_requirement_through_projection-mapped-requires c = let k = c.key_columns-cols in let n = c.wide-n in
    (groups_lent c.args.r.now c.requires.0 n.result k.result n.ensures k.ensures, c.requires.4)

pub returns-then-maintains-all_below : goal.returns-then-maintains-all_below
returns-then-maintains-all_below c = λ o fs m R s.
    let k = c.key_columns-cols in
    let n = c.wide-n in
    let mapped = c.remap_requirement_through_projection-mapped in
    let x = c.maintains in let y = c.all_below in let z = c.meets in
    by_aggregate c.args.r.now fs m _ _ o _ _ R s c.requires.1 c.requires.0 n.result k.result n.ensures k.ensures x.result y.result
    z.result (keys_of mapped.result) (λ l. x.ensures fs (first_among _ o fs m _ _ R s l)) y.ensures mapped.ensures.is z.ensures
    (go_on m _ _ _ c.if-maintains-all_below.true (c.handle_custom_pushdown.ensures m))

pub returns : goal.returns
returns c = λ o fs m R s.
    let k = c.key_columns-cols in
    let n = c.wide-n in
    let mapped = c.remap_requirement_through_projection-mapped in
    let x = c.maintains in let y = c.all_below in let z = c.meets in
    by_aggregate c.args.r.now fs m _ _ o _ _ R s c.requires.1 c.requires.0 n.result k.result n.ensures k.ensures x.result y.result
    z.result (keys_of mapped.result) (λ l. x.ensures fs (first_among _ o fs m _ _ R s l)) y.ensures mapped.ensures.is z.ensures
    (go_stop m _ _ c.if-maintains-all_below.false)
