use mathlib.Core.Path.{◌∙◌}
use Rattle.key_lists.specs.Keys.{keys_of}
use Rattle.record_fields.specs.Proper.{pairs_of}
use Rattle.wanted_inputs.specs.Wanted.{left_keys, right_keys, left_order_lem, right_order_lem, no_side_lem}
use Rattle.wanted_inputs.proofs.of_side.Goals as goal

pub key_list-requires : goal.key_list-requires
key_list-requires c = (c.requires.0.long, c.requires.0.few)

pub returns-then-j-eq0 : goal.returns-then-j-eq0
returns-then-j-eq0 c = let r = c.args.r.now in
    left_order_lem (pairs_of r) (keys_of c.key_list.result) c.args.j c.order_of.result c.if-j-eq0.true
    (c.key_list.ensures.is ∙ left_keys r c.requires.0 c.requires.1) c.order_of.ensures

pub right_key_list-requires : goal.right_key_list-requires
right_key_list-requires c = (c.requires.0.long, c.requires.0.few)

pub returns-then-j-eq1 : goal.returns-then-j-eq1
returns-then-j-eq1 c = let r = c.args.r.now in
    right_order_lem (pairs_of r) (keys_of c.right_key_list.result) c.args.j c.order_of-then-j-eq1.result c.if-j-eq1.true
    (c.right_key_list.ensures.is ∙ right_keys r c.requires.0 c.requires.1) c.order_of-then-j-eq1.ensures

pub returns : goal.returns
returns c = no_side_lem (pairs_of c.args.r.now) c.args.j c.if-j-eq0.false c.if-j-eq1.false
