use Rattle.key_lists.specs.Keys.{keys_of}
use Rattle.record_fields.specs.Proper.{pairs_of}
use Rattle.wanted_inputs.specs.Wanted.{left_set, right_set, side_left, side_right}
use Rattle.wanted_inputs.proofs.by_side.Goals as goal

pub key_list-requires : goal.key_list-requires
key_list-requires c = (c.requires.0.long, c.requires.0.few)

pub returns-then-j-eq0 : goal.returns-then-j-eq0
returns-then-j-eq0 c = let r = c.args.r.now in
    side_left (pairs_of r) c.args.j c.column_set.result c.if-j-eq0.true
    (left_set r c.requires.0 c.requires.1 (keys_of c.key_list.result) c.column_set.result c.key_list.ensures.is
    c.column_set.ensures)

pub right_key_list-requires : goal.right_key_list-requires
right_key_list-requires c = (c.requires.0.long, c.requires.0.few)

pub returns : goal.returns
returns c = let r = c.args.r.now in
    side_right (pairs_of r) c.args.j c.column_set-2.result c.if-j-eq0.false
    (right_set r c.requires.0 c.requires.1 (keys_of c.right_key_list.result) c.column_set-2.result c.right_key_list.ensures.is
    c.column_set-2.ensures)
