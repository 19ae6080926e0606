use mathlib.Core.Path.{refl, ◌∙◌}
use mathlib.Core.List.{[]}
use borrow.Author.Tests.{not-true, not-false}
use Rattle.key_lists.specs.Keys.{keys_of}
use Rattle.push_requirements.specs.Joins.{left_place, left_new, left_unmet, left_lost, left_goes}
use Rattle.std.proofs.Common.{ap}
use Rattle.std.specs.Prelude.{not}
use Rattle.push_requirements.proofs.joins.try_left.Goals as goal

pub wanted_order-requires : goal.wanted_order-requires
wanted_order-requires c = c.requires.0.proper

pub keys_in-wanted-requires : goal.keys_in-wanted-requires
keys_in-wanted-requires c = c.wanted_order.ensures.real

pub returns-then-not-compatible : goal.returns-then-not-compatible
returns-then-not-compatible c = let t = c.args.t in let r = c.args.r.now in
    let own = c.args.own.now in let a = c.args.a.now in let b = c.args.b.now in let j = c.requires.0 in let ps = c.args.parent in
    let ks = c.args.keys in left_unmet t r own a b j ps ks (keys_of c.keys_in-wanted.result) _
    (c.keys_in-wanted.ensures.is ∙ c.wanted_order.ensures.is) c.compatible.ensures
    (not-true _ (ap not c.if-not-compatible.true))

pub known_order-requires : goal.known_order-requires
known_order-requires c = c.requires.0.second

pub keys_in-other-requires : goal.keys_in-other-requires
keys_in-other-requires c = c.known_order.ensures.real

pub width-requires : goal.width-requires
width-requires c = c.requires.0.first

pub join_order-new-requires : goal.join_order-new-requires
join_order-new-requires c = let t = c.args.t in let r = c.args.r.now in let own = c.args.own.now in let a = c.args.a.now in let b = c.args.b.now in
    let j = c.requires.0 in let ps = c.args.parent in let ks = c.args.keys in
    left_place t r own a b j ps ks c.drop_repeats-dropped.result c.keys_in-other.result
    c.drop_repeats-dropped.ensures _ c.width.ensures.0
    (record {
      is = c.keys_in-other.ensures.is ∙ c.known_order.ensures.is;
      few = c.keys_in-other.ensures.few;
    }) c.requires.2

pub meets_reordered-requires : goal.meets_reordered-requires
meets_reordered-requires c = let j = c.requires.0 in (
  j.here,
  (c.join_order-new.ensures
      (record {
        width = c.width.result;
        streams = 0;
        consts = [];
        cls = [];
        order = keys_of c.drop_repeats-dropped.result;
      })
      (record { width = 0; streams = 0; consts = []; cls = []; order = keys_of c.keys_in-other.result }) refl refl refl).few,
)

pub returns-then-not-meets_reordered : goal.returns-then-not-meets_reordered
returns-then-not-meets_reordered c = let t = c.args.t in let r = c.args.r.now in let own = c.args.own.now in let a = c.args.a.now in let b = c.args.b.now in
    let j = c.requires.0 in let ps = c.args.parent in let ks = c.args.keys in
    left_lost t r own a b j ps ks (keys_of c.keys_in-wanted.result)
    c.compatible.result c.join_order-new.result _
    c.meets_reordered.ensures (left_new t r own a b j ps ks _ c.keys_in-other.result
    c.drop_repeats-dropped.ensures _ c.width.ensures.0
    c.sort_merge_kept.result c.sort_merge_kept.ensures
    c.join_order-new.result
    (record {
      is = c.keys_in-other.ensures.is
          ∙ c.known_order.ensures.is;
      few = c.keys_in-other.ensures.few;
    }) c.join_order-new.ensures) (not-true _ (ap not c.if-not-meets_reordered.true))

pub wanted_order-rest-requires : goal.wanted_order-rest-requires
wanted_order-rest-requires c = c.requires.0.proper

pub returns : goal.returns
returns c = let t = c.args.t in let r = c.args.r.now in let own = c.args.own.now in let a = c.args.a.now in let b = c.args.b.now in
    let j = c.requires.0 in let ps = c.args.parent in let ks = c.args.keys in
    left_goes t r own a b j ps ks
    (keys_of c.keys_in-wanted.result)
    c.compatible.result
    c.join_order-new.result _ c.meets_reordered.ensures
    c.drop_repeats-dropped.result
    c.drop_repeats-dropped.ensures _ _
    (c.keys_in-wanted.ensures.is
    ∙ c.wanted_order.ensures.is)
    c.compatible.ensures
    (not-false _ (ap not c.if-not-compatible.false))
    (left_new t r own a b j ps ks _ c.keys_in-other.result
    c.drop_repeats-dropped.ensures _
    c.width.ensures.0 c.sort_merge_kept.result
    c.sort_merge_kept.ensures c.join_order-new.result
    (record {
      is = c.keys_in-other.ensures.is
          ∙ c.known_order.ensures.is;
      few = c.keys_in-other.ensures.few;
    }) c.join_order-new.ensures)
    (not-false _ (ap not c.if-not-meets_reordered.false)) c.order_of-first.ensures c.wanted_order-rest.ensures
