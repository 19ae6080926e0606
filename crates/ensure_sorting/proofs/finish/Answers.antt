use Rattle.plan_codec.specs.Decode.{decode}
use Rattle.sort_connection.specs.Standing.{is_code, not_code}
use Rattle.ensure_sorting.specs.Finishing.{end_proper, merge_some, merge_here, one_ok, one_end, more-end, other_end}
use Rattle.ensure_sorting.proofs.finish.Goals as goal

pub is_sort_preserving_merge-requires : goal.is_sort_preserving_merge-requires
is_sort_preserving_merge-requires c = end_proper c.args.m.now c.args.u c.args.h c.args.r.now c.args.ks.now c.requires

pub bounds-ks-0 : goal.bounds-ks-0
bounds-ks-0 c = merge_some c.args.m.now c.args.u c.args.h c.args.r.now c.args.ks.now c.requires
    (is_code (decode c.args.r.now) 8 _ c.is_sort_preserving_merge.ensures c.if-is_sort_preserving_merge.true)

pub row-requires : goal.row-requires
row-requires c = merge_here c.args.m.now c.args.u c.args.h c.args.r.now c.args.ks.now c.requires
    (is_code (decode c.args.r.now) 8 _ c.is_sort_preserving_merge.ensures c.if-is_sort_preserving_merge.true)

pub returns-then-several : goal.returns-then-several
returns-then-several c = more-end c.args.m.now c.args.u c.args.h c.args.r.now c.args.ks.now c.requires
    (is_code (decode c.args.r.now) 8 _
    c.is_sort_preserving_merge.ensures
    c.if-is_sort_preserving_merge.true) _
    c.row.ensures.1 _
    c.several_streams-several.ensures
    c.if-several.true _ _ c.update_over.ensures

pub unmerge-requires : goal.unmerge-requires
unmerge-requires c = let e = (is_code (decode c.args.r.now) 8 _ c.is_sort_preserving_merge.ensures
    c.if-is_sort_preserving_merge.true) in (
      c.requires,
      e,
      one_ok c.args.m.now c.args.u c.args.h c.args.r.now c.args.ks.now c.requires e _
          c.row.ensures.1 _ c.several_streams-several.ensures c.if-several.false,
    )

pub returns-then-is_sort_preserving_merge : goal.returns-then-is_sort_preserving_merge
returns-then-is_sort_preserving_merge c = one_end c.args.m.now c.args.u c.args.h c.args.r.now c.args.ks.now c.requires
    (is_code (decode c.args.r.now) 8 _
    c.is_sort_preserving_merge.ensures
    c.if-is_sort_preserving_merge.true) _
    c.row.ensures.1 _
    c.several_streams-several.ensures c.if-several.false _ _
    c.unmerge.ensures

pub returns : goal.returns
returns c = other_end c.args.m.now c.args.u c.args.h c.args.r.now c.args.ks.now c.requires
    (not_code (decode c.args.r.now) 8 _ c.is_sort_preserving_merge.ensures
    c.if-is_sort_preserving_merge.false) _ _ c.update_over-2.ensures
