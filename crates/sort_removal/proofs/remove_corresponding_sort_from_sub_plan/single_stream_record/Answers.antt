use Rattle.sort_removal.specs.SingleStream.{single_stream_none, single_stream_some, few_keys}
use Rattle.sort_removal.proofs.remove_corresponding_sort_from_sub_plan.single_stream_record.Goals as goal

pub merge_record-requires : goal.merge_record-requires
merge_record-requires c = few_keys _ c.requires _ c.in-Some.is

pub returns-in-None : goal.returns-in-None
returns-in-None c = single_stream_none _ c.args.fetch _ c.in-None.is c.coalesce_record.ensures

pub returns-in-Some : goal.returns-in-Some
returns-in-Some c = single_stream_some _ c.requires _ c.in-Some.is c.args.fetch _ c.merge_record.ensures
