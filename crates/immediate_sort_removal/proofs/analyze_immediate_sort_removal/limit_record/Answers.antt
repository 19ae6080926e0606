use Rattle.immediate_sort_removal.specs.Immediate.{limit_global, limit_local}
use Rattle.immediate_sort_removal.proofs.analyze_immediate_sort_removal.limit_record.Goals as goal

pub returns-then-single : goal.returns-then-single
returns-then-single c = limit_global _ c.args.fetch c.args.note _ c.if-single.true c.global_limit_record.ensures

pub returns : goal.returns
returns c = limit_local _ c.args.fetch c.args.note _ c.if-single.false c.local_limit_record.ensures
