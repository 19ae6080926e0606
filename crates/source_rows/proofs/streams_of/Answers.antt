use Rattle.plan_format.specs.Blocks.{record_at}
use Rattle.source_rows.specs.Sources.{streams_first, streams_none}
use Rattle.source_rows.proofs.streams_of.Goals as goal

pub returns-then-byte_of-eq1 : goal.returns-then-byte_of-eq1
returns-then-byte_of-eq1 c = let a = c.args in streams_first (record_at a.plan.now a.j) _ _ c.byte_of.ensures c.if-byte_of-eq1.true c.byte_of-then-byte_of-eq1.ensures

pub returns : goal.returns
returns c = let a = c.args in streams_none (record_at a.plan.now a.j) _ c.byte_of.ensures c.if-byte_of-eq1.false
