use Rattle.new_records.specs.Records.{global_is}
use mathlib.Core.Path.{◌∙◌}
use Rattle.key_lists.specs.Keys.{keys_of}
use Rattle.new_records.proofs.global_limit_record.Goals as goal

pub returns : goal.returns
returns c = let s = c.args in c.new_record.ensures ∙ global_is s.skip s.fetch (keys_of s.note)
