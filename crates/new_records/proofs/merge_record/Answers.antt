use Rattle.new_records.specs.Records.{merge_is}
use mathlib.Core.Path.{◌∙◌}
use Rattle.key_lists.specs.Keys.{keys_of}
use Rattle.new_records.proofs.merge_record.Goals as goal

pub returns : goal.returns
returns c = let s = c.args in c.new_record.ensures ∙ merge_is (keys_of s.keys) s.fetch
