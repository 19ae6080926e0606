use Rattle.new_records.specs.Records.{sort_is}
use mathlib.Core.Path.{◌∙◌, ap}
use Rattle.key_lists.specs.Keys.{keys_of}
use Rattle.new_records.specs.Bytes.{new_bytes}
use Rattle.new_records.proofs.sort_record.Goals as goal

pub returns : goal.returns
returns c = let s = c.args in
    c.new_record.ensures ∙ ap (λ m. new_bytes 7 m s.fetch 0 (keys_of s.keys) 0) c.mark_byte.ensures.0
    ∙ sort_is s.preserve (keys_of s.keys) s.fetch
