use Rattle.new_records.specs.Records.{coalesce-is}
use mathlib.Core.Path.{◌∙◌, ap}
use Rattle.new_records.specs.Bytes.{new_bytes}
use mathlib.Core.List.{List}
use Rattle.row_order.specs.Iso.{Key}
use Rattle.new_records.proofs.coalesce_record.Goals as goal

pub returns : goal.returns
returns c = let s = c.args in
    c.new_record.ensures ∙ ap (λ (ks : List Key). new_bytes 6 0 s.fetch 0 ks 0) c.no_keys.ensures.0.is ∙ coalesce-is s.fetch
