use native.Mathlib.Omega.{arith}
use Rattle.new_records.specs.Records.{new_is, long_enough}
use mathlib.Core.Path.{◌∙◌, ap}
use lib.ListN.{length}
use Prim.Native.Nat.{◌%◌}
use Rattle.new_records.proofs.new_record.Goals as goal

pub slice_bounds-out-end-2 : goal.slice_bounds-out-end-2
slice_bounds-out-end-2 c = long_enough c.copy.new.d
    (ap length (c.copy.ensures ∙ c.head_row-head.ensures))

pub returns : goal.returns
returns c = let s = c.args in
    let k = c.key_row-row.ensures in
    let p = c.requires in
    new_is s.kind s.marks c.fetch_number-n.result s.skip
    s.role (s.keys.len % 256) s.fetch s.keys c.copy.new.d c.copy-2.new.d p
    c.fetch_number-n.ensures (omega arith)
    (c.copy.ensures
    ∙ c.head_row-head.ensures)
    (c.copy-2.ensures ∙ c.key_row-row.ensures)
