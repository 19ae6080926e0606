use Rattle.key_lists.specs.Keys.{keys_left, keys_of}
use Rattle.new_records.specs.Records.{Row}
use Rattle.new_records.proofs.key_row.Given as goal

abbrev pub invariant-loop-i : goal.invariant-loop-i
invariant-loop-i l = Row (keys_of l.fn.k) l.row l.i (keys_left l.key-iterator)
