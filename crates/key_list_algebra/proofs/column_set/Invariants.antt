use mathlib.Core.Path.{◌≡◌}
use Rattle.semantics.specs.Properties.{column_set}
use Rattle.key_list_algebra.specs.Sets.{columns_from}
use Rattle.key_list_algebra.proofs.column_set.Given as goal

abbrev pub invariant-loop-i : goal.invariant-loop-i
invariant-loop-i l = l.set ≡ column_set (columns_from l.k.len l.k.word l.i)
