use native.Mathlib.Omega.{arith}
use Rattle.key_list_algebra.specs.Comparing.{same_so, same_not}
use Rattle.key_list_algebra.proofs.same_keys.Goals as goal

pub returns-then-p-q : goal.returns-then-p-q
returns-then-p-q c = let s = c.args in same_so s.p s.q c.prefix.result (omega arith) c.prefix.ensures

pub returns-else-p-q : goal.returns-else-p-q
returns-else-p-q c = let s = c.args in same_not s.p s.q c.if-p-q.false
