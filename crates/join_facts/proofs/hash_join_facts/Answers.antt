use mathlib.Core.Path.{subst}
use Rattle.semantics.specs.Facts as sem
use Rattle.facts.specs.Known.{known, Says}
use Rattle.join_facts.specs.Joining.{on_of}
use Rattle.join_facts.proofs.hash_join_facts.Goals as goal

pub returns : goal.returns
returns c = let s = c.args in
    subst (λ (k : sem.Kept). Says (sem.join_facts s.t k (on_of s.lefts.now s.rights.now) (known s.a) (known s.b) s.b.streams)
    c.join_facts.result) c.hash_kept-kept.ensures c.join_facts.ensures
