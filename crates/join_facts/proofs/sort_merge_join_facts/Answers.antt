use mathlib.Core.Path.{sym, ◌∙◌, ap₂, subst}
use mathlib.Core.Bool.{Bool, cond}
use Rattle.semantics.specs.Facts as sem
use Rattle.facts.specs.Known.{known, Says}
use Rattle.join_facts.specs.Joining.{on_of}
use Rattle.join_facts.proofs.sort_merge_join_facts.Goals as goal

pub returns-then-by_right : goal.returns-then-by_right
returns-then-by_right c = let s = c.args in
    subst (λ (F : sem.Facts). Says F c.join_facts.result)
    (ap₂ (λ (k : sem.Kept) (b : Bool). sem.join_facts s.t k (on_of s.lefts.now s.rights.now) (known s.a) (known s.b)
    (cond b s.b.streams s.a.streams)) c.sort_merge_kept-kept.ensures
    (sym c.if-by_right.true ∙ c.by_right.ensures)) c.join_facts.ensures

pub returns : goal.returns
returns c = let s = c.args in
    subst (λ (F : sem.Facts). Says F c.join_facts-2.result)
    (ap₂ (λ (k : sem.Kept) (b : Bool). sem.join_facts s.t k (on_of s.lefts.now s.rights.now) (known s.a) (known s.b)
    (cond b s.b.streams s.a.streams)) c.sort_merge_kept-kept.ensures
    (sym c.if-by_right.false ∙ c.by_right.ensures)) c.join_facts-2.ensures
