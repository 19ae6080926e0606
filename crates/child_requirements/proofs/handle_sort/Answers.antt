use mathlib.Core.Path.{sym, ap, ◌∙◌}
use Rattle.key_lists.specs.Keys.{keys_of}
use Rattle.asked_facts.specs.Asked.{told}
use Rattle.push_requirements.specs.Answers.{go_stop, go_on}
use Rattle.semantics.specs.Facts as sem
use Rattle.child_requirements.proofs.handle_sort.Goals as goal

pub returns-then-compatible : goal.returns-then-compatible
returns-then-compatible c = λ m. go_on m _ _ _
    (sym (c.compatible.ensures
    ∙ ap (sem.compatible (told c.args.a.now)
    (keys_of c.args.parent)) c.keys.ensures.is) ∙ c.if-compatible.true)
    (c.handle_custom_pushdown.ensures m)

pub returns : goal.returns
returns c = λ m. go_stop m _ _
    (sym (c.compatible.ensures
    ∙ ap (sem.compatible (told c.args.a.now)
    (keys_of c.args.parent)) c.keys.ensures.is) ∙ c.if-compatible.false)
