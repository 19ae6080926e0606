use mathlib.Core.Path.{◌∙◌}
use Rattle.key_lists.specs.Keys.{keys_of}
use Rattle.asked_facts.specs.Asked.{told}
use Rattle.push_requirements.specs.Joins.{reorder_none, reorder_some}
use Rattle.push_requirements.proofs.joins.meets_reordered.Goals as goal

pub returns-then-new-eq0 : goal.returns-then-new-eq0
returns-then-new-eq0 c = c.meets.ensures ∙ reorder_none (told c.args.own.now) c.args.new
    (keys_of c.args.parent) c.if-new-eq0.true

pub returns : goal.returns
returns c = c.compatible.ensures ∙ reorder_some (told c.args.own.now)
    c.args.new (keys_of c.args.parent) c.if-new-eq0.false
