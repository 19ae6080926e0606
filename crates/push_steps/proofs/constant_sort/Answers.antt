use mathlib.Core.Path.{ap, ap₂, ◌∙◌}
use mathlib.Core.Bool.{not, ◌&&◌}
use Rattle.plan_codec.specs.Decode.{decode}
use Rattle.asked_facts.specs.Asked.{told}
use Rattle.push_steps.specs.Stepping.{sort_code, not-not}
use Rattle.semantics.specs.Facts as sem
use Rattle.push_steps.proofs.constant_sort.Goals as goal

pub returns : goal.returns
returns c = ap₂ ◌&&◌ (c.is_sort.ensures ∙ sort_code (decode c.args.r.now))
    (ap not c.is_ordered.ensures ∙ not-not (sem.is_nil (sem.known_order (told c.args.own.now))))
