use native.Mathlib.Omega.{arith}
use mathlib.Core.Path.{ap, ◌∙◌}
use Rattle.plan.specs.Numbers.{number_of}
use Rattle.walks.specs.Counted.{pushed}
use Rattle.call_answers.specs.Answers.{rewritten}
use Rattle.call_memory.specs.Memory.{inside, outside}
use Rattle.call_memory.proofs.push.Goals as goal

pub returns-then-blocks : goal.returns-then-blocks
returns-then-blocks c = outside (λ f. rewritten (pushed f)) c.args.plan.now c.args.out.now _ (c.number_of.ensures ∙ ap number_of c.refusal_of.ensures) c.if-blocks.true

pub climb_pushing-requires : goal.climb_pushing-requires
climb_pushing-requires c = let i = inside _ c.if-blocks.false in (i.0, i.1, omega arith)
