-- What a call comes to. These are definitions.
use Rattle.plan.specs.Op.{Plan}
use Rattle.semantics.specs.Check.{check}
use Rattle.walks.specs.Counted.{partially_sorted}
use Rattle.call_answers.specs.Answers.{Result, checks, gives, rewritten}
use Rattle.walk_calls.specs.Walking.{walk_result}
use Rattle.plan_calls.specs.declared.Call.{Call}
use Rattle.plan_calls.specs.declared.Call.TheVariants.{CheckOrder, CopyPlan, PartialSort, TransformUp}

abbrev pub result_of : Call → Plan → Result
result_of CheckOrder f = checks (check f)
result_of CopyPlan f = gives f
result_of (TransformUp w) f = walk_result w f
result_of (PartialSort n) f = rewritten (partially_sorted n f)
