-- The four walks by name. These are definitions.
use Rattle.plan.specs.Op.{Plan}
use Rattle.walks.specs.OrderPreserving.{Settings}
use Rattle.walks.specs.Counted.{Answer, ensured, parallelized, preserved, pushed}

-- The four walks, and what a call on a plan answers
pub data Walk : Type 0 where
  ensuring : Walk
  parallelizing : Walk
  preserving : Settings → Walk
  pushing : Walk

abbrev pub answer : Walk → Plan → Answer
answer ensuring f = ensured f
answer parallelizing f = parallelized f
answer (preserving s) f = preserved s f
answer pushing f = pushed f
