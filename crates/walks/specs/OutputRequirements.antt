-- output_requirements.rs, two methods of kind 13: required_input_ordering is `wanted` of Properties (01: "Merge, output requirement
-- and sort-merge join want their keys as order"); fetch, as ensure_sorting asks for it. These are definitions.
use Rattle.std.specs.Prelude.{cond, eqb, Option, ℕ, None}
use Rattle.plan.specs.Op.{Op}
use Rattle.plan.specs.Numbers.{code}
use Rattle.semantics.specs.Properties.{cuts}

-- plan.downcast_ref::<OutputRequirementExec>().map(|output| output.fetch()).unwrap_or(None)
abbrev pub output_fetch : Op → Option ℕ
output_fetch o = cond (eqb (code o) 13) (cuts o).fetch None
