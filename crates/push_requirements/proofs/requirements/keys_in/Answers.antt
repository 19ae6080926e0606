use mathlib.Core.Path.{sym, ap, subst, subst⁻¹}
use Rattle.std.specs.Prelude.{Option}
use Rattle.key_lists.specs.declared.Keys.{Keys}
use Rattle.key_lists.specs.Keys.{order_of, Keyed, Real}
use Rattle.push_requirements.proofs.requirements.keys_in.Goals as goal

pub returns-in_default : goal.returns-in_default
returns-in_default c = subst⁻¹ (λ (o : Option Keys). Keyed (order_of o) c.no_keys.result) c.in_default.is c.no_keys.ensures.0

pub returns : goal.returns
returns c = record { is = ap order_of (sym c.in-Some.is); few = (subst Real c.in-Some.is c.requires).1 }
