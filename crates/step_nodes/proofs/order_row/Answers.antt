use mathlib.Core.Path.{sym, subst}
use Rattle.key_lists.specs.Keys.{order_of, Real}
use Rattle.step_nodes.specs.Moves.{KeysAre}
use Rattle.step_nodes.proofs.order_row.Goals as goal

pub unpacked-requires : goal.unpacked-requires
unpacked-requires c = (subst Real c.in-Some.is c.requires).1

pub returns-in-Some : goal.returns-in-Some
returns-in-Some c = subst (λ z. KeysAre (order_of z) c.unpacked.result) (sym c.in-Some.is) c.unpacked.ensures
