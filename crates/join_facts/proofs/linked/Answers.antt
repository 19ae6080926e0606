use mathlib.Core.Path.{ap₂, subst}
use Prim.Native.Nat.{ℕ}
use Rattle.class_tables.specs.Tables.{Filled, linked_low}
use Rattle.join_facts.specs.Linking.{says-linked}
use Rattle.join_facts.proofs.linked.Goals as goal

pub returns : goal.returns
returns c = let f = c.args.f in
    says-linked f c.requires.0 c.args.a c.args.b c.linked_table-table.result c.linked_set-consts.result
    (subst (λ (g : ℕ → ℕ). Filled f.width g c.linked_table-table.result)
    (ap₂ (linked_low f.low) c.low.ensures c.low-2.ensures)
    c.linked_table-table.ensures) c.linked_set-consts.ensures
