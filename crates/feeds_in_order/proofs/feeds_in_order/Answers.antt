use mathlib.Core.Path.{◌∙◌}
use mathlib.Core.List.{List}
use Prim.Native.Nat.{ℕ}
use native.Mathlib.Omega.{arith}
use borrow.Author.Tests.{eqb-true, ne_eqb}
use Rattle.scan.specs.Bytes.{AllBytes}
use Rattle.demands.proofs.CheckedFiles.{checked_feeds, told, told-refused}
use Rattle.feeds_in_order.proofs.feeds_in_order.Goals as goal

pub returns-then-number-eq0 : goal.returns-then-number-eq0
returns-then-number-eq0 c = let k = c.check_order-number in
    let file : List ℕ = c.args.plan.now in
    let bytes : AllBytes file = record { below = λ i g. omega (arith, c.type_inv.plan i) } in (
      told file k.result _ k.new.passes bytes k.ensures.0 k.ensures.1 c.if-number-eq0.true,
      λ e.
          checked_feeds file k.result _ k.new.passes bytes k.ensures.0 k.ensures.1 c.if-number-eq0.true (eqb-true k.new.passes 1 e),
    )

pub returns-else-number-eq0 : goal.returns-else-number-eq0
returns-else-number-eq0 c = let k = c.check_order-number in
    let file : List ℕ = c.args.plan.now in
    let bytes : AllBytes file = record { below = λ i g. omega (arith, c.type_inv.plan i) } in (
      ne_eqb k.result 0 c.if-number-eq0.false ∙ told-refused file k.result _ k.new.passes bytes k.ensures.0 k.ensures.1 c.if-number-eq0.false,
      λ e.
          absurd (c.if-number-eq0.false (eqb-true k.result 0 e)),
    )
