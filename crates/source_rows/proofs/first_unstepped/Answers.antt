use native.Mathlib.Omega.{arith}
use Rattle.source_rows.specs.Files.{taken, inside}
use Rattle.source_rows.specs.Nodes.{stepped_found, stepped_more, stepped_end}
use Rattle.source_rows.proofs.first_unstepped.Goals as goal

pub loop-j-init : goal.loop-j-init
loop-j-init c = (taken _ _ c.requires (record { below = λ i g. omega (arith, c.type_inv.plan i) }), λ k l. absurd (omega arith))

pub is_unstepped-requires : goal.is_unstepped-requires
is_unstepped-requires c = inside _ _ c.loop-j.invariant.0 c.loop-j.j (omega arith)

pub returns-then-is_unstepped : goal.returns-then-is_unstepped
returns-then-is_unstepped c = stepped_found _ _ c.loop-j.invariant.0 _ _ (omega arith) c.loop-j.invariant.1 c.is_unstepped.ensures c.if-is_unstepped.true

pub loop-j-preserved : goal.loop-j-preserved
loop-j-preserved c = (c.loop-j.invariant.0, stepped_more _ _ c.loop-j.invariant.0 _ _ c.loop-j.invariant.1 c.is_unstepped.ensures c.if-is_unstepped.false)

pub returns : goal.returns
returns c = stepped_end _ _ c.loop-j.invariant.0 _ (omega arith) c.loop-j.invariant.1
