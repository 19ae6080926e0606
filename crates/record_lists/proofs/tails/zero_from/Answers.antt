use native.Mathlib.Omega.{arith}
use Prim.Native.Nat.{ℕ, ◌+◌, ◌*◌, ◌/◌, ◌^◌}
use mathlib.Core.Path.{sym, ap, ap₂, ◌∙◌}
use mathlib.Core.Bool.{◌&&◌}
use lib.Dec.{eqb}
use lib.ListN.{drop_of_length-le}
use Rattle.scan.specs.Bytes.{zeros}
use Rattle.scan.specs.ByteLaws.{cut_end}
use Rattle.record_lists.proofs.TailLaws.{last_from}
use Rattle.record_lists.proofs.tails.zero_from.Goals as goal

pub returns-then-u-lt8 : goal.returns-then-u-lt8
returns-then-u-lt8 c = let u = c.args.u in
    ap₂ ◌&&◌ (ap (λ (a : ℕ). eqb (a / 2 ^ (8 * u)) 0) c.get64.ensures) c.last_zero.ensures
    ∙ last_from c.args.r.now u c.if-u-lt8.true (λ i. omega (arith, c.type_inv.r i))

pub returns-then-r-at : goal.returns-then-r-at
returns-then-r-at c = sym (ap zeros (drop_of_length-le c.args.r.now {i = 32 + c.args.u} c.if-r-at.true))

pub returns : goal.returns
returns c = c.all_zero.ensures ∙ ap zeros (cut_end c.args.r.now (32 + c.args.u))
