use native.Mathlib.Omega.{arith}
use mathlib.Core.Path.{◌≡◌, sym, ap, ap₂}
use mathlib.Core.Bool.{Bool}
use Prim.Native.Nat.{ℕ, ◌+◌, ◌-◌}
use Rattle.walks.specs.Counted.{one}
use Rattle.push_steps.proofs.nodes_after.Goals as goal

pub returns-then-d : goal.returns-then-d
returns-then-d c = let x = c.new_count.ensures in
    (ap₂ (λ (k : ℕ) (b : Bool). (c.args.count + k) - one b) x.0 (sym c.if-d.true), omega (arith, x.1, c.requires.3))

pub returns : goal.returns
returns c = let x = c.new_count.ensures in let e : one c.args.d.gone ≡ 0 = ap one c.if-d.false in
    (omega (arith, x.0, e), omega (arith, x.1, c.requires.3))
