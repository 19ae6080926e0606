use mathlib.Core.Path.{sym, ap, ◌∙◌}
use Prim.Native.Nat.{ℕ, ◌+◌, ◌*◌, ◌-◌}
use native.Mathlib.Omega.{arith}
use lib.ListN.{get_or}
use Rattle.plan_format.specs.Blocks.{block}
use Rattle.scan.specs.Parts.{at_part}
use Rattle.block_passes.proofs.record_count.Goals as goal

pub overflow_cast-result : goal.overflow_cast-result
overflow_cast-result c = omega (arith, c.type_inv.s ((c.args.n - 1) * 512 + 4))

pub overflow_add-result-2 : goal.overflow_add-result-2
overflow_add-result-2 c = omega (arith, c.type_inv.s ((c.args.n - 1) * 512 + 4))

pub returns : goal.returns
returns c = let b = c.args.s.now in let n = c.args.n in
    ap (λ (x : ℕ). 7 * (n - 1) + x) (sym (at_part b ((n - 1) * 512) 512 4 (omega arith))) ∙ ap (λ (k : ℕ). 7 * (k - 1) + get_or (block b (k - 1)) 4 0)
    c.requires.0
