use native.Mathlib.Omega.{arith}
use Prim.Native.Nat.{◌+◌}
use mathlib.Core.Path.{◌≡◌, refl, ap, ◌∙◌}
use Rattle.row_reader.specs.Counts.{held_in, held_in_more, held_in_few}
use Rattle.row_reader.proofs.counts.held_in.Goals as goal

pub loop-i-init : goal.loop-i-init
loop-i-init c = refl

pub wide-n-requires : goal.wide-n-requires
wide-n-requires c = tt

pub overflow_add-n : goal.overflow_add-n
overflow_add-n c = let a = c.args in let l = c.loop-i in let k = c.type_inv.held in
    omega (arith, held_in_few a.held.now a.g l.i l.n (λ x. omega (arith, k x)) l.invariant, c.wide-n.ensures, k (a.g + l.i))

pub loop-i-preserved : goal.loop-i-preserved
loop-i-preserved c = let a = c.args in let l = c.loop-i in
    ap (λ x. l.n + x) c.wide-n.ensures ∙ held_in_more a.held.now a.g l.i l.n l.invariant

pub returns : goal.returns
returns c = let a = c.args in let l = c.loop-i in let e : l.i ≡ a.m = omega arith in
    l.invariant ∙ ap (held_in a.held.now a.g) e
