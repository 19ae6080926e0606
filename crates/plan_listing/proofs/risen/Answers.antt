use native.Mathlib.Omega.{arith}
use mathlib.Core.Path.{◌≡◌, refl, sym, ap, ◌∙◌}
use Prim.Native.Nat.{ℕ}
use Rattle.plan_listing.specs.Listing.{up}
use Rattle.plan_listing.specs.Laws.{pending, up-zero, up_stays}
use Rattle.plan_listing.proofs.risen.Goals as goal

pub loop-d-init : goal.loop-d-init
loop-d-init c = (omega arith, refl)

pub loop-d-preserved : goal.loop-d-preserved
loop-d-preserved c = let l = c.args.left.now in let d = c.loop-d.d in
    let t = c.loop-d-test.true in let i = c.loop-d.invariant in
    (let h = i.0 in omega arith, up-zero l d t c.if-left-d-eq0.true ∙ i.1)

pub returns-else-left-d-eq0 : goal.returns-else-left-d-eq0
returns-else-left-d-eq0 c = let l = c.args.left.now in let d = c.loop-d.d in let i = c.loop-d.invariant in
    (i.0, up_stays l d c.if-left-d-eq0.false ∙ i.1)

pub returns-after-loop-d : goal.returns-after-loop-d
returns-after-loop-d c = let l = c.args.left.now in let d = c.loop-d.d in let i = c.loop-d.invariant in
    let z : d ≡ 0 = (let t = c.loop-d-test.false in omega arith) in (i.0, ap (pending l) z ∙ sym (ap (λ (k : ℕ). up (pending l k)) z) ∙ i.1)
