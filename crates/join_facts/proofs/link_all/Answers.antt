use native.Mathlib.Omega.{arith}
use mathlib.Core.Path.{refl, subst}
use Prim.Native.Nat.{ℕ, ◌+◌}
use lib.ListN.{get_or}
use Rattle.semantics.specs.Facts as sem
use Rattle.facts.specs.Known.{known, Says}
use Rattle.join_facts.specs.Joining.{Linkable}
use Rattle.join_facts.specs.Linking.{pair_at, on_at, link_more, link_end}
use Rattle.join_facts.proofs.link_all.Goals as goal
use Rattle.join_facts.proofs.link_all.Goals.{After-shared_slice_known-in-loop-i-2-1}

-- the pair that the loop has reached
pair : (c : After-shared_slice_known-in-loop-i-2-1) → Linkable c.args.w
    (pair_at c.args.lefts.now
    c.args.rights.now c.loop-i.i)
pair c = on_at (Linkable c.args.w) c.args.lefts.now c.args.rights.now c.loop-i.i
    c.loop-i-test.true c.requires.all.1 c.requires.all.0

pub loop-i-init : goal.loop-i-init
loop-i-init c = record { far = omega arith; fine = c.requires.coherent; leads = refl }

pub overflow_add-b : goal.overflow_add-b
overflow_add-b c = let p = (pair (goal.at.overflow_add-b c).After-shared_slice_known-in-loop-i-2-1).right in omega arith

pub linked-g-requires : goal.linked-g-requires
linked-g-requires c = (c.loop-i.invariant.fine, rw c.column-a.ensures (omega arith), (pair (goal.at.linked-g-requires c).After-shared_slice_known-in-loop-i-2-1).right)

pub loop-i-preserved : goal.loop-i-preserved
loop-i-preserved c = let l = c.loop-i in
    link_more c.args.w c.args.f c.args.lefts.now c.args.rights.now l.g l.i l.invariant
    c.loop-i-test.true c.requires.all.1 c.requires.all.0 c.linked-g.result
    (subst (λ (d : ℕ). Says (sem.linked (known l.g) d (c.args.w + get_or c.args.rights.now l.i 0)) c.linked-g.result)
    c.column-a.ensures c.linked-g.ensures)

pub returns : goal.returns
returns c = let l = c.loop-i in
    link_end c.args.w c.args.f c.args.lefts.now c.args.rights.now l.g l.i l.invariant (omega arith)
