use Rattle.walks.specs.Marks.{size_t}
use Rattle.plan_context.specs.View.{tree_of}
use mathlib.Core.Path.{◌≡◌}
use Prim.Native.Nat.{◌/◌}
use Rattle.plan_format.specs.Record.{children}
use Rattle.arena.specs.Arena.{slot}
use Rattle.plan_copies.specs.Copy.{ChildrenCopied}
use Rattle.plan_copies.proofs.+copy.Given as goal

abbrev pub invariant-loop-j : goal.invariant-loop-j
invariant-loop-j l = (l.n ≡ children (slot l.a (l.h / 2)).rec) × ChildrenCopied l.a l.h l.initial.b l.v l.j l.w l.kids l.b

abbrev pub decreases-copy : goal.decreases-copy
decreases-copy l = size_t (tree_of l.a.now l.h)
