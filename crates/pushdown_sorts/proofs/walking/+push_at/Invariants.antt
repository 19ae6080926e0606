use Rattle.walks.specs.Marks.{size_t}
use Rattle.plan_context.specs.View.{tree_of}
use mathlib.Core.Path.{◌≡◌}
use Prim.Native.Nat.{◌/◌}
use Rattle.plan_format.specs.Record.{children}
use Rattle.semantics.specs.Properties.{fetches}
use Rattle.arena.specs.Arena.{index, slot}
use Rattle.walks.specs.Marks.{strip}
use Rattle.plan_context.specs.View.{forest}
use Rattle.sort_pushdown.specs.Decisions.{visit_for}
use Rattle.pushdown_sorts.specs.Walk.{Visiting}
use Rattle.pushdown_sorts.proofs.walking.+push_at.Given as goal

abbrev pub invariant-loop-j : goal.invariant-loop-j
invariant-loop-j l =
    (l.n ≡ children (slot l.a (l.h / 2)).rec) × Visiting l.a (slot l.a (index l.h)).kids (visit_for l.d (fetches (strip (forest l.a (slot l.a (index l.h)).kids))))
    l.after l.initial.b l.v l.j l.w l.m l.kids l.b

abbrev pub decreases-push_at : goal.decreases-push_at
decreases-push_at l = size_t (tree_of l.a.now l.h)
