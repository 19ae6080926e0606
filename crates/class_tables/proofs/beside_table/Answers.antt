use borrow.Author.Rules.{rules}
use native.Mathlib.Omega.{arith}
use mathlib.Core.Path.{◌≡◌, ◌∙◌}
use Prim.Native.Nat.{◌+◌, ◌-◌}
use lib.ListN.{length}
use Rattle.class_tables.specs.Tables.{beside_low}
use borrow.Author.Tests.{lt-ltb, le-ltb}
use Rattle.class_tables.specs.Filling.{filled_self, filled_more}
use Rattle.class_tables.proofs.beside_table.Goals as goal
use Rattle.class_tables.proofs.beside_table.Goals.{Start}

long : (c : Start) → length c.args.left ≡ 32
long c = search rules

pub loop-c-init : goal.loop-c-init
loop-c-init c = let s = c.args in
    filled_self (beside_low s.left s.right.now s.w) s.w s.left (long (goal.at.loop-c-init c).Start) c.requires.0
    (λ k h. rw (lt-ltb k s.w h))

pub overflow_add-w : goal.overflow_add-w
overflow_add-w c = let h = c.requires.1 (c.loop-c.c - c.args.w) in let e = c.low.ensures in
    let t = c.loop-c-test.true in let f = c.requires.2 in omega arith

pub entry-requires : goal.entry-requires
entry-requires c = let h = c.requires.1 (c.loop-c.c - c.args.w) in let e = c.low.ensures in
    let t = c.loop-c-test.true in let f = c.requires.2 in omega arith

pub loop-c-preserved : goal.loop-c-preserved
loop-c-preserved c = let s = c.args in let l = c.loop-c in
    filled_more (beside_low s.left s.right.now s.w) l.r l.c c.entry.result l.invariant (omega arith)
    (c.entry.ensures ∙ rw (le-ltb l.c s.w (omega arith), c.low.ensures))

pub returns : goal.returns
returns c = let s = c.args in let l = c.loop-c in let e : l.c ≡ s.w + s.n = omega arith in let h = l.invariant in rw e at h
