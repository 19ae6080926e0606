use borrow.Author.Tests.{lt-ltb, le-ltb}
use Rattle.plan_reader.proofs.join_width.Goals as goal

pub returns-then-t-lt4 : goal.returns-then-t-lt4
returns-then-t-lt4 c = rw (lt-ltb _ _ c.if-t-lt4.true)

pub returns-then-t-lt6 : goal.returns-then-t-lt6
returns-then-t-lt6 c = rw (le-ltb _ _ c.if-t-lt4.false, lt-ltb _ _ c.if-t-lt6.true)

pub returns : goal.returns
returns c = rw (le-ltb _ _ c.if-t-lt4.false, le-ltb _ _ c.if-t-lt6.false)
