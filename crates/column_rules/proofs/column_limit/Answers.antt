use Rattle.column_rules.proofs.column_limit.Goals as goal

pub returns-then-f : goal.returns-then-f
returns-then-f c = rw c.if-f.true

pub returns : goal.returns
returns c = rw c.if-f.false c.at_or_zero.ensures
