use Rattle.column_rules.proofs.list_ok.Goals as goal

pub returns-then-repeats : goal.returns-then-repeats
returns-then-repeats c = rw c.if-repeats.true c.below_ok.ensures

pub returns : goal.returns
returns c = rw c.if-repeats.false c.columns_ok.ensures
