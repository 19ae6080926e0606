use native.Mathlib.Omega.{arith}
use mathlib.Core.Path.{◌∙◌, sym}
use Rattle.class_tables.specs.Linking.{lower_small}
use Rattle.class_tables.proofs.joined.Goals as goal

pub entry-requires : goal.entry-requires
entry-requires c = let f = c.ranges.z.fits in let e = c.min.ensures in
    let l = lower_small c.args.z c.args.x c.args.y (omega arith) (sym c.one_of.ensures ∙ c.if-one_of.true) in omega arith

pub returns-then-one_of : goal.returns-then-one_of
returns-then-one_of c = rw (← c.one_of.ensures, c.if-one_of.true) (c.entry.ensures ∙ c.min.ensures)

pub returns-else-one_of : goal.returns-else-one_of
returns-else-one_of c = rw (← c.one_of.ensures, c.if-one_of.false)
