use mathlib.Core.Path.{◌∙◌}
use Rattle.key_list_algebra.specs.Sets.{set_none, set_more, set_all}
use Rattle.key_list_algebra.proofs.column_set.Goals as goal

pub loop-i-init : goal.loop-i-init
loop-i-init c = set_none c.args.k.len c.args.k.word

pub loop-i-preserved : goal.loop-i-preserved
loop-i-preserved c = let k = c.args.k in let l = c.loop-i in
    c.joined-set.ensures ∙ set_more k.len k.word l.i l.set c.column.result c.loop-i-test.true l.auto.i l.invariant c.column.ensures

pub returns : goal.returns
returns c = let l = c.loop-i in set_all c.args.k l.set l.i l.invariant c.loop-i-test.false
