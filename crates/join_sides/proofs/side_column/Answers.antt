use mathlib.Core.Path.{◌∙◌, ap}
use Rattle.semantics.specs.Facts.{cl}
use Rattle.asked_facts.specs.Asked.{told}
use Rattle.join_sides.specs.Sides.{lowest_from}
use Rattle.join_sides.proofs.Searching.{before, there, behind}
use Rattle.join_sides.proofs.side_column.Goals as goal

pub returns-then-c-lo : goal.returns-then-c-lo
returns-then-c-lo c = let s = c.args in let low = cl (told s.own.now) in
    c.lowest_on_side.ensures ∙ ap (lowest_from low s.lo s.n) c.lowest_equal.ensures.0 ∙ before low s.lo s.n s.c
    c.if-c-lo.true

pub returns-then-c-lo-2 : goal.returns-then-c-lo-2
returns-then-c-lo-2 c = let s = c.args in there (cl (told s.own.now)) s.lo s.n s.c c.if-c-lo.false c.if-c-lo-2.true

pub returns : goal.returns
returns c = let s = c.args in let low = cl (told s.own.now) in
    c.lowest_on_side-2.ensures ∙ ap (lowest_from low s.lo s.n) c.lowest_equal-2.ensures.0 ∙ behind low s.lo s.n s.c
    c.if-c-lo.false c.if-c-lo-2.false
