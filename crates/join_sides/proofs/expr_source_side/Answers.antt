use mathlib.Core.Path.{refl, subst}
use Rattle.plan.specs.declared.JoinType.{JoinType}
use Rattle.asked_facts.specs.Asked.{told}
use Rattle.join_sides.specs.Sides.{Roomy}
use Rattle.join_sides.proofs.expr_source_side.Goals as goal

pub either_side-requires : goal.either_side-requires
either_side-requires c = (c.requires.0, c.requires.1, subst (λ (t : JoinType). Roomy t c.args.left (told c.args.own.now).width) c.in-Inner.is c.requires.2)

pub either_side-requires-in-Left : goal.either_side-requires-in-Left
either_side-requires-in-Left c = (c.requires.0, c.requires.1, subst (λ (t : JoinType). Roomy t c.args.left (told c.args.own.now).width) c.in-Left.is c.requires.2)

pub either_side-requires-in-Right : goal.either_side-requires-in-Right
either_side-requires-in-Right c = (c.requires.0, c.requires.1, subst (λ (t : JoinType). Roomy t c.args.left (told c.args.own.now).width) c.in-Right.is c.requires.2)

pub either_side-requires-in-Full : goal.either_side-requires-in-Full
either_side-requires-in-Full c = (c.requires.0, c.requires.1, subst (λ (t : JoinType). Roomy t c.args.left (told c.args.own.now).width) c.in-Full.is c.requires.2)

pub returns-in-Inner : goal.returns-in-Inner
returns-in-Inner c = rw c.in-Inner.is c.either_side.ensures

pub returns-in-Left : goal.returns-in-Left
returns-in-Left c = rw c.in-Left.is c.either_side-in-Left.ensures

pub returns-in-Right : goal.returns-in-Right
returns-in-Right c = rw c.in-Right.is c.either_side-in-Right.ensures

pub returns-in-Full : goal.returns-in-Full
returns-in-Full c = rw c.in-Full.is c.either_side-in-Full.ensures

pub returns-in-LeftSemi : goal.returns-in-LeftSemi
returns-in-LeftSemi c = rw c.in-LeftSemi.is (record { is = refl; few = c.requires.1 })

pub returns-in-LeftAnti : goal.returns-in-LeftAnti
returns-in-LeftAnti c = rw c.in-LeftAnti.is (record { is = refl; few = c.requires.1 })

pub returns-in-RightSemi : goal.returns-in-RightSemi
returns-in-RightSemi c = rw c.in-RightSemi.is (record { is = refl; few = c.requires.1 })

pub returns-in-RightAnti : goal.returns-in-RightAnti
returns-in-RightAnti c = rw c.in-RightAnti.is (record { is = refl; few = c.requires.1 })
