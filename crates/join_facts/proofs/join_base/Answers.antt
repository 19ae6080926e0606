use mathlib.Core.Path.{refl, subst}
use Rattle.semantics.specs.Facts as sem
use Rattle.facts.specs.Known.{Says}
use Rattle.join_facts.specs.Joining.{on_of}
use Rattle.join_facts.specs.Linking.{linkable}
use Rattle.join_facts.proofs.join_base.Goals as goal

pub beside-requires : goal.beside-requires
beside-requires c = let w = c.requires.sides.wide in
    (c.requires.sides.left, c.requires.sides.right, rw c.in-Inner.is at w)

pub link_all-requires : goal.link_all-requires
link_all-requires c = let w = c.requires.sides.wide in record {
  coherent = c.beside.ensures.fine;
  all = (
    linkable c.args.a.width c.args.b.width (on_of c.args.lefts.now c.args.rights.now) c.requires.fit
        (rw c.in-Inner.is at w),
    c.requires.pairs,
    c.requires.sides.left.wide,
  );
}

pub placed-requires : goal.placed-requires
placed-requires c = let w = c.requires.sides.wide in (c.requires.sides.left, rw c.in-Left.is at w)

pub shifted-requires : goal.shifted-requires
shifted-requires c = let w = c.requires.sides.wide in
    (c.requires.sides.right, rw c.in-Right.is at w)

pub unknown-requires : goal.unknown-requires
unknown-requires c = let w = c.requires.sides.wide in
    rw c.in-Full.is at w

pub returns-in-Inner : goal.returns-in-Inner
returns-in-Inner c = rw c.in-Inner.is
    (subst (λ (F : sem.Facts). Says (sem.link_all c.args.a.width (on_of c.args.lefts.now c.args.rights.now) F) c.link_all.result)
    c.beside.ensures.is c.link_all.ensures)

pub returns-in-Left : goal.returns-in-Left
returns-in-Left c = rw c.in-Left.is c.placed.ensures

pub returns-in-Right : goal.returns-in-Right
returns-in-Right c = rw c.in-Right.is c.shifted.ensures

pub returns-in-Full : goal.returns-in-Full
returns-in-Full c = rw c.in-Full.is c.unknown.ensures

pub returns-in-LeftSemi : goal.returns-in-LeftSemi
returns-in-LeftSemi c = rw c.in-LeftSemi.is (record { is = refl; fine = c.requires.sides.left })

pub returns-in-LeftAnti : goal.returns-in-LeftAnti
returns-in-LeftAnti c = rw c.in-LeftAnti.is (record { is = refl; fine = c.requires.sides.left })

pub returns-in-RightSemi : goal.returns-in-RightSemi
returns-in-RightSemi c = rw c.in-RightSemi.is (record { is = refl; fine = c.requires.sides.right })

pub returns-in-RightAnti : goal.returns-in-RightAnti
returns-in-RightAnti c = rw c.in-RightAnti.is (record { is = refl; fine = c.requires.sides.right })
