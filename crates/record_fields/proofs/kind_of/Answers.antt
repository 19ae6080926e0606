use mathlib.Core.Path.{◌≡◌, sym, ap}
use Prim.Native.Nat.{ℕ, ◌<◌}
use native.Mathlib.Omega.{arith}
use native.Mathlib.Decide.{dec_lt}
use lib.ListN.{get_or-eq_default}
use Rattle.plan.specs.Numbers.{kinds, kind_of}
use Rattle.plan.specs.declared.Kind.TheVariants.{PartialSort}
use Rattle.record_fields.proofs.kind_of.Goals as goal

last : (k : ℕ) → Dec (k < 16) → (k < 16 → k ≡ 0) → PartialSort ≡ kind_of k
unfolding kind_of
last k (yes h) z = ap kind_of (sym (z h))
last k (no h) z = sym (get_or-eq_default kinds PartialSort {n = k} (omega arith))

pub returns-in-1 : goal.returns-in-1
unfolding kind_of
returns-in-1 c = ap kind_of (sym c.in-1.is)

pub returns-in-2 : goal.returns-in-2
unfolding kind_of
returns-in-2 c = ap kind_of (sym c.in-2.is)

pub returns-in-3 : goal.returns-in-3
unfolding kind_of
returns-in-3 c = ap kind_of (sym c.in-3.is)

pub returns-in-4 : goal.returns-in-4
unfolding kind_of
returns-in-4 c = ap kind_of (sym c.in-4.is)

pub returns-in-5 : goal.returns-in-5
unfolding kind_of
returns-in-5 c = ap kind_of (sym c.in-5.is)

pub returns-in-6 : goal.returns-in-6
unfolding kind_of
returns-in-6 c = ap kind_of (sym c.in-6.is)

pub returns-in-7 : goal.returns-in-7
unfolding kind_of
returns-in-7 c = ap kind_of (sym c.in-7.is)

pub returns-in-8 : goal.returns-in-8
unfolding kind_of
returns-in-8 c = ap kind_of (sym c.in-8.is)

pub returns-in-9 : goal.returns-in-9
unfolding kind_of
returns-in-9 c = ap kind_of (sym c.in-9.is)

pub returns-in-10 : goal.returns-in-10
unfolding kind_of
returns-in-10 c = ap kind_of (sym c.in-10.is)

pub returns-in-11 : goal.returns-in-11
unfolding kind_of
returns-in-11 c = ap kind_of (sym c.in-11.is)

pub returns-in-12 : goal.returns-in-12
unfolding kind_of
returns-in-12 c = ap kind_of (sym c.in-12.is)

pub returns-in-13 : goal.returns-in-13
unfolding kind_of
returns-in-13 c = ap kind_of (sym c.in-13.is)

pub returns-in-14 : goal.returns-in-14
unfolding kind_of
returns-in-14 c = ap kind_of (sym c.in-14.is)

pub returns-in-15 : goal.returns-in-15
unfolding kind_of
returns-in-15 c = ap kind_of (sym c.in-15.is)

pub returns-in_default : goal.returns-in_default
returns-in_default c = last c.args.k (dec_lt c.args.k 16) (λ h. omega arith)
