use mathlib.Core.Path.{◌≡◌, sym, ap}
use Prim.Native.Nat.{ℕ, ◌<◌, ◌≤◌}
use native.Mathlib.Omega.{arith}
use native.Mathlib.Decide.{dec_lt}
use lib.ListN.{get_or-eq_default}
use Rattle.plan.specs.Numbers.{join_types, join_type_of}
use Rattle.plan.specs.declared.JoinType.TheVariants.{RightAnti}
use Rattle.record_fields.proofs.join_type_of.Goals as goal

last : (k : ℕ) → Dec (k < 8) → 7 ≤ k → RightAnti ≡ join_type_of k
unfolding join_type_of
last k (yes l) h = ap join_type_of (let e : 7 ≡ k = omega arith in e)
last k (no l) h = sym (get_or-eq_default join_types RightAnti {n = k} (omega arith))

pub returns-in-0 : goal.returns-in-0
unfolding join_type_of
returns-in-0 c = ap join_type_of (sym c.in-0.is)

pub returns-in-1 : goal.returns-in-1
unfolding join_type_of
returns-in-1 c = ap join_type_of (sym c.in-1.is)

pub returns-in-2 : goal.returns-in-2
unfolding join_type_of
returns-in-2 c = ap join_type_of (sym c.in-2.is)

pub returns-in-3 : goal.returns-in-3
unfolding join_type_of
returns-in-3 c = ap join_type_of (sym c.in-3.is)

pub returns-in-4 : goal.returns-in-4
unfolding join_type_of
returns-in-4 c = ap join_type_of (sym c.in-4.is)

pub returns-in-5 : goal.returns-in-5
unfolding join_type_of
returns-in-5 c = ap join_type_of (sym c.in-5.is)

pub returns-in-6 : goal.returns-in-6
unfolding join_type_of
returns-in-6 c = ap join_type_of (sym c.in-6.is)

pub returns-in_default : goal.returns-in_default
returns-in_default c = last c.args.k (dec_lt c.args.k 8) (omega arith)
