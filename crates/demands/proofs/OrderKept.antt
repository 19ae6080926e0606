-- Demand 3, its first sentence: a plan that passes the order check never feeds an operator rows out of an order that it wants there,
-- on any stream, in any run over source rows that keep their declared facts, whatever its filters test and whatever it chooses.
-- Definitions: Plan, well_formed (plan); before (row_order: the ISO order); check, wanted, Env, Sources, Run, Everywhere, Filled (semantics).
use Rattle.std.specs.Prelude.{◌≡◌, true, List, [], ◌∷◌, ℕ, zero, suc, get_or}
use Rattle.row_order.specs.Lists.{All, all_nil, all_cons, pw_nil}
use Rattle.row_order.specs.RowLists.{Sorted}
use Rattle.row_order.specs.Forms.{sorted_ordered, ordered_sorted}
use Rattle.plan.specs.Forest.{Forest}
use Rattle.plan.specs.Op.{Op, Plan}
use Rattle.plan.specs.WellFormed.{well_formed}
use Rattle.semantics.specs.Properties.{wanted}
use Rattle.semantics.specs.Check.{check, EachMet}
use Rattle.semantics.specs.Runs.{Streams, Env, Run, EachSource, Sources}
use Rattle.semantics.specs.SourceRows.{rows_for, Filled}
use Rattle.semantics.specs.Holds.{Wanted}
use Rattle.semantics.proofs.Theorems.Check.CheckIsMet.{met-check}
use Rattle.semantics.proofs.Theorems.Common.Streams.{all_at}
use Rattle.semantics.proofs.Theorems.Runs.RunStreams.{everywhere_map}
use Rattle.semantics.proofs.Theorems.Sound.Sound.{sound}
use Rattle.semantics.proofs.Theorems.Runs.Exists.{run_exists}
use Rattle.semantics.proofs.Theorems.Sound.DeclaredKept.{declared_kept}
use Rattle.demands.specs.OrderKept.{FedInOrder, AllFed}

-- An operator is fed in order exactly if every stream of every child is sorted as it wants
pub sorted_fed : (o : Op) (css : List Streams) → Wanted o css → FedInOrder o css
sorted_fed o css h i s m n = (sorted_ordered (wanted o i) (get_or (get_or css i []) s []) (all_at [] pw_nil (h i) s)).in_order m n

pub fed_sorted : (o : Op) (css : List Streams) → FedInOrder o css → Wanted o css
fed_sorted o css h i = each (get_or css i []) (λ s. ordered_sorted (wanted o i) (get_or (get_or css i []) s []) (record { in_order = h i s }))
  where
    each : (ss : Streams) → ((s : ℕ) → Sorted (wanted o i) (get_or ss s [])) → All (Sorted (wanted o i)) ss
    each [] f = all_nil
    each (x ∷ ss) f = all_cons (f zero) (each ss (λ s. f (suc s)))

pub order_kept : (f : Plan) → check f ≡ true → (E : Env) → Sources E 0 f → (out : Forest Streams) → Run E 0 0 f out → AllFed f out
order_kept f c E d out r = everywhere_map (λ o below css own h. sorted_fed o css h.1) (sound r d c)

-- No empty promise: the check passes wherever each node's wanted orders are met by its children's facts; every plan has source rows, as
-- many as one likes on every stream, that keep its declared facts; and every accepted plan has a run, whatever its source rows and filter
-- tests. `PassingPlan` (semantics) has a plan of eight nodes with all of it
pub check_passes : {f : Plan} → EachMet f → check f ≡ true
check_passes = met-check

pub declared_rows : (n : ℕ) (f : Plan) → (E : Env) × Sources E 0 f × EachSource (λ i s. Filled n (E.rows i) s) 0 f
declared_rows n f = (rows_for n f, (declared_kept n f).0, (declared_kept n f).1)

pub runs : (f : Plan) → well_formed f ≡ true → (E : Env) → (out : Forest Streams) × Run E 0 0 f out
runs f w E = run_exists E f w
