use Prim.Native.Nat.{◌-◌}
use Rattle.sort_connection.specs.Connection.{Connecting}
use Rattle.sort_connection.proofs.update_sort_ctx_children_data.update_sort_ctx_children_data.Given as goal

abbrev pub invariant-loop-k : goal.invariant-loop-k
invariant-loop-k l = Connecting l.m l.u l.initial.ks l.k-index l.ks
