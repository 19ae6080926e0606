use mathlib.Core.Path.{◌≡◌}
use Prim.Native.Nat.{ℕ, ◌+◌, ◌≤◌, ◌<◌}
use lib.ListN.{length}
use Rattle.row_order.specs.Packed.{bit}
use Rattle.key_lists.specs.Keys.{keys_left, keys_of, Tight}
use Rattle.key_list_algebra.specs.Normalising.{Normalising}
use Rattle.key_list_algebra.proofs.normal_by.Given as goal

abbrev pub invariant-loop-key : goal.invariant-loop-key
invariant-loop-key g l = (l.out.len + length (keys_left l.key-iterator) ≤ 8) × Tight l.out
    × ((low : ℕ → ℕ) → ((c r : ℕ) → c < 32 → goal.L-post g l.fn.lowest c r → r ≡ low c)
    → Normalising (bit l.fn.consts) low (keys_of l.fn.k) l.out l.seen (keys_left l.key-iterator))
