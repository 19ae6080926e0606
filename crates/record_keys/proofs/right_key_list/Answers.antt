use mathlib.Core.Path.{ap₂, subst}
use mathlib.Core.List.{List, map}
use Prim.Native.Nat.{ℕ}
use lib.ListN.{take}
use Rattle.row_order.specs.Packed.{key_of}
use Rattle.row_order.specs.Iso.{Key}
use Rattle.key_lists.specs.Keys.{Keyed}
use Rattle.record_keys.proofs.right_key_list.Goals as goal

pub returns : goal.returns
returns c = subst (λ (l : List Key). Keyed l c.keys_of.result) (ap₂ (λ (n : ℕ) (row : List ℕ). map key_of (take n row)) c.wide.ensures
    c.packed_right_keys-row.ensures) c.keys_of.ensures
