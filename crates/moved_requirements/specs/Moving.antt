-- Columns moved back by an offset, signed and with its range shown, or through a projection; keys compared. Assumes nothing.
use Rattle.std.specs.Prelude.{◌≡◌, refl, List, [], ◌∷◌, map, ℕ, zero, suc, ◌+◌, ◌-◌, ◌/◌, ◌≤◌, ◌<◌, ℤ, pos, neg_ℤ, nat_abs, ◌+ℤ◌, ◌-ℤ◌}
use Rattle.std.proofs.Common.{ap, ap₂, ◌∙◌, arith, le→leb, lt→ltb, SFits, to_z, le-ltb}
use Rattle.std.proofs.Math.Path.{subst⁻¹}
use Rattle.std.proofs.Math.IntN.{+ℤ_idl}
use Rattle.std.specs.Int.{w64}
use Rattle.std.proofs.lemmas.Int.{to_z-of_z}
use Rattle.row_order.specs.Iso.{Key}
use Rattle.row_order.specs.Packed.{key_of}
use Rattle.row_order.specs.Lists.{All, all_nil, all_cons}
use Rattle.semantics.specs.Facts.{with_column}
use Rattle.key_lists.specs.declared.Keys.{Keys}
use Rattle.key_lists.specs.Keys.{keys_in, keys_of, InRange, Movable, moved_by}
use Rattle.walks.specs.SortPushdown.{add_offset_to_physical_sort_exprs}

-- ---- back by an offset: signed, range shown

less : (a b : ℕ) → b ≤ a → pos a +ℤ neg_ℤ (pos b) ≡ pos (a - b)
less a zero h = ap pos (let e : a + 0 ≡ a - 0 = omega arith in e)
less a (suc b) h = rw (le-ltb a (suc b) h)

pub neg_fits : (off : ℕ) → off ≤ 32 → SFits w64 (neg_ℤ (pos off))
neg_fits zero h = record { sfits = omega arith }
neg_fits (suc n) h = record { sfits = omega arith }

pub minus : (off : ℕ) → off ≤ 32 → pos 0 -ℤ to_z w64 off ≡ neg_ℤ (pos off)
minus off h = ap (λ (z : ℤ). pos 0 -ℤ z) (to_z-of_z w64 (pos off) (record { sfits = omega arith })) ∙ +ℤ_idl (neg_ℤ (pos off))

-- a key's column is below 32
keys_below : (n w : ℕ) → All (λ k. k.col < 32) (keys_in n w)
keys_below zero w = all_nil
keys_below (suc n) w = let h : (key_of w).col < 32 = omega arith in all_cons h (keys_below n (w / 256))

room_each : (off : ℕ) (ks : List Key) → All (λ k. off ≤ k.col) ks → All (λ k. k.col < 32) ks → All (Movable (neg_ℤ (pos off))) ks
room_each off [] h g = all_nil
room_each off (k ∷ ks) (all_cons h hs) (all_cons g gs) =
    all_cons (subst⁻¹ InRange (less k.col off h)
    (record { low = record { le = le→leb 0 (k.col - off) (omega arith) }; high = record { lt = lt→ltb (k.col - off) 32 (omega arith) } }))
    (room_each off ks hs gs)

pub back_room : (off : ℕ) (k : Keys) → All (λ k. off ≤ k.col) (keys_of k) → All (Movable (neg_ℤ (pos off))) (keys_of k)
back_room off k h = room_each off (keys_of k) h (keys_below k.len k.word)

pub back_by : (off : ℕ) (ks : List Key) → All (λ k. off ≤ k.col) ks → map (moved_by (neg_ℤ (pos off))) ks ≡ add_offset_to_physical_sort_exprs off ks
back_by off [] h = refl
back_by off (k ∷ ks) (all_cons h hs) = ap₂ ◌∷◌ (ap (λ (z : ℤ). with_column (nat_abs z) k) (less k.col off h)) (back_by off ks hs)
