use native.Mathlib.Omega.{arith}
use Prim.Native.Nat.{ℕ, ◌+◌, ◌*◌, ◌-◌, ◌≤◌}
use mathlib.Core.Path.{◌≡◌, refl, sym}
use mathlib.Core.Bool.{true}
use mathlib.Core.Logic.{◌⊎◌, inl, inr}
use mathlib.Core.List.{map}
use Rattle.row_order.specs.Packed.{key_of}
use Rattle.scan.specs.Below.{all_none}
use Rattle.row_bytes.specs.Rows.{row_inside, stream_inside}
use Rattle.row_bytes.specs.Ordered.{none_or_some, pair_fails, pair_more, pairs_end}
use Rattle.row_bytes.proofs.in_order.Goals as goal

-- the loop ends at the last row, if there is one
last_or_none : (n i : ℕ) → i ≡ n - 1 → (n ≡ 0) ⊎ (0 + 1 ≤ n) → (n ≡ 0) ⊎ (i + 1 ≤ n)
last_or_none n i e (inl z) = inl z
last_or_none n i e (inr h) = inr (omega arith)

-- src/lib.rt:170:13
pub get32-n-requires : goal.get32-n-requires
get32-n-requires c = (stream_inside c.args.s.now c.args.at c.args.w _ true (sym c.requires.1) refl refl).0

-- src/lib.rt:173:5
pub loop-i-init : goal.loop-i-init
loop-i-init c = all_none _

-- src/lib.rt:174:37
pub overflow_add-at : goal.overflow_add-at
overflow_add-at c = let a = c.args in let i = stream_inside a.s.now a.at a.w c.get32-n.result true (sym c.requires.1) refl c.get32-n.ensures in let p = row_inside c.loop-i.i c.get32-n.result (4 + 8 * a.w) (omega arith) in let q = row_inside (c.loop-i.i + 1) c.get32-n.result (4 + 8 * a.w) (omega arith) in omega (arith, i.0, i.1, p, q)

-- src/lib.rt:174:46
pub overflow_mul-i : goal.overflow_mul-i
overflow_mul-i c = let a = c.args in let i = stream_inside a.s.now a.at a.w c.get32-n.result true (sym c.requires.1) refl c.get32-n.ensures in let p = row_inside c.loop-i.i c.get32-n.result (4 + 8 * a.w) (omega arith) in let q = row_inside (c.loop-i.i + 1) c.get32-n.result (4 + 8 * a.w) (omega arith) in omega (arith, i.0, i.1, p, q)

-- src/lib.rt:174:37
pub overflow_add-at-in-loop-i : goal.overflow_add-at-in-loop-i
overflow_add-at-in-loop-i c = let a = c.args in let i = stream_inside a.s.now a.at a.w c.get32-n.result true (sym c.requires.1) refl c.get32-n.ensures in let p = row_inside c.loop-i.i c.get32-n.result (4 + 8 * a.w) (omega arith) in let q = row_inside (c.loop-i.i + 1) c.get32-n.result (4 + 8 * a.w) (omega arith) in omega (arith, i.0, i.1, p, q)

-- src/lib.rt:174:56
pub overflow_add-at-in-loop-i-2 : goal.overflow_add-at-in-loop-i-2
overflow_add-at-in-loop-i-2 c = let a = c.args in let i = stream_inside a.s.now a.at a.w c.get32-n.result true (sym c.requires.1) refl c.get32-n.ensures in let p = row_inside c.loop-i.i c.get32-n.result (4 + 8 * a.w) (omega arith) in let q = row_inside (c.loop-i.i + 1) c.get32-n.result (4 + 8 * a.w) (omega arith) in omega (arith, i.0, i.1, p, q)

-- src/lib.rt:174:65
pub overflow_mul-i-in-loop-i : goal.overflow_mul-i-in-loop-i
overflow_mul-i-in-loop-i c = let a = c.args in let i = stream_inside a.s.now a.at a.w c.get32-n.result true (sym c.requires.1) refl c.get32-n.ensures in let p = row_inside c.loop-i.i c.get32-n.result (4 + 8 * a.w) (omega arith) in let q = row_inside (c.loop-i.i + 1) c.get32-n.result (4 + 8 * a.w) (omega arith) in omega (arith, i.0, i.1, p, q)

-- src/lib.rt:174:56
pub overflow_add-at-in-loop-i-3 : goal.overflow_add-at-in-loop-i-3
overflow_add-at-in-loop-i-3 c = let a = c.args in let i = stream_inside a.s.now a.at a.w c.get32-n.result true (sym c.requires.1) refl c.get32-n.ensures in let p = row_inside c.loop-i.i c.get32-n.result (4 + 8 * a.w) (omega arith) in let q = row_inside (c.loop-i.i + 1) c.get32-n.result (4 + 8 * a.w) (omega arith) in omega (arith, i.0, i.1, p, q)

-- src/lib.rt:174:13
pub compare_at-c-requires : goal.compare_at-c-requires
compare_at-c-requires c = let a = c.args in let i = stream_inside a.s.now a.at a.w c.get32-n.result true (sym c.requires.1) refl c.get32-n.ensures in let p = row_inside c.loop-i.i c.get32-n.result (4 + 8 * a.w) (omega arith) in let q = row_inside (c.loop-i.i + 1) c.get32-n.result (4 + 8 * a.w) (omega arith) in (omega arith, omega (arith, i.1, p), omega (arith, i.1, q))

-- src/lib.rt:176:13
pub returns-then-is_after : goal.returns-then-is_after
returns-then-is_after c = let a = c.args in pair_fails (map key_of a.keys.now) a.s.now a.at a.w c.get32-n.result c.loop-i.i c.compare_at-c.result c.is_after.result c.get32-n.ensures (omega arith) c.compare_at-c.ensures c.is_after.ensures c.if-is_after.true

-- src/lib.rt:173:5
pub loop-i-preserved : goal.loop-i-preserved
loop-i-preserved c = let a = c.args in pair_more (map key_of a.keys.now) a.s.now a.at a.w c.loop-i.i c.compare_at-c.result c.is_after.result c.loop-i.invariant c.compare_at-c.ensures c.is_after.ensures c.if-is_after.false

-- src/lib.rt:166:1
pub returns : goal.returns
returns c = let a = c.args in pairs_end (map key_of a.keys.now) a.s.now a.at a.w c.get32-n.result c.loop-i.i c.get32-n.ensures (last_or_none _ _ (omega arith) (none_or_some _)) (omega arith) c.loop-i.invariant
