use native.Mathlib.Omega.{arith}
use Prim.Native.Nat.{◌≤◌}
use mathlib.Core.Path.{refl}
use lib.ListN.{get_or}
use Rattle.row_bytes.specs.Rows.{counted_start, counted_inside, counted_more, counted_end}
use Rattle.row_bytes.proofs.rows_in_all.Goals as goal

-- src/lib.rt:105:5
pub loop-j-init : goal.loop-j-init
loop-j-init c = (omega arith, counted_start _ _ c.requires.1)

-- src/lib.rt:107:17
pub get32-n-requires : goal.get32-n-requires
get32-n-requires c = let a = c.args in (counted_inside a.s.now a.widths.now c.loop-j.at c.loop-j.j (omega arith) c.loop-j.rows _ c.loop-j.invariant.1 refl).0

-- src/lib.rt:108:9
pub overflow_add-rows : goal.overflow_add-rows
overflow_add-rows c = let a = c.args in let i = counted_inside a.s.now a.widths.now c.loop-j.at c.loop-j.j (omega arith) c.loop-j.rows c.get32-n.result c.loop-j.invariant.1 c.get32-n.ensures in let l : get_or a.widths.now c.loop-j.j 0 ≤ 32 = c.requires.0 c.loop-j.j (omega arith) in let m = counted_more a.s.now a.widths.now c.loop-j.at c.loop-j.j (omega arith) c.loop-j.rows c.get32-n.result c.loop-j.invariant.1 c.get32-n.ensures in omega (arith, i.1, m.few)

-- src/lib.rt:109:14
pub overflow_add-at : goal.overflow_add-at
overflow_add-at c = let a = c.args in let i = counted_inside a.s.now a.widths.now c.loop-j.at c.loop-j.j (omega arith) c.loop-j.rows c.get32-n.result c.loop-j.invariant.1 c.get32-n.ensures in let l : get_or a.widths.now c.loop-j.j 0 ≤ 32 = c.requires.0 c.loop-j.j (omega arith) in omega (arith, i.0, i.1)

-- src/lib.rt:109:32
pub overflow_mul-at : goal.overflow_mul-at
overflow_mul-at c = let a = c.args in let i = counted_inside a.s.now a.widths.now c.loop-j.at c.loop-j.j (omega arith) c.loop-j.rows c.get32-n.result c.loop-j.invariant.1 c.get32-n.ensures in let l : get_or a.widths.now c.loop-j.j 0 ≤ 32 = c.requires.0 c.loop-j.j (omega arith) in omega (arith, i.0, i.1)

-- src/lib.rt:109:28
pub overflow_add-at-in-loop-j : goal.overflow_add-at-in-loop-j
overflow_add-at-in-loop-j c = let a = c.args in let i = counted_inside a.s.now a.widths.now c.loop-j.at c.loop-j.j (omega arith) c.loop-j.rows c.get32-n.result c.loop-j.invariant.1 c.get32-n.ensures in let l : get_or a.widths.now c.loop-j.j 0 ≤ 32 = c.requires.0 c.loop-j.j (omega arith) in omega (arith, i.0, i.1)

-- src/lib.rt:109:23
pub overflow_mul-at-in-loop-j : goal.overflow_mul-at-in-loop-j
overflow_mul-at-in-loop-j c = let a = c.args in let i = counted_inside a.s.now a.widths.now c.loop-j.at c.loop-j.j (omega arith) c.loop-j.rows c.get32-n.result c.loop-j.invariant.1 c.get32-n.ensures in let l : get_or a.widths.now c.loop-j.j 0 ≤ 32 = c.requires.0 c.loop-j.j (omega arith) in omega (arith, i.0, i.1)

-- src/lib.rt:109:14
pub overflow_add-at-in-loop-j-2 : goal.overflow_add-at-in-loop-j-2
overflow_add-at-in-loop-j-2 c = let a = c.args in let i = counted_inside a.s.now a.widths.now c.loop-j.at c.loop-j.j (omega arith) c.loop-j.rows c.get32-n.result c.loop-j.invariant.1 c.get32-n.ensures in let l : get_or a.widths.now c.loop-j.j 0 ≤ 32 = c.requires.0 c.loop-j.j (omega arith) in omega (arith, i.0, i.1)

-- src/lib.rt:105:5
pub loop-j-preserved : goal.loop-j-preserved
loop-j-preserved c = let a = c.args in let i = counted_inside a.s.now a.widths.now c.loop-j.at c.loop-j.j (omega arith) c.loop-j.rows c.get32-n.result c.loop-j.invariant.1 c.get32-n.ensures in let l : get_or a.widths.now c.loop-j.j 0 ≤ 32 = c.requires.0 c.loop-j.j (omega arith) in (omega (arith, i.1), counted_more a.s.now a.widths.now c.loop-j.at c.loop-j.j (omega arith) c.loop-j.rows c.get32-n.result c.loop-j.invariant.1 c.get32-n.ensures)

-- src/lib.rt:98:1
pub returns : goal.returns
returns c = let a = c.args in counted_end a.s.now a.widths.now c.loop-j.at c.loop-j.j c.loop-j.rows (omega arith) c.loop-j.invariant.1
