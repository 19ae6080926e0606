use native.Mathlib.Omega.{arith}
use mathlib.Core.Path.{ap}
use lib.ListN.{length}
use Prim.Native.Nat.{◌+◌, ◌≤◌}
use Rattle.key_lists.specs.Keys.{keys_left, keys_of}
use Rattle.key_lists.specs.Lists.{length_keys}
use Rattle.new_records.specs.Records.{row_none, row_room, row_more, row_all}
use Rattle.new_records.proofs.key_row.Goals as goal
use Rattle.new_records.proofs.key_row.Goals.{In-Some}

room : (c : In-Some) → c.loop-i.i + 1 ≤ 8
room c = let k = c.args.k in let p = c.requires in omega (arith, row_room c.loop-i.invariant, ap length c.in-Some.ensures.steps, length_keys k.len k.word)

pub loop-i-init : goal.loop-i-init
loop-i-init c = row_none (keys_of c.args.k) (keys_left c.iter-key-items.result) c.iter-key-items.ensures

pub overflow_mul-row : goal.overflow_mul-row
overflow_mul-row c = let z = room (goal.at.overflow_mul-row c).In-Some in omega arith

pub bounds-row-i : goal.bounds-row-i
bounds-row-i c = let z = room (goal.at.bounds-row-i c).In-Some in omega arith

pub overflow_mul-row-in-loop-i : goal.overflow_mul-row-in-loop-i
overflow_mul-row-in-loop-i c = let z = room (goal.at.overflow_mul-row-in-loop-i c).In-Some in omega arith

pub overflow_add-row : goal.overflow_add-row
overflow_add-row c = let z = room (goal.at.overflow_add-row c).In-Some in omega arith

pub bounds-row-i-in-loop-i : goal.bounds-row-i-in-loop-i
bounds-row-i-in-loop-i c = let z = room (goal.at.bounds-row-i-in-loop-i c).In-Some in omega arith

pub overflow_step-i : goal.overflow_step-i
overflow_step-i c = let z = room (goal.at.overflow_step-i c).In-Some in omega arith

pub loop-i-preserved : goal.loop-i-preserved
loop-i-preserved c = let k = c.args.k in let l = c.loop-i in let p = c.requires in
    row_more (keys_of k) l.row l.i (keys_left l.key-iterator) c.in-Some.key (keys_left c.next.new.self) (let z = length_keys k.len k.word in omega arith)
    c.in-Some.ensures.steps l.invariant

pub returns : goal.returns
returns c = let l = c.loop-i in row_all (keys_of c.args.k) l.row l.i (keys_left l.key-iterator) l.invariant c.in-None.ensures.steps.0
