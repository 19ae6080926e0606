use native.Mathlib.Omega.{arith}
use mathlib.Core.Path.{refl, ap}
use lib.ListN.{length}
use Prim.Native.Nat.{◌+◌, ◌≤◌}
use Rattle.key_lists.specs.Keys.{keys_left, keys_of}
use Rattle.key_lists.specs.Lists.{length_keys}
use Rattle.step_nodes.specs.Moves.{unpacking_none, unpacking_more, unpacked_all}
use Rattle.step_nodes.proofs.unpacked.Goals as goal
use Rattle.step_nodes.proofs.unpacked.Goals.{In-Some}

room : (c : In-Some) → c.loop-j.j + 1 ≤ 8
room c = let k = c.args.k in let p = c.requires in omega (arith, c.loop-j.invariant.room, ap length c.in-Some.ensures.steps, length_keys k.len k.word)

pub loop-j-init : goal.loop-j-init
loop-j-init c = unpacking_none (keys_of c.args.k) _ (keys_left c.iter-key-items.result) refl c.iter-key-items.ensures

pub offset_bounds-items-j : goal.offset_bounds-items-j
offset_bounds-items-j c = let z = room (goal.at.offset_bounds-items-j c).In-Some in omega arith

pub bounds-items-j : goal.bounds-items-j
bounds-items-j c = let z = room (goal.at.bounds-items-j c).In-Some in let g = c.loop-j.invariant.long in omega arith

pub overflow_step-j : goal.overflow_step-j
overflow_step-j c = let z = room (goal.at.overflow_step-j c).In-Some in omega arith

pub loop-j-preserved : goal.loop-j-preserved
loop-j-preserved c = let k = c.args.k in let l = c.loop-j in let p = c.requires in
    unpacking_more (keys_of k) l.j l.items (keys_left l.key-iterator) c.in-Some.key (keys_left c.next.new.self)
    (let z = length_keys k.len k.word in omega arith) c.in-Some.ensures.steps l.invariant

pub returns : goal.returns
returns c = let l = c.loop-j in unpacked_all c.args.k l.j l.items (keys_left l.key-iterator) c.requires c.in-None.ensures.steps.0 l.invariant
