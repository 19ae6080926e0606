use borrow.Author.Rules.{rules}
use native.Mathlib.Omega.{arith}
use mathlib.Core.Path.{sym, ap, subst, ◌∙◌}
use mathlib.Core.List.{List, ◌++◌}
use Prim.Native.Nat.{ℕ, ◌%◌, ◌<◌, ◌^◌}
use lib.ListN.{take, drop, set, length-set}
use Rattle.scan.specs.ByteLaws.{length_part}
use Rattle.scan.specs.Parts.{splice, splice-length}
use Rattle.byte_rows.specs.Rows.{low_bytes}
use Rattle.semantics.specs.Facts as sem
use Rattle.key_lists.specs.Keys.{keys_of}
use Rattle.facts.specs.Known.{Says}
use Rattle.fact_slots.specs.Slots.{loaded}
use Rattle.asked_facts.specs.Asked.{told}
use Rattle.row_facts.specs.Ordering.{order_says}
use Rattle.row_facts.proofs.reorder.Goals as goal
use Rattle.row_facts.proofs.reorder.Goals.{After-normal_form-order}

wide : (c : After-normal_form-order) → c.normal_form-order.result.word < 2 ^ 64
wide c = search rules

pub shape_of-own : goal.shape_of-own
shape_of-own c = length-set (splice c.keep.new.own 8 8
    c.write_row.new.d) 1
    (c.normal_form-order.result.len % 256)
    ∙ splice-length c.keep.new.own c.write_row.new.d 8 8
    (let k = c.keep.auto.own in
    let p = c.requires.0 in
    omega arith) (c.write_row.auto.d
    ∙ length_part c.keep.new.own 8 8
    (let k = c.keep.auto.own in
    let p = c.requires.0 in omega arith))
    ∙ c.keep.auto.own

pub returns : goal.returns
returns c = let b = c.args.b.now in let o = c.normal_form-order.result in
    let f = c.normal_form-order.ensures.few in
    let w = c.write_row.ensures
    ∙ ap low_bytes c.word_row-word.ensures in
    subst (λ (m : List ℕ). Says (sem.reorder (told b) (keys_of c.args.keys))
    (loaded (set (splice m 8 8 c.write_row.new.d) 1 (o.len % 256))))
    (sym c.keep.ensures)
    (subst (λ (W : List ℕ). Says (sem.reorder (told b) (keys_of c.args.keys))
    (loaded (set (splice (take 48 b ++ drop 48 c.args.own.now) 8 8 W) 1 (o.len % 256)))) (sym w)
    (order_says b (drop 48 c.args.own.now) c.args.keys o (o.len % 256) c.requires.1
    (wide (goal.at.returns c).After-normal_form-order)
    c.normal_form-order.ensures (omega arith)))
