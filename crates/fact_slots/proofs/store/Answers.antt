use borrow.Author.Rules.{rules}
use mathlib.Core.Path.{◌∙◌, ap}
use Prim.Native.Nat.{◌<◌, ◌^◌}
use Rattle.byte_rows.specs.Rows.{low_bytes}
use Rattle.fact_slots.specs.Storing.{stored_by}
use Rattle.fact_slots.proofs.store.Goals as goal
use Rattle.fact_slots.proofs.store.Goals.{Start}

small : (c : Start) → c.args.f.consts < 2 ^ 32
small c = search rules

wide : (c : Start) → c.args.f.order.word < 2 ^ 64
wide c = search rules

pub returns : goal.returns
returns c = stored_by c.args.f c.args.b.now
    c.write_row.new.d
    c.write_row-2.new.d c.to_bytes.new.b c.requires.1 c.requires.2
    (small (goal.at.returns c).Start) (wide (goal.at.returns c).Start)
    (c.write_row.ensures
    ∙ ap low_bytes c.head_row-head.ensures) (c.write_row-2.ensures
    ∙ ap low_bytes c.word_row-keys.ensures) c.to_bytes.ensures
