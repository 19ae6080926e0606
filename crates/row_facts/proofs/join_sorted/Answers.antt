use mathlib.Core.Bool.{cond}
use Rattle.semantics.specs.Facts as sem
use Rattle.facts.specs.Known.{known}
use Rattle.fact_slots.specs.Slots.{loaded}
use Rattle.node_facts.specs.Ready.{type_in, on_in}
use Rattle.row_facts.specs.Over.{stored_says, streams_less, either_less}
use Rattle.row_facts.proofs.join_sorted.Goals as goal

pub sort_merge_joined-h-requires : goal.sort_merge_joined-h-requires
sort_merge_joined-h-requires c = rw (c.load_row-f.ensures, c.load_row-g.ensures) (c.requires.1, c.requires.2, c.requires.5)

pub store-requires : goal.store-requires
store-requires c = let r = c.args.r.now in
    let a = c.load_row-f.result in let b = c.load_row-g.result in let t = type_in r in (
      c.requires.0,
      c.sort_merge_joined-h.ensures.fine,
      streams_less (sem.join_facts t (sem.smj_kept t) (on_in r) (known a) (known b) (cond (sem.by_right t) b.streams a.streams))
          c.sort_merge_joined-h.result c.sort_merge_joined-h.ensures
          (either_less (sem.by_right t) a.streams b.streams 65536 (rw c.load_row-f.ensures c.requires.6)
          (rw c.load_row-g.ensures c.requires.7)),
    )

pub returns : goal.returns
returns c = let r = c.args.r.now in
    let t = type_in r in let a = loaded c.args.a.now in let b = loaded c.args.b.now in
    stored_says (sem.join_facts t (sem.smj_kept t) (on_in r) (known a) (known b) (cond (sem.by_right t) b.streams a.streams))
    c.sort_merge_joined-h.result c.args.own.now c.store.new.b
    (rw (c.load_row-f.ensures, c.load_row-g.ensures) at
    c.sort_merge_joined-h.ensures) c.store.ensures
