use Rattle.semantics.specs.Facts as sem
use Rattle.facts.specs.Known.{known}
use Rattle.fact_slots.specs.Slots.{loaded}
use Rattle.node_facts.specs.Ready.{type_in, on_in}
use Rattle.row_facts.specs.Over.{stored_says, streams_less}
use Rattle.row_facts.proofs.join_hashed.Goals as goal

pub hash_joined-h-requires : goal.hash_joined-h-requires
hash_joined-h-requires c = rw (c.load_row-f.ensures, c.load_row-g.ensures) (c.requires.1, c.requires.2, c.requires.5)

pub store-requires : goal.store-requires
store-requires c = let r = c.args.r.now in
    let a = c.load_row-f.result in let b = c.load_row-g.result in let t = type_in r in (
      c.requires.0,
      c.hash_joined-h.ensures.fine,
      streams_less (sem.join_facts t (sem.hash_kept t) (on_in r) (known a) (known b) b.streams)
          c.hash_joined-h.result c.hash_joined-h.ensures (rw c.load_row-g.ensures c.requires.6),
    )

pub returns : goal.returns
returns c = let r = c.args.r.now in
    let t = type_in r in let a = loaded c.args.a.now in let b = loaded c.args.b.now in
    stored_says (sem.join_facts t (sem.hash_kept t) (on_in r) (known a) (known b) b.streams) c.hash_joined-h.result
    c.args.own.now c.store.new.b
    (rw (c.load_row-f.ensures, c.load_row-g.ensures) at
    c.hash_joined-h.ensures) c.store.ensures
