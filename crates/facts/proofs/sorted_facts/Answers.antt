use mathlib.Core.Path.{subst}
use mathlib.Core.List.{List, []}
use Rattle.row_order.specs.Iso.{Key}
use Rattle.semantics.specs.Facts as sem
use Rattle.key_lists.specs.Keys.{keys_of, Keyed}
use Rattle.facts.specs.Known.{known}
use Rattle.facts.specs.Reading.{nf_is, small}
use Rattle.facts.specs.Saying.{says-ordered}
use Rattle.facts.proofs.sorted_facts.Goals as goal

pub normal-order-requires : goal.normal-order-requires
normal-order-requires c = record { small = small c.args.f c.requires.0; len_bound = c.requires.1 }

pub returns : goal.returns
returns c = says-ordered c.args.f c.args.streams c.normal-order.result (sem.nf (known c.args.f) [] (keys_of c.args.keys)) c.requires.0
    (subst (λ (l : List Key). Keyed l c.normal-order.result) (nf_is c.args.f c.requires.0 (keys_of c.args.keys)) c.normal-order.ensures)
