use mathlib.Core.Path.{refl, ap₂, subst}
use mathlib.Core.List.{List, []}
use Rattle.row_order.specs.Iso.{Key}
use Rattle.semantics.specs.Facts as sem
use Rattle.facts.specs.Known.{known, Says}
use Rattle.join_facts.specs.Linking.{sides_placeable}
use Rattle.join_facts.proofs.join_facts.Goals as goal

pub join_order-order-requires : goal.join_order-order-requires
join_order-order-requires c = sides_placeable c.args.t c.args.a c.args.b c.requires.sides

pub sorted_facts-requires : goal.sorted_facts-requires
sorted_facts-requires c = (c.join_base-base.ensures.fine, (c.join_order-order.ensures (known c.args.a) (known c.args.b) refl refl refl).few)

pub returns : goal.returns
returns c = let k = c.join_order-order.ensures (known c.args.a) (known c.args.b) refl refl refl in
    subst (λ (F : sem.Facts). Says F c.sorted_facts.result) (ap₂ (λ (B : sem.Facts) (ks : List Key). sem.ordered B c.args.streams (sem.nf B [] ks))
    c.join_base-base.ensures.is k.is) c.sorted_facts.ensures
