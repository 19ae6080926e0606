use mathlib.Core.Path.{◌∙◌, ap, sym}
use lib.Dec.{eqb}
use mathlib.Core.List.{List, []}
use Rattle.row_order.specs.Iso.{Key}
use Rattle.semantics.specs.Facts as sem
use Rattle.key_lists.specs.Keys.{keys_of}
use Rattle.key_lists.specs.Lists.{length_keys}
use Rattle.asked_facts.specs.Asked.{told}
use Rattle.met_orders.specs.Meeting.{all_fronts}
use Rattle.met_orders.proofs.compatible.Goals as goal

pub returns : goal.returns
returns c = let s = c.args in let F = told s.b.now in
    ap (λ n. eqb c.fronts.result n) (sym (length_keys s.second.len s.second.word))
    ∙ all_fronts F (keys_of c.normal_form.result) (keys_of s.second) c.fronts.result c.fronts.ensures
    ∙ ap (λ (l : List Key). sem.prefixb (sem.nf F [] (keys_of s.second)) l) c.normal_form.ensures.is
