use mathlib.Core.Path.{◌∙◌, ap, sym}
use lib.Dec.{eqb}
use Rattle.semantics.specs.Facts.{known_order}
use Rattle.key_lists.specs.Keys.{keys_of}
use Rattle.key_lists.specs.Lists.{length_keys}
use Rattle.asked_facts.specs.Asked.{told}
use Rattle.met_orders.specs.Meeting.{all_fronts}
use Rattle.met_orders.proofs.meets.Goals as goal

pub returns : goal.returns
returns c = let s = c.args in ap (λ n. eqb c.met_keys.result n) (sym (length_keys s.k.len s.k.word))
    ∙ all_fronts (told s.b.now) (known_order (told s.b.now)) (keys_of s.k) c.met_keys.result c.met_keys.ensures
