use mathlib.Core.Path.{refl, ap}
use Prim.Native.Nat.{◌+◌}
use Rattle.key_lists.specs.Lists.{fits, longer}
use Rattle.key_lists.proofs.appended.Goals as goal

pub overflow_add-result : goal.overflow_add-result
overflow_add-result c = fits c.args.k.len c.args.k.word c.args.key c.placed.result c.requires.0 c.requires.1
    c.placed.ensures

pub returns : goal.returns
returns c = longer c.args.k c.args.key _ c.requires.0 c.requires.1 (ap (λ x. c.args.k.word + x) c.placed.ensures) refl
