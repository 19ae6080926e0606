use mathlib.Core.Path.{sym, ◌∙◌}
use mathlib.Core.List.{[], ◌∷◌}
use Rattle.record_fields.specs.Decoded.{packed_right_bytes}
use Rattle.record_keys.proofs.packed_right_keys.Goals as goal

pub returns : goal.returns
returns c = (λ i. c.packed.ensures i
    ∷ c.packed-2.ensures i ∷ c.packed-3.ensures i ∷ c.packed-4.ensures i
    ∷ c.packed-5.ensures i
    ∷ c.packed-6.ensures i ∷ c.packed-7.ensures i ∷ c.packed-8.ensures i
    ∷ [])
    ∙ sym (packed_right_bytes c.args.r.now
    c.requires)
