use mathlib.Core.Path.{◌∙◌, ap}
use Rattle.plan_codec.specs.Decode.{fetch_of}
use Rattle.node_properties.proofs.fetch_field.Goals as goal

pub returns : goal.returns
returns c = c.fetch_from.ensures ∙ ap fetch_of c.get32.ensures
