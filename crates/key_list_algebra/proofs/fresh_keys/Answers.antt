use Rattle.std.proofs.Common.{rules}
use Rattle.key_list_algebra.proofs.fresh_keys.Goals as goal

pub returns : goal.returns
returns c = c.normal_by.ensures (λ d. d) (λ d r h e. search rules)
