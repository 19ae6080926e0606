use Rattle.sort_placement.proofs.ensure_sorting.Goals as goal

pub returns : goal.returns
returns c = let x = c.call.ensures in (x.0, x.2)
