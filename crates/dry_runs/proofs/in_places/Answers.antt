use Rattle.dry_runs.specs.Loading.{counters}
use Rattle.dry_runs.proofs.in_places.Goals as goal

pub step_with_rows-requires : goal.step_with_rows-requires
step_with_rows-requires g c = let p = c.requires in (p.0, p.1, counters c.args.gone g.row.PLACES p.2 p.3)
