use Rattle.step_rows.specs.Projecting.{past_added}
use Rattle.step_rows.proofs.with_past.Goals as goal

pub returns : goal.returns
returns c = let a = c.args in let m = c.moved_up-past in let e = c.either in
    past_added a.set a.w m.result e.result m.ensures e.ensures
