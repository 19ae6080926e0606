use mathlib.Core.Path.{refl, sym, ◌∙◌}
use Rattle.std.proofs.lemmas.Result.{err_from_is_err_and}
use Rattle.plan_arena.specs.ReadFile.{few_blocks, fillable}
use Rattle.plan_arena.proofs.read.Goals as goal

pub returns-in_err-refusal_of : goal.returns-in_err-refusal_of
returns-in_err-refusal_of c = let p = err_from_is_err_and c.from_residual.result c.from_residual.ensures.1 in
    rw (p.1, p.2) record { refusal = sym c.in_err-refusal_of.was ∙ c.refusal_of.ensures; holds = tt; stays = refl }

pub record_count-c-requires : goal.record_count-c-requires
record_count-c-requires c = let e = few_blocks c.args.s.now (sym c.refusal_of.ensures ∙ c.in_ok-refusal_of.was) in (refl, e.0, e.1)

pub fill-requires : goal.fill-requires
fill-requires c = fillable c.args.s.now _ _ (sym c.refusal_of.ensures ∙ c.in_ok-refusal_of.was) c.record_count-c.ensures c.requires

pub returns : goal.returns
returns c = record { refusal = sym c.in_ok-refusal_of.was ∙ c.refusal_of.ensures; holds = c.fill.ensures; stays = tt }
