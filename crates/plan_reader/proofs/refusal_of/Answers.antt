use mathlib.Core.Path.{refl, sym, ap, ◌∙◌}
use native.Mathlib.Omega.{arith}
use Rattle.std.proofs.lemmas.Result.{err_from_is_err_and}
use Rattle.plan.specs.Numbers.{number_of}
use Rattle.plan_format.specs.Passed.{passed-early, few_records}
use Rattle.plan_reader.specs.Laws.{first_stop, first_on}
use Rattle.plan_reader.proofs.refusal_of.Goals as goal

pub returns-in_err-early_refusal : goal.returns-in_err-early_refusal
returns-in_err-early_refusal c = let p = err_from_is_err_and c.from_residual.result c.from_residual.ensures.1 in
    rw (p.1, p.2) (first_stop c.args.s.now _ (sym c.early_refusal.ensures ∙ c.in_err-early_refusal.was))

pub record_count-m-requires : goal.record_count-m-requires
record_count-m-requires c = let b = c.args.s.now in let f =
    few_records b (passed-early b (ap number_of (sym c.early_refusal.ensures ∙ c.in_ok-early_refusal.was))) in
    (refl, f.0, f.1)

pub last_pass-requires : goal.last_pass-requires
last_pass-requires c = let b = c.args.s.now in let p = passed-early b (ap number_of (sym c.early_refusal.ensures ∙ c.in_ok-early_refusal.was)) in
    let f = few_records b p in let e = c.record_count-m.ensures in let f₁ = f.1 in let f₂ = f.2 in ((e, rw e f₂, rw e (omega arith)), p.shape, p.fields)

pub returns : goal.returns
returns c = first_on c.args.s.now c.last_pass.result (sym c.early_refusal.ensures ∙ c.in_ok-early_refusal.was) c.last_pass.ensures
