use native.Mathlib.Omega.{arith}
use Rattle.dry_runs.specs.Refused.{file_few, not-stepped, no_form, not-kept, too_many, none_of_them}
use Rattle.row_bytes.specs.Streams.{flag_true}
use Rattle.std.proofs.Common.{ap}
use Rattle.std.specs.Prelude.{not}
use Rattle.dry_runs.proofs.refusal_of_rows.Goals as goal

pub overflow_cast-result : goal.overflow_cast-result
overflow_cast-result c = let a = c.args in let p = c.requires in omega (arith, file_few a.plan.now a.n p.0 p.1, c.if-first-n.true)

pub overflow_add-result : goal.overflow_add-result
overflow_add-result c = let a = c.args in let p = c.requires in omega (arith, file_few a.plan.now a.n p.0 p.1, c.if-first-n.true)

pub returns-then-first-n : goal.returns-then-first-n
returns-then-first-n c = let a = c.args in let p = c.requires in not-stepped a.plan.now a.n a.rows.now c.first_unstepped-first.result p.1 c.first_unstepped-first.ensures c.if-first-n.true

pub returns-then-not-form_fits : goal.returns-then-not-form_fits
returns-then-not-form_fits c = let a = c.args in let p = c.requires in no_form a.plan.now a.n a.rows.now c.first_unstepped-first.result p.1 c.first_unstepped-first.ensures c.if-first-n.false c.form_fits.result c.form_fits.ensures (ap not c.if-not-form_fits.true)

pub declared_fits-requires : goal.declared_fits-requires
declared_fits-requires c = let a = c.args in let p = c.requires in (p.0, p.1, flag_true _ _ c.form_fits.ensures (ap not c.if-not-form_fits.false))

pub returns-then-not-declared_fits : goal.returns-then-not-declared_fits
returns-then-not-declared_fits c = let a = c.args in let p = c.requires in not-kept a.plan.now a.n a.rows.now c.first_unstepped-first.result p.1 c.first_unstepped-first.ensures c.if-first-n.false c.declared_fits.result c.declared_fits.ensures (ap not c.if-not-declared_fits.true)

pub rows_given-requires : goal.rows_given-requires
rows_given-requires c = let a = c.args in let p = c.requires in (p.0, p.1, flag_true _ _ c.form_fits.ensures (ap not c.if-not-form_fits.false))

pub returns-then-rows_given-gt256 : goal.returns-then-rows_given-gt256
returns-then-rows_given-gt256 c = let a = c.args in let p = c.requires in too_many a.plan.now a.n a.rows.now c.first_unstepped-first.result p.1 c.first_unstepped-first.ensures c.if-first-n.false c.rows_given.result (flag_true _ _ c.form_fits.ensures (ap not c.if-not-form_fits.false)) (flag_true _ _ c.declared_fits.ensures (ap not c.if-not-declared_fits.false)) c.rows_given.ensures c.if-rows_given-gt256.true

pub returns : goal.returns
returns c = let a = c.args in let p = c.requires in none_of_them a.plan.now a.n a.rows.now c.first_unstepped-first.result p.1 c.first_unstepped-first.ensures c.if-first-n.false c.rows_given.result (flag_true _ _ c.form_fits.ensures (ap not c.if-not-form_fits.false)) (flag_true _ _ c.declared_fits.ensures (ap not c.if-not-declared_fits.false)) c.rows_given.ensures c.if-rows_given-gt256.false
