use native.Mathlib.Omega.{arith}
use Rattle.dry_runs.specs.Refused.{file_refused, blocks_inside, blocks_outside, accepted_is, rows_refused, rows_pass, passes_is, stored, given_here}
use mathlib.Core.Path.{sym, ap, ◌∙◌}
use lib.ListN.{length, length-replicate}
use Prim.Native.Nat.{ℕ}
use Rattle.plan.specs.Numbers.{number_of}
use Rattle.scan.specs.Bytes.{AllBytes}
use Rattle.plan_format.specs.Blocks.{block_count}
use Rattle.plan_codec.specs.Reading.{plan_of}
use Rattle.plan_format.specs.Passed.{refused_some}
use Rattle.plan_arena.specs.ReadFile.{is_accepted, read_ok, read_err}
use Rattle.dry_runs.proofs.dry_run.Goals as goal

pub returns-then-blocks : goal.returns-then-blocks
returns-then-blocks c = let a = c.args in file_refused a.plan.now a.rows.now a.choices.now a.out.now c.number_of.result (c.number_of.ensures ∙ ap number_of c.refusal_of.ensures) (λ z. blocks_outside a.plan.now c.if-blocks.true (is_accepted a.plan.now c.refusal_of.result c.refusal_of.ensures (sym c.number_of.ensures ∙ z)))

pub read-requires : goal.read-requires
read-requires c = let a = c.args in omega (arith, blocks_inside (block_count a.plan.now) c.if-blocks.false, length-replicate {A = ℕ} 24192 0)

pub returns-in-Err : goal.returns-in-Err
returns-in-Err c = let a = c.args in let e = read_err c.read.ensures c.in-Err.is in file_refused a.plan.now a.rows.now a.choices.now a.out.now c.number.result (c.number.ensures ∙ sym (ap number_of e)) (λ z. refused_some c.in-Err.x (sym c.number.ensures ∙ z))

pub refusal_of_rows-refused-requires : goal.refusal_of_rows-refused-requires
refusal_of_rows-refused-requires c = let a = c.args in let rd = c.read in let q = read_ok rd.ensures c.in-Ok.is in let r = c.in-Ok.a in let e = q.0 in (ap number_of e, q.1.used)

pub returns-then-refused-ne0 : goal.returns-then-refused-ne0
returns-then-refused-ne0 c = let a = c.args in let rd = c.read in let q = read_ok rd.ensures c.in-Ok.is in let r = c.in-Ok.a in let e = q.0 in accepted_is a.plan.now a.rows.now a.choices.now a.out.now a.out.now c.refusal_of_rows-refused.result e (rows_refused (plan_of a.plan.now) a.rows.now a.choices.now a.out.now c.refusal_of_rows-refused.result c.refusal_of_rows-refused.ensures c.if-refused-ne0.true)

pub rows_given-k-requires : goal.rows_given-k-requires
rows_given-k-requires c = let a = c.args in let rd = c.read in let q = read_ok rd.ensures c.in-Ok.is in let r = c.in-Ok.a in let e = q.0 in let ps = rows_pass (plan_of a.plan.now) a.rows.now a.choices.now a.out.now (sym c.if-refused-ne0.false ∙ c.refusal_of_rows-refused.ensures) in (ap number_of e, q.1.used, ps.form)

pub stepped_answer-requires : goal.stepped_answer-requires
stepped_answer-requires c = let a = c.args in let rd = c.read in let q = read_ok rd.ensures c.in-Ok.is in let r = c.in-Ok.a in let e = q.0 in let ps = rows_pass (plan_of a.plan.now) a.rows.now a.choices.now a.out.now (sym c.if-refused-ne0.false ∙ c.refusal_of_rows-refused.ensures) in let by : AllBytes a.plan.now = record { below = λ i g. omega (arith, c.type_inv.plan i) } in (given_here a.plan.now r.used a.rows.now a.choices.now a.out.now c.rows_given-k.result e by q.1.used ps c.rows_given-k.ensures, stored a.plan.now e by rd.new.m r.used r.root (omega (arith, blocks_inside (block_count a.plan.now) c.if-blocks.false, length-replicate {A = ℕ} 24192 0, rd.auto.m)) q.1)

pub returns : goal.returns
returns c = let a = c.args in let rd = c.read in let q = read_ok rd.ensures c.in-Ok.is in let r = c.in-Ok.a in let e = q.0 in let ps = rows_pass (plan_of a.plan.now) a.rows.now a.choices.now a.out.now (sym c.if-refused-ne0.false ∙ c.refusal_of_rows-refused.ensures) in accepted_is a.plan.now a.rows.now a.choices.now a.out.now c.stepped_answer.new.out c.stepped_answer.result e (passes_is (plan_of a.plan.now) a.rows.now a.choices.now a.out.now c.stepped_answer.new.out c.stepped_answer.result ps c.stepped_answer.ensures)
