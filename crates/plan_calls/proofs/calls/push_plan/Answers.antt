use native.Mathlib.Omega.{arith}
use Rattle.std.proofs.lemmas.Result.{err_from_is_err_and}
use Rattle.scan.specs.Bytes.{AllBytes}
use Rattle.walks.specs.Counted.{pushed}
use Rattle.plan_arena.specs.ReadFile.{read_ok, read_err}
use Rattle.call_answers.specs.Answers.{rewritten}
use Rattle.plan_calls.specs.Calling.{file_refused, file_formed, file_called}
use Rattle.plan_calls.proofs.calls.push_plan.Goals as goal

pub returns-in_err-read : goal.returns-in_err-read
returns-in_err-read c =
    let p = err_from_is_err_and c.from_residual.result c.from_residual.ensures.1 in
    rw (p.1, p.2) (file_refused (λ f. rewritten (pushed f)) c.args.plan.now c.args.out.now _ (read_err c.read.ensures c.in_err-read.was) 0)

pub push_in-requires : goal.push_in-requires
push_in-requires c =
    let f = c.args.plan.now in let rd = c.read in let a = c.in_ok-read.read in
    let by : AllBytes f = record { below = λ i g. omega (arith, c.type_inv.plan i) } in
    let q = read_ok rd.ensures c.in_ok-read.was in
    file_formed f c.args.m.now c.requires by q.0 rd.new.m rd.auto.m a.used a.root q.1

pub returns : goal.returns
returns c =
    let f = c.args.plan.now in let rd = c.read in let a = c.in_ok-read.read in let y = c.push_in in
    let by : AllBytes f = record { below = λ i g. omega (arith, c.type_inv.plan i) } in
    let q = read_ok rd.ensures c.in_ok-read.was in
    file_called f c.args.m.now c.requires by q.0 rd.new.m rd.auto.m a.used a.root q.1 (λ f. rewritten (pushed f)) y.result c.args.out.now y.new.out _ y.ensures
