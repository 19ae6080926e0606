use native.Mathlib.Omega.{arith}
use mathlib.Core.Path.{subst}
use Prim.Native.Nat.{◌*◌, ◌-◌}
use Rattle.std.proofs.lemmas.Result.{err_from_is_err_and}
use Rattle.scan.specs.Bytes.{AllBytes}
use Rattle.plan_arena.specs.ReadFile.{read_ok, read_err}
use Rattle.plan_context.specs.View.{tree_of}
use Rattle.plan_context.specs.Records.{plan_t}
use Rattle.arena.specs.Arena.{slot_size}
use Rattle.step_ends.specs.Tidying.{full_slots}
use Rattle.call_parts.specs.Calls.{CalledAs, short_of}
use Rattle.plan_calls.specs.Results.{result_of}
use Rattle.plan_calls.specs.Calling.{file_refused, file_loads, file_called}
use Rattle.plan_calls.proofs.calls.call_in.Goals as goal

pub returns-in_err-a : goal.returns-in_err-a
returns-in_err-a c =
    let p = err_from_is_err_and c.from_residual.result c.from_residual.ensures.1 in
    rw (p.1, p.2) (file_refused (result_of c.args.k) c.args.plan.now c.args.out.now _ (read_err c.read.ensures c.in_err-a.was) 0)

pub perform-requires : goal.perform-requires
perform-requires c =
    let f = c.args.plan.now in let rd = c.read in let a = c.in_ok-a.a in
    let by : AllBytes f = record { below = λ i g. omega (arith, c.type_inv.plan i) } in
    let q = read_ok rd.ensures c.in_ok-a.was in
    file_loads f c.args.m.now c.requires.room by q.0 rd.new.m rd.auto.m a.used a.root q.1 c.args.c.now c.requires.scratch

pub returns : goal.returns
returns c =
    let f = c.args.plan.now in let rd = c.read in let a = c.in_ok-a.a in let y = c.perform in let m = c.args.m.now in let g = result_of c.args.k in
    let by : AllBytes f = record { below = λ i g. omega (arith, c.type_inv.plan i) } in
    let q = read_ok rd.ensures c.in_ok-a.was in
    file_called f m c.requires.room by q.0 rd.new.m rd.auto.m a.used a.root q.1 g y.result c.args.out.now y.new.out (short_of m)
    (subst (λ x. CalledAs y.result (g (plan_t (tree_of rd.new.m a.root))) c.args.out.now y.new.out (full_slots * slot_size - x)) rd.auto.m y.ensures)
