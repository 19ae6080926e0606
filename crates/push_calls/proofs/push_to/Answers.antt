use mathlib.Core.Path.{subst}
use Prim.Native.Nat.{◌/◌}
use Rattle.std.proofs.lemmas.Result.{err_from_is_err_and}
use Rattle.plan_context.specs.View.{tree_in}
use Rattle.plan_context.specs.Laws.{here}
use Rattle.sort_pushdown.specs.Decisions.{visit_of}
use Rattle.pushdown_sorts.specs.Walk.{Ends}
use Rattle.call_parts.specs.Filing.{arena_loaded}
use Rattle.push_calls.specs.Pushing.{push_asks, push_refused, push_count, push_wrote}
use Rattle.push_calls.proofs.push_to.Goals as goal

pub push_at-requires : goal.push_at-requires
push_at-requires c = let ev = c.at_root.ensures in push_asks c.args.m.now c.args.u c.args.h c.args.n c.requires.0 c.args.b.now c.requires.1 _ ev.0 ev.1

pub returns-in_err-x : goal.returns-in_err-x
returns-in_err-x c =
    let a = c.args in let y = c.push_at in let v = c.at_root.result in
    let p = err_from_is_err_and c.from_residual.result c.from_residual.ensures.1 in
    λ short. rw (p.1, p.2) (push_refused a.m.now a.u a.h a.n c.requires.0 a.out.now v c.at_root.ensures.0 a.b.now y.new.b c.in_err-x.field-0.0
    (subst (λ o. Ends (visit_of v) a.n (tree_in a.m.now (a.h / 2)) a.b.now 0 y.new.b o) c.in_err-x.was y.ensures) short)

pub nodes-requires : goal.nodes-requires
nodes-requires c =
    let a = c.args in let y = c.push_at in let x = c.in_ok-x.x in
    let d = subst (λ o. Ends (visit_of c.at_root.result) a.n (tree_in a.m.now (a.h / 2)) a.b.now 0 y.new.b o) c.in_ok-x.was y.ensures in
    here y.new.b x.used x.root d.grown.arena d.grown.here

pub write_out-requires : goal.write_out-requires
write_out-requires c =
    let a = c.args in let y = c.push_at in let v = c.at_root.result in let x = c.in_ok-x.x in let e = c.nodes.ensures in
    let d = subst (λ o. Ends (visit_of v) a.n (tree_in a.m.now (a.h / 2)) a.b.now 0 y.new.b o) c.in_ok-x.was y.ensures in (
      arena_loaded y.new.b x.used d.grown.arena,
      d.grown.here,
      e,
      push_count a.m.now a.u a.h a.n c.requires.0 a.out.now v c.at_root.ensures.0 a.b.now y.new.b x d _ e,
    )

pub returns : goal.returns
returns c =
    let a = c.args in let y = c.push_at in let v = c.at_root.result in let x = c.in_ok-x.x in let w = c.write_out in
    let d = subst (λ o. Ends (visit_of v) a.n (tree_in a.m.now (a.h / 2)) a.b.now 0 y.new.b o) c.in_ok-x.was y.ensures in
    λ short. push_wrote a.m.now a.u a.h a.n c.requires.0 a.out.now v c.at_root.ensures.0 a.b.now y.new.b x d w.result w.new.out short (w.ensures short)
