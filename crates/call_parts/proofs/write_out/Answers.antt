use mathlib.Core.Path.{refl, sym, ◌∙◌}
use Rattle.std.proofs.lemmas.Result.{err_from_is_err_and}
use Rattle.call_parts.specs.Filing.{flattens, write_refusal_lem, write_output}
use Rattle.call_parts.proofs.write_out.Goals as goal

pub write-requires : goal.write-requires
write-requires c = flattens c.args.m.now c.args.u c.args.h c.requires.0 c.requires.1 c.args.out.now
    c.args.n c.requires.2 c.requires.3

pub returns-in_err-write : goal.returns-in_err-write
returns-in_err-write c =
    let w = c.write.ensures in let p = err_from_is_err_and c.from_residual.result c.from_residual.ensures.1 in
    λ short. rw (p.1, p.2) (
      sym c.in_err-write.was ∙ w.0 ∙ write_refusal_lem c.args.m.now c.args.u c.args.h c.requires.0 c.requires.1 c.args.out.now,
      refl,
      w.1 ∙ write_output c.args.m.now c.args.u c.args.h c.requires.0 c.requires.1 c.args.out.now,
    )

pub returns : goal.returns
returns c =
    let w = c.write.ensures in
    λ short. (
      sym c.in_ok-write.was ∙ w.0 ∙ write_refusal_lem c.args.m.now c.args.u c.args.h c.requires.0 c.requires.1 c.args.out.now,
      refl,
      w.1 ∙ write_output c.args.m.now c.args.u c.args.h c.requires.0 c.requires.1 c.args.out.now,
    )
