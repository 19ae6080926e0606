use native.Mathlib.Omega.{arith}
use Rattle.scan.specs.Below.{all_none, all_more, all_fail, all_end}
use Rattle.row_bytes.specs.Streams.{flag_true}
use Rattle.row_bytes.specs.Constants.{constant_ok, flag_false}
use Rattle.std.proofs.Common.{ap}
use Rattle.std.specs.Prelude.{not}
use Rattle.row_bytes.proofs.constants_fit.Goals as goal

pub loop-c-init : goal.loop-c-init
loop-c-init c = (all_none _)

pub constant_fits-requires : goal.constant_fits-requires
constant_fits-requires c = (omega arith, omega arith, c.requires.1)

pub returns-then-not-constant_fits : goal.returns-then-not-constant_fits
returns-then-not-constant_fits c = let a = c.args in all_fail (constant_ok a.set a.s.now a.at a.w a.k) c.loop-c.c a.w (omega arith) (flag_false _ _ c.constant_fits.ensures (ap not c.if-not-constant_fits.true))

pub loop-c-preserved : goal.loop-c-preserved
loop-c-preserved c = let a = c.args in (all_more (constant_ok a.set a.s.now a.at a.w a.k) c.loop-c.c c.loop-c.invariant (flag_true _ _ c.constant_fits.ensures (ap not c.if-not-constant_fits.false)))

pub returns : goal.returns
returns c = let a = c.args in all_end (constant_ok a.set a.s.now a.at a.w a.k) c.loop-c.c a.w (omega arith) (omega arith) c.loop-c.invariant
