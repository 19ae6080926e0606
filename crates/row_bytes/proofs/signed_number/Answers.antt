use native.Mathlib.Omega.{arith}
use Rattle.row_bytes.specs.Signed.{signed_low, signed_fits, signed_high}
use Rattle.row_bytes.proofs.signed_number.Goals as goal

-- src/lib.rt:80:9
pub returns-then-x-lt9223372036854775808 : goal.returns-then-x-lt9223372036854775808
returns-then-x-lt9223372036854775808 c = signed_low c.args.x (omega arith)

-- src/lib.rt:83:5
pub overflow_sub-result : goal.overflow_sub-result
overflow_sub-result c = signed_fits c.args.x (omega arith)

-- src/lib.rt:76:1
pub returns : goal.returns
returns c = signed_high c.args.x c.ranges.x.fits (omega arith)
