use native.Mathlib.Omega.{arith}
use Rattle.row_bytes.specs.Streams.{stream_in, stream_room, end_is}
use Rattle.row_bytes.proofs.stream_end.Goals as goal

pub get32-n-requires : goal.get32-n-requires
get32-n-requires c = (stream_in c.args.s.now c.args.at c.args.w c.requires.1).0

pub overflow_add-result : goal.overflow_add-result
overflow_add-result c = let i = stream_room c.args.s.now c.args.at c.args.w c.get32-n.result c.requires.1 c.get32-n.ensures in omega (arith, i.0, i.1)

pub overflow_mul-result-2 : goal.overflow_mul-result-2
overflow_mul-result-2 c = let i = stream_room c.args.s.now c.args.at c.args.w c.get32-n.result c.requires.1 c.get32-n.ensures in omega (arith, i.0, i.1)

pub overflow_add-result-3 : goal.overflow_add-result-3
overflow_add-result-3 c = let i = stream_room c.args.s.now c.args.at c.args.w c.get32-n.result c.requires.1 c.get32-n.ensures in omega (arith, i.0, i.1)

pub returns : goal.returns
returns c = end_is c.args.s.now c.args.at c.args.w c.get32-n.result c.get32-n.ensures
