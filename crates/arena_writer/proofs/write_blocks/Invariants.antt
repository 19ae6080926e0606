use Rattle.arena_writer.specs.Streams.{Streamed}
use Rattle.arena_writer.proofs.write_blocks.Given as goal

abbrev pub invariant-loop-k : goal.invariant-loop-k
invariant-loop-k l = Streamed l.m l.u l.i l.blocks l.initial.w l.initial.out l.k l.t l.w l.rs l.out
