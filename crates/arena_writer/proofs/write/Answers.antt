use lib.ListN.{replicate}
use Rattle.plan_writer.specs.Laws.{short_out}
use Rattle.arena_writer.specs.Streams.{block_count_lem, lent, too_short, long_enough}
use Rattle.arena_writer.proofs.write.Goals as goal

pub returns-then-out-blocks : goal.returns-then-out-blocks
returns-then-out-blocks c = let o = c.args.out.now in let h = c.if-out-blocks.true in
    (too_short c.requires o h, short_out o _ _ (block_count_lem c.requires) h)

pub write_blocks-requires : goal.write_blocks-requires
write_blocks-requires c = lent c.requires (replicate 7 0) c.args.out.now c.if-n-le7.true c.if-out-blocks.false

pub write_blocks-requires-else-n-le7 : goal.write_blocks-requires-else-n-le7
write_blocks-requires-else-n-le7 c = lent c.requires (replicate 126 0) c.args.out.now c.requires.few c.if-out-blocks.false

pub returns-then-n-le7 : goal.returns-then-n-le7
returns-then-n-le7 c = (long_enough c.requires c.args.out.now c.if-out-blocks.false, c.write_blocks.ensures)

pub returns-else-n-le7 : goal.returns-else-n-le7
returns-else-n-le7 c = (long_enough c.requires c.args.out.now c.if-out-blocks.false, c.write_blocks-else-n-le7.ensures)
