use Rattle.node_lines.specs.Laws.{put_part}
use Rattle.node_lines.proofs.put.Goals as goal

pub returns : goal.returns
returns c = put_part c.args.out.now c.args.text.now c.copy.new.d c.args.at c.requires c.copy.ensures
