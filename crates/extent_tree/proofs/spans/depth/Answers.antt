use Rattle.std.proofs.Common.{arith}
use Rattle.extent_tree.proofs.Depths.{is_depth_2, is_depth_3}
use Rattle.extent_tree.proofs.spans.depth.Goals as goal

pub returns-then-blocks-2-clause-least : goal.returns-then-blocks-2-clause-least
returns-then-blocks-2-clause-least c = is_depth_2 c.args.blocks (omega arith) (omega arith)

pub returns-else-blocks-2-clause-least : goal.returns-else-blocks-2-clause-least
returns-else-blocks-2-clause-least c = is_depth_3 c.args.blocks (omega arith) (omega arith)
