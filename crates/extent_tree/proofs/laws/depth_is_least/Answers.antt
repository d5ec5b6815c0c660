use Rattle.extent_tree.proofs.Depths.{least}
use Rattle.extent_tree.proofs.laws.depth_is_least.Goals as goal

pub returns : goal.returns
returns c = least
