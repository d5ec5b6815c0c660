use Rattle.model_tree.proofs.Trees.AncestorLaws.{below_is_reached}
use Rattle.model_tree.proofs.tree.below.Goals as goal

pub returns : goal.returns
returns c = below_is_reached
