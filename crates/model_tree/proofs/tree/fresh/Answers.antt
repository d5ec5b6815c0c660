use Rattle.model_tree.proofs.Trees.FreshTree.{fresh}
use Rattle.model_tree.proofs.tree.fresh.Goals as goal

pub returns : goal.returns
returns c = fresh
