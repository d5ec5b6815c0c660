use Rattle.model_tree.proofs.Trees.KeyedLaws.{only_map}
use Rattle.model_tree.proofs.tree.only_map.Goals as goal

pub returns-clause-nodes : goal.returns-clause-nodes
returns-clause-nodes c = only_map

pub returns-clause-names : goal.returns-clause-names
returns-clause-names c = only_map
