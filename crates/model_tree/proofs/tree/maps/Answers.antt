use Rattle.model_tree.proofs.Trees.KeyedLaws.{reads_back, keeps_order}
use Rattle.model_tree.specs.Trees.Tree.{Node, DirEntry}
use Rattle.model_tree.proofs.tree.maps.Goals as goal

pub returns-clause-nodes : goal.returns-clause-nodes
returns-clause-nodes c = reads_back Node

pub returns-clause-names : goal.returns-clause-names
returns-clause-names c = reads_back DirEntry

pub returns-clause-node_order : goal.returns-clause-node_order
returns-clause-node_order c = keeps_order Node

pub returns-clause-name_order : goal.returns-clause-name_order
returns-clause-name_order c = keeps_order DirEntry
