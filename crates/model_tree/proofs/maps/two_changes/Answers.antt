use Rattle.model_tree.proofs.Trees.KeyedChanges.{changes_meet}
use Rattle.model_tree.specs.Trees.Tree.{Node, DirEntry}
use Rattle.model_tree.proofs.maps.two_changes.Goals as goal

pub returns-clause-nodes : goal.returns-clause-nodes
returns-clause-nodes c = changes_meet Node

pub returns-clause-names : goal.returns-clause-names
returns-clause-names c = changes_meet DirEntry
