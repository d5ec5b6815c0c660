use Rattle.layout.proofs.NodeEditLaws.{make_node, show_other, free_node}
use Rattle.layout.proofs.node_edits.nodes.Goals as goal

pub returns-clause-make : goal.returns-clause-make
returns-clause-make c = make_node

pub returns-clause-show : goal.returns-clause-show
returns-clause-show c = show_other

pub returns-clause-free : goal.returns-clause-free
returns-clause-free c = free_node
