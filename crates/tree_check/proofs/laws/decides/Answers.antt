use Rattle.tree_check.proofs.AgeLaws.{each_age}
use Rattle.tree_check.proofs.AllowedLaws.{each_node}
use Rattle.tree_check.proofs.FitLaws.{each_fit}
use Rattle.tree_check.proofs.TreeLaws.{each_stamp, each_walk}
use Rattle.tree_check.proofs.WholeLaws.{each_known_tree, each_tree}
use Rattle.tree_check.proofs.laws.decides.Goals as goal

pub returns-clause-walk : goal.returns-clause-walk
returns-clause-walk c = each_walk

pub returns-clause-stamps : goal.returns-clause-stamps
returns-clause-stamps c = each_stamp

pub returns-clause-ages : goal.returns-clause-ages
returns-clause-ages c = each_age

pub returns-clause-fits : goal.returns-clause-fits
returns-clause-fits c = each_fit

pub returns-clause-nodes : goal.returns-clause-nodes
returns-clause-nodes c = each_node

pub returns-clause-tree : goal.returns-clause-tree
returns-clause-tree c = each_tree

pub returns-clause-known : goal.returns-clause-known
returns-clause-known c = each_known_tree
