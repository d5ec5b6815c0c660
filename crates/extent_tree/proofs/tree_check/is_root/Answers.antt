use Rattle.std.proofs.Common.{arith}
use Rattle.extent_tree.specs.Held.{entries_by}
use Rattle.extent_tree.proofs.Maps.{items_of}
use Rattle.extent_tree.proofs.Trees.{root_from}
use Rattle.extent_tree.proofs.tree_check.is_root.Goals as goal

pub returns : goal.returns
returns c = root_from (entries_by items_of c.args.nodes.now) c.args.blocks c.depth.result c.args.root.now c.are_trees.result c.depth.ensures.value (omega arith) c.are_trees.ensures
