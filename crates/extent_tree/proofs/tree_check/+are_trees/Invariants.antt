use Rattle.extent_tree.specs.Held.{entries_by}
use Rattle.extent_tree.proofs.Trees.{ArePassedTo}
use Rattle.extent_tree.proofs.tree_check.+are_trees.Given as goal

abbrev pub decreases-are_trees : goal.decreases-are_trees
decreases-are_trees l = l.depth

abbrev pub invariant-loop-entry : goal.invariant-loop-entry
invariant-loop-entry l = ArePassedTo (entries_by (λ rc. rc.value.items) l.nodes) l.depth l.count l.left l.entry-index l.entries
