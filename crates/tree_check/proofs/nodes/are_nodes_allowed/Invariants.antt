use Rattle.std.proofs.Common.{◌≡◌, ◌<◌, ℕ, Some, None, get_or}
use Rattle.layout.specs.CachedNodes.{CachedNode}
use Rattle.tree_check.specs.Nodes.{IsNodeAllowed}
use Rattle.tree_check.proofs.nodes.are_nodes_allowed.Given as goal

abbrev pub invariant-loop-place : goal.invariant-loop-place
invariant-loop-place l = (place : ℕ) (cached : CachedNode) → place < l.place → get_or l.table place None ≡ Some cached → IsNodeAllowed l.limits cached
