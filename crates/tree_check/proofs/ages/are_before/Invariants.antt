use Rattle.std.proofs.Common.{◌≡◌, ◌<◌, ◌+◌, ℕ, Some, None, get_or}
use Rattle.layout.specs.CachedNodes.{CachedNode}
use Rattle.tree_check.specs.Ages.{IsCachedBefore}
use Rattle.tree_check.proofs.ages.are_before.Given as goal

abbrev pub invariant-loop-place : goal.invariant-loop-place
invariant-loop-place l = (place : ℕ) (cached : CachedNode) → place < l.place → get_or l.table place None ≡ Some cached → IsCachedBefore (l.last + 1) cached
