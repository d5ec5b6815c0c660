use Rattle.std.proofs.Common.{◌≡◌, ◌≤◌, ◌∷◌, ◌-◌, length, take}
use Rattle.model_tree.specs.Trees.Tree.{root}
use Rattle.tree_check.specs.Walks.{numbers_at, led_from, IsWalk}
use Rattle.tree_check.proofs.walk.is_one_tree.Given as goal

abbrev pub invariant-loop-visited : goal.invariant-loop-visited
invariant-loop-visited l =
    (walk : IsWalk l.table l.walk.seen.items l.walk.order.items)
    × ((l.visited ≤ length l.walk.order.items) × (numbers_at l.table l.walk.order.items ≡ root ∷ led_from l.table (take l.visited l.walk.order.items)))

abbrev pub decreases-loop-visited : goal.decreases-loop-visited
decreases-loop-visited l = length l.table - l.visited
