use Rattle.std.proofs.Common.{take}
use Rattle.tree_check.specs.Trees.{led_at}
use Rattle.tree_check.specs.Walks.{Meets}
use Rattle.tree_check.proofs.walk.Walk.visit.Given as goal

abbrev pub invariant-loop-i : goal.invariant-loop-i
invariant-loop-i l = Meets l.table l.self.seen.items l.initial.self.order.items l.self.order.items (take l.i (led_at l.table l.place))
