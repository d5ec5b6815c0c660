use Rattle.std.proofs.Common.{◌≡◌, ◌++◌, take}
use Rattle.extent_tree.specs.Held.{entries_by}
use Rattle.extent_tree.specs.Tree.{indexes_in}
use Rattle.extent_tree.proofs.cutting.+give_back.Given as goal

abbrev pub decreases-give_back : goal.decreases-give_back
decreases-give_back l = l.depth

abbrev pub invariant-loop-entry : goal.invariant-loop-entry
invariant-loop-entry l = l.freed.items ≡ l.initial.freed.items ++ indexes_in (entries_by (λ rc. rc.value.items) l.nodes) l.depth (take l.entry-index l.entries)
