use Rattle.extent_tree.proofs.Checking.{IsCheckedTo}
use Rattle.extent_tree.proofs.entry.are_entries.Given as goal

abbrev pub invariant-loop-entry : goal.invariant-loop-entry
invariant-loop-entry l = IsCheckedTo l.depth l.count l.left l.entry-index l.entries
