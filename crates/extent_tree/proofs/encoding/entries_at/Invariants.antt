use Rattle.extent_tree.proofs.Bytes.{AreCopied}
use Rattle.extent_tree.proofs.encoding.entries_at.Given as goal

abbrev pub invariant-loop-i : goal.invariant-loop-i
invariant-loop-i l = AreCopied l.sector l.at l.i l.entries.items
