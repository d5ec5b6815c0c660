use Rattle.std.proofs.Common.{take}
use Rattle.sector.specs.Placed.{Places}
use Rattle.extent_tree.specs.Encoding.{entries_bytes}
use Rattle.extent_tree.proofs.encoding.put_entries.Given as goal

abbrev pub invariant-loop-i : goal.invariant-loop-i
invariant-loop-i l = Places l.initial.sector l.sector l.at (entries_bytes (take l.i l.entries))
