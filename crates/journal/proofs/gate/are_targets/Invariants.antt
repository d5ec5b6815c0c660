use Rattle.std.proofs.Common.{take}
use Rattle.journal.specs.Layout.{AreNamed}
use Rattle.journal.proofs.gate.are_targets.Given as goal

abbrev pub invariant-loop-i : goal.invariant-loop-i
invariant-loop-i l = AreNamed l.area (take l.i l.to)
