use Rattle.std.proofs.Common.{take}
use Rattle.journal.specs.Layout.{AreTargets}
use Rattle.test_storage.proofs.tests.transactions.held.are_targets.Given as goal

abbrev pub invariant-loop-i : goal.invariant-loop-i
invariant-loop-i l = AreTargets l.end (take l.i l.to)
