use Rattle.std.proofs.Common.{◌≡◌, take}
use Rattle.journal.specs.Layout.{targets}
use Rattle.test_storage.proofs.tests.transactions.held.updates.Given as goal

abbrev pub invariant-loop-target : goal.invariant-loop-target
invariant-loop-target l = targets l.updates.items ≡ take l.target-index l.to
