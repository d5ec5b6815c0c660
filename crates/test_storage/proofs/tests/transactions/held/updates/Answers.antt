use Rattle.std.proofs.Common.{arith}
use Rattle.std.proofs.lemmas.List.{take_more}
use Rattle.journal.proofs.Lists.{targets-push}
use Rattle.test_storage.proofs.tests.transactions.held.updates.Goals as goal

pub loop-target-preserved : goal.loop-target-preserved
loop-target-preserved c = grind (arith, targets-push, take_more)
