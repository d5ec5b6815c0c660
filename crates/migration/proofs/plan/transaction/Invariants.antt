use Rattle.std.proofs.Common.{◌≡◌, ◌-◌}
use Rattle.migration.proofs.Transactions.{nodes_of}
use Rattle.migration.proofs.plan.transaction.Given as goal

abbrev pub invariant-loop-place : goal.invariant-loop-place
invariant-loop-place l = l.updates.items ≡ nodes_of l.table l.from (l.place - l.from)
