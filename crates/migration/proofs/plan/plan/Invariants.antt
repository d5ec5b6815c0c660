use Rattle.std.proofs.Common.{◌≡◌, map}
use Rattle.std.specs.List.{range_with_len}
use Rattle.migration.specs.Plans.{step_at}
use Rattle.migration.proofs.plan.plan.Given as goal

abbrev pub invariant-loop-i : goal.invariant-loop-i
invariant-loop-i l = map (λ updates. updates.items) l.transactions.items ≡ map (step_at l.table l.moved) (range_with_len 0 l.i)
