use Rattle.std.proofs.Common.{◌≤◌, take}
use Rattle.disk.specs.Calls.{IsLastSync}
use Rattle.disk.proofs.call.synced_count.Given as goal

abbrev pub invariant-loop-i : goal.invariant-loop-i
invariant-loop-i l = record { within : l.count ≤ l.i; last : IsLastSync (take l.i l.calls) l.count }
