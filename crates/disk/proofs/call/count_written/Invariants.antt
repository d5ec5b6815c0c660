use Rattle.std.proofs.Common.{◌≡◌, ◌≤◌, length, take}
use Rattle.disk.specs.Calls.{written_by}
use Rattle.disk.proofs.call.count_written.Given as goal

abbrev pub invariant-loop-call : goal.invariant-loop-call
invariant-loop-call l = record { few : l.count ≤ l.call-index; counted : l.count ≡ length (written_by l.sector (take l.call-index l.calls)) }
