use Rattle.std.proofs.Common.{◌≡◌, ◌+◌, ◌<◌, length, take}
use Rattle.disk.specs.Calls.{written_by}
use Rattle.disk.proofs.call.numbered_content.Given as goal

abbrev pub invariant-loop-call : goal.invariant-loop-call
invariant-loop-call l = record { some_left : 0 < l.left; counted : l.number ≡ l.left + length (written_by l.sector (take l.call-index l.calls)) }
