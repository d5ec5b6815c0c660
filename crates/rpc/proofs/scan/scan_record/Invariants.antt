use Rattle.std.proofs.Common.{◌-◌, ◌+◌, ◌++◌, length}
use Rattle.rpc.proofs.Walks.{Searches}
use Rattle.rpc.proofs.scan.scan_record.Given as goal

abbrev pub invariant-loop-size : goal.invariant-loop-size
invariant-loop-size l = Searches (l.old ++ l.piece) l.place

abbrev pub decreases-loop-size : goal.decreases-loop-size
decreases-loop-size l = length l.old + length l.piece - l.place.at
