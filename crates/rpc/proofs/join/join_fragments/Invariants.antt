use Rattle.std.proofs.Common.{◌-◌, length}
use Rattle.rpc.proofs.Joins.{Joins}
use Rattle.rpc.proofs.join.join_fragments.Given as goal

abbrev pub invariant-loop-size : goal.invariant-loop-size
invariant-loop-size l = Joins l.fn.bytes l.bytes l.place

abbrev pub decreases-loop-size : goal.decreases-loop-size
decreases-loop-size l = length l.bytes - l.place.at
