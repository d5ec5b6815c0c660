use Rattle.std.proofs.Common.{◌-◌}
use Rattle.client.proofs.Receiving.{Gathers}
use Rattle.client.proofs.receive.receive.Given as goal

abbrev pub invariant-loop-more : goal.invariant-loop-more
invariant-loop-more g l = Gathers (g.R.Read.remaining l.fn.reader) (g.R.Read.remaining l.reader) l.size l.fragments l.room

abbrev pub decreases-loop-more : goal.decreases-loop-more
decreases-loop-more g l = 64 - l.fragments
