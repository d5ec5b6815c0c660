use Rattle.std.proofs.Common.{◌-◌, length}
use Rattle.extents.proofs.Making.{AreRunsSoFar}
use Rattle.extents.proofs.list.runs_of.Given as goal

abbrev pub invariant-loop-block : goal.invariant-loop-block
invariant-loop-block l = AreRunsSoFar l.sectors l.block l.runs.items

abbrev pub decreases-loop-block : goal.decreases-loop-block
decreases-loop-block l = length l.sectors - l.block
