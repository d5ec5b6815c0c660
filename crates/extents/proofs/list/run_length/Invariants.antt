use Rattle.std.proofs.Common.{◌-◌, ◌+◌, length}
use Rattle.extents.specs.Runs.{IsRunAt}
use Rattle.extents.proofs.list.run_length.Given as goal

abbrev pub invariant-loop-length : goal.invariant-loop-length
invariant-loop-length l = IsRunAt l.sectors l.start l.first l.length

abbrev pub decreases-loop-length : goal.decreases-loop-length
decreases-loop-length l = length l.sectors - (l.start + l.length)
