use Rattle.freemap.specs.Kept.{IsSetBelow}
use Rattle.freemap.proofs.sectors.first_clear.Given as goal

abbrev pub invariant-loop-place : goal.invariant-loop-place
invariant-loop-place l = IsSetBelow l.bits l.place
