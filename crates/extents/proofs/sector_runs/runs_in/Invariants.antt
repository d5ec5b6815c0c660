use Rattle.extents.proofs.SectorLemmas.{AreReadTo}
use Rattle.extents.proofs.sector_runs.runs_in.Given as goal

abbrev pub invariant-loop-i : goal.invariant-loop-i
invariant-loop-i l = AreReadTo l.sector l.i l.runs.items
