use Rattle.extents.proofs.SectorLemmas.{IsWritten}
use Rattle.extents.proofs.sector_runs.write_run_sector.Given as goal

abbrev pub invariant-loop-i : goal.invariant-loop-i
invariant-loop-i l = IsWritten l.sector l.runs l.i
