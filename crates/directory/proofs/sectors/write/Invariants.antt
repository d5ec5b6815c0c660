use Rattle.sector.specs.Written.{AreWritten}
use Rattle.directory.proofs.Sector.{entry_bytes}
use Rattle.directory.proofs.sectors.write.Given as goal

abbrev pub invariant-loop-i : goal.invariant-loop-i
invariant-loop-i l = AreWritten entry_bytes 272 0 l.initial.sector l.sector l.entries l.i
