use Rattle.std.proofs.Common.{drop, take}
use Rattle.sector.specs.Written.{AreWritten}
use Rattle.directory.specs.Encoding.{record_bytes}
use Rattle.directory.proofs.sectors.write_part.Given as goal

abbrev pub invariant-loop-i : goal.invariant-loop-i
invariant-loop-i l = AreWritten record_bytes 272 0 l.initial.sector l.sector (take l.count (drop l.from l.records)) l.i
