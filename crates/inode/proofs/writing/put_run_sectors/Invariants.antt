use Rattle.sector.specs.Written.{AreWritten}
use Rattle.inode.specs.Encoding.{number_bytes}
use Rattle.inode.proofs.writing.put_run_sectors.Given as goal

abbrev pub invariant-loop-i : goal.invariant-loop-i
invariant-loop-i l = AreWritten number_bytes 4 48 l.initial.sector l.sector l.numbers l.i
