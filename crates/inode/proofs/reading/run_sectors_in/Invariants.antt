use Rattle.sector.specs.Written.{AreRead}
use Rattle.inode.specs.Fields.{IsRunSector}
use Rattle.inode.specs.Encoding.{number_bytes}
use Rattle.inode.proofs.reading.run_sectors_in.Given as goal

abbrev pub invariant-loop-i : goal.invariant-loop-i
invariant-loop-i l = AreRead number_bytes IsRunSector 48 l.count l.sector l.numbers.items l.i
