use Rattle.std.proofs.Common.{map}
use Rattle.sector.specs.Written.{AreRead}
use Rattle.directory.specs.Records.{record_of, IsRecord}
use Rattle.directory.specs.Encoding.{record_bytes}
use Rattle.directory.proofs.sectors.entries_in.Given as goal

abbrev pub invariant-loop-i : goal.invariant-loop-i
invariant-loop-i l = AreRead record_bytes IsRecord 0 l.count l.sector (map record_of l.entries.items) l.i
