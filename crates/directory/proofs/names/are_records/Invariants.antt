use Rattle.std.proofs.Common.{map, take}
use Rattle.std.specs.List.{AllByRecursion}
use Rattle.directory.specs.Records.{record_of, IsRecord}
use Rattle.directory.proofs.names.are_records.Given as goal

abbrev pub invariant-loop-entry : goal.invariant-loop-entry
invariant-loop-entry l = AllByRecursion IsRecord (map record_of (take l.entry-index l.entries))
