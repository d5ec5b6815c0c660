use Rattle.std.proofs.Common.{◌≡◌, map, take}
use Rattle.directory.specs.Records.{record_of}
use Rattle.directory.proofs.records.Records.from_entries.Given as goal

abbrev pub invariant-loop-entry : goal.invariant-loop-entry
invariant-loop-entry l = l.records ≡ map record_of (take l.entry-index l.entries)
