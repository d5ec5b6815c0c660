use Rattle.std.proofs.Common.{◌<◌, take, map}
use Rattle.std.specs.List.{AllByRecursion}
use Rattle.directory.specs.Records.{Record, record_of}
use Rattle.volume_load.proofs.names.are_above.Given as goal

abbrev pub invariant-loop-entry : goal.invariant-loop-entry
invariant-loop-entry l = AllByRecursion (λ (entry : Record). 0 < entry.0) (map record_of (take l.entry-index l.entries))
