use Rattle.std.proofs.Common.{◌≡◌, take}
use Rattle.disk.specs.Landing.{every_landing}
use Rattle.disk.specs.Trial.{lists_of}
use Rattle.disk.proofs.trial.combinations.Given as goal

abbrev pub invariant-loop-sector : goal.invariant-loop-sector
invariant-loop-sector l = lists_of l.landings.items ≡ every_landing (take l.sector-index l.unsynced)
