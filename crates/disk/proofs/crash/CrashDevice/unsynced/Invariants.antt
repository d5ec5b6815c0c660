use Rattle.std.proofs.Common.{◌≡◌}
use Rattle.disk.specs.Crash.{device_of}
use Rattle.disk.specs.Memory.{history_of}
use Rattle.disk.specs.Landing.{unsynced_below}
use Rattle.disk.proofs.crash.CrashDevice.unsynced.Given as goal

abbrev pub invariant-loop-sector : goal.invariant-loop-sector
invariant-loop-sector l = l.sectors.items ≡ unsynced_below l.sector (history_of (device_of l.self)).now
