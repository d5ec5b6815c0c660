-- What the contracts see of a device in memory.
use Rattle.std.specs.Prelude.{◌<◌, ℕ, List, [], vec_len}
use Rattle.std.proofs.Common.{arith, subst}
use Rattle.disk.specs.declared.call.Call.{Call}
use Rattle.disk.specs.declared.memory.MemDevice.{MemDevice}
use Rattle.disk.specs.Moments.{History, IsSector, seen}
use Rattle.disk.specs.Calls.{history_of_calls}

abbrev pub size_of : MemDevice → ℕ
size_of device = vec_len device.sectors

abbrev pub failures_of : MemDevice → ℕ
failures_of device = device.failures

-- the writes and syncs since it was made, the first of them first
abbrev pub calls_of : MemDevice → List Call
calls_of device = device.calls.items

-- its first contents after these calls
abbrev pub history_of : MemDevice → History
history_of device = history_of_calls device.first.items device.calls.items

-- each of its sectors has 4,096 bytes
pub held_sector : (device : MemDevice) (n : ℕ) → n < size_of device
    → IsSector (seen (history_of device).now n)
held_sector device n there =
    subst IsSector (device.told n) (device.rows n [] (omega (arith, there, device.sectors.ok)))
