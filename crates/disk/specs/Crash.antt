-- A device whose power goes at a stated step.
use Rattle.std.specs.Prelude.{◌==◌, ◌≡◌, ◌+◌, ◌-◌, ◌^◌, ℕ, Bool, true, false, min, Result, Err, OnErr, if◌then◌else◌}
use Rattle.disk.specs.declared.crash.Stop.{Stop}
use Rattle.disk.specs.declared.crash.Stop.TheVariants.{Never, Before, Within}
use Rattle.disk.specs.declared.crash.Fate.{Fate}
use Rattle.disk.specs.declared.crash.Fate.TheVariants.{Whole, Part, Nothing}
use Rattle.disk.specs.declared.crash.CrashDevice.{CrashDevice}
use Rattle.disk.specs.declared.fault.DiskFault.{DiskFault}
use Rattle.disk.specs.declared.fault.DiskFault.TheVariants.{Fault}
use Rattle.disk.specs.Moments.{History}
use Rattle.disk.specs.Memory.{size_of, failures_of, history_of}
use Rattle.disk.specs.declared.memory.MemDevice.{MemDevice}

abbrev pub device_of : CrashDevice → MemDevice
device_of device = device.device

abbrev pub crash_size : CrashDevice → ℕ
crash_size device = size_of device.device

abbrev pub crash_failures : CrashDevice → ℕ
crash_failures device = failures_of device.device

abbrev pub crash_history : CrashDevice → History
crash_history device = history_of device.device

abbrev pub stop_of : CrashDevice → Stop
stop_of device = device.stop

abbrev pub steps_of : CrashDevice → ℕ
steps_of device = device.steps

abbrev pub is_stopped : CrashDevice → Bool
is_stopped device = device.is_stopped

-- the fate of step number n, if the device has not stopped before
abbrev pub fate_at : Stop → ℕ → Fate
fate_at Never n = Whole
fate_at (Before at) n = if at == n then Nothing else Whole
fate_at (Within at) n = if at == n then Part else Whole

-- the fate of the next write or sync
abbrev pub next_fate : CrashDevice → Fate
next_fate device = if device.is_stopped then Nothing else fate_at device.stop device.steps

-- a step that is completed fails only by doing nothing, for lack of memory; one that is done in
-- part or not at all is a fault
abbrev pub AnswersFate : {T : Type 0} → Fate → History → History → Result T DiskFault → Type 0
AnswersFate Whole old new result = OnErr result (new ≡ old)
AnswersFate Part old new result = result ≡ Err Fault
AnswersFate Nothing old new result = (result ≡ Err Fault) × (new ≡ old)

-- whether the device has stopped after a step of this fate
abbrev pub is_cut : Fate → Bool
is_cut Whole = false
is_cut Part = true
is_cut Nothing = true

pub record IsSameCourse (old new : CrashDevice) : Type 0 where
  pub stop : stop_of new ≡ stop_of old
  pub steps : steps_of new ≡ steps_of old
  pub is_stopped : is_stopped new ≡ is_stopped old

-- one more step has begun, unless the device had stopped; it has stopped now, if that step was cut
pub record IsNextCourse (old new : CrashDevice) : Type 0 where
  pub stop : stop_of new ≡ stop_of old
  pub steps : steps_of new
      ≡ (if is_stopped old then steps_of old else min (steps_of old + 1) (2 ^ 64 - 1))
  pub is_stopped : is_stopped new ≡ is_cut (next_fate old)
