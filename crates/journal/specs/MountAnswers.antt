-- What the result of a mount of a journal says.
use Rattle.std.specs.Prelude.{ℕ, [], false, ◌≡◌, ◌≤◌, ◌<◌, ◌+◌, ◌⊎◌}
use Rattle.disk.specs.Cause.{IsCounted}
use Rattle.disk.specs.Moments.{History, IsSector, AddsOnly, moment, seen, synced}
use Rattle.journal.specs.declared.fault.JournalFault.{JournalFault}
use Rattle.journal.specs.declared.fault.JournalFault.TheVariants as faults
use Rattle.journal.specs.declared.fault.Unmounted.{Unmounted}
use Rattle.journal.specs.declared.layout.LogArea.{LogArea}
use Rattle.journal.specs.Log.{Log, IsSettled}
use Rattle.journal.specs.Recover.{IsClosed, LeavesOnlySynced, recovery_cost}
use Rattle.journal.specs.Settled.{Settles, SettlesAs}

-- the journal of a device with this number of sectors and of failures: it is up, and nothing waits
pub record IsNewJournal (area : LogArea) (sectors before : ℕ) (log : Log) (after : ℕ)
    : Type 0 where
  pub list : log.list ≡ []
  pub is_down : log.is_down ≡ false
  pub same_area : log.area ≡ area
  pub size : log.size ≡ sectors
  pub failures : after ≡ before

-- The base is what the device settled to, sectors of bytes. Each image that a crash leaves within
-- the mount settles as the device did, and from its first sync on no other is left. A closed gate
-- needs only that sync.
pub record HasRecovered (area : LogArea) (old : History) (log : Log) : Type 0 where
  pub base : Settles area (seen old.now) log.base
  pub sectors : (n : ℕ) → n < log.size → IsSector (log.base n)
  pub settled : IsSettled log
  pub moments : AddsOnly (SettlesAs area (seen old.now)) old log.history
  pub since_sync : AddsOnly (SettlesAs area (seen old.now)) (synced old) log.history
  pub closed : IsClosed old → log.history ≡ synced old
  pub cost : moment log.history ≡ moment old + recovery_cost base.to

-- What a mount that failed did: at most what the recovery of a full log costs. Damaged is returned
-- only if the gate has no form.
pub record IsRecoveryRefused (area : LogArea) (old new : History) (fault : JournalFault)
    : Type 0 where
  pub refused : AddsOnly (SettlesAs area (seen old.now)) old new
  pub brief : moment new ≤ moment old + (area.sectors + 6)
  pub closed_refused : IsClosed old → (new ≡ old) ⊎ (new ≡ synced old)
  pub damaged : fault ≡ faults.Damaged → LeavesOnlySynced area old new

-- The device that comes back, with the reason: Fault is returned exactly if it counted a failure
pub record JournalComesBack {D : Type 0} (size failed : D → ℕ) (device : D) (refused : Unmounted D)
    : Type 0 where
  pub refused_size : size refused.device ≡ size device
  pub memory : refused.fault ≡ faults.Memory → refused.device ≡ device
  pub later : failed device ≤ failed refused.device
  pub counted : refused.fault ≡ faults.Fault → IsCounted (failed device) (failed refused.device)
  pub none : (refused.fault ≡ faults.Fault → ⊥) → failed refused.device ≡ failed device
  pub reasons : (refused.fault ≡ faults.Fault)
      ⊎ ((refused.fault ≡ faults.Damaged) ⊎ (refused.fault ≡ faults.Memory))
