-- What a call does to a file system, stated once for each call of this crate and of those above it
-- that may change the tree.
use Rattle.std.specs.Prelude.{ℕ, Bool, true, false, not, ◌&&◌, Result, Ok, Err, ◌≡◌}
use Rattle.layout.specs.Stands.{Kept}
use Rattle.fs.specs.declared.fault.FsFault.{FsFault}
use Rattle.fs.specs.declared.fault.FsFault.TheVariants as fault
use Rattle.fs.specs.FileSystem.{FileSystem}
use Rattle.volume.specs.Changes as volume
use Rattle.volume.specs.Changes.{Given, Ending, Done, Nothing, Broken}

-- how a call ends
abbrev pub fs_ending : {T : Type 0} → Result T FsFault → Ending
fs_ending (Ok done) = Done
fs_ending (Err (fault.Status reason)) = Nothing
fs_ending (Err fault.NoRoom) = Nothing
fs_ending (Err fault.Memory) = Nothing
fs_ending (Err fault.Device) = Broken
fs_ending (Err fault.Down) = Nothing

-- if a file system defers, nothing has to last yet
abbrev pub deferred : (defers : Bool) → Given → Given
deferred defers given after lasting =
    (lasts : Bool) × given after lasts × (lasting ≡ (lasts && not defers))

-- What waits for the next flush: if it defers, all that has to last by the definition, and
-- otherwise what waited before
pub record LetsWait (keeps_word : Type 0) (given : Given) (old new : FileSystem) (ending : Ending)
    : Type 0 where
  pub mode : new.defers ≡ old.defers
  pub waits_on : old.waits ≡ true → new.waits ≡ true
  pub at_once : old.defers ≡ false → new.waits ≡ old.waits
  pub failed : (ending ≡ Done → ⊥) → new.waits ≡ old.waits
  pub waits : keeps_word → ending ≡ Done → old.defers ≡ true → (after : Kept) → given after true
      → new.waits ≡ true

-- what it does to the volume, and what waits after it; a call that fails counts no change
pub record FsChanges (keeps_word : Type 0) (given : Given) (old new : FileSystem)
    (failed_before failed_after : ℕ) (ending : Ending) : Type 0 where
  pub volume_changes :
      volume.VolumeChanges keeps_word (deferred old.defers given) old.volume new.volume
      failed_before failed_after ending
  pub no_count : (ending ≡ Done → ⊥) → new.changes ≡ old.changes
  pub lets_wait : LetsWait keeps_word given old new ending

abbrev pub waits_after : (waits : Bool) → Result (Unit {0}) FsFault → Bool
waits_after waits (Ok done) = false
waits_after waits (Err fault) = waits

-- a flush of all that waits: it changes no tree
pub record FsFlushes (keeps_word : Type 0) (old new : FileSystem)
    (failed_before failed_after : ℕ) (result : Result (Unit {0}) FsFault) : Type 0 where
  pub volume_changes : volume.VolumeChanges keeps_word (volume.IsTree old.volume old.volume.tree)
      old.volume new.volume failed_before failed_after (fs_ending result)
  pub no_count : new.changes ≡ old.changes
  pub mode : new.defers ≡ old.defers
  pub waits : new.waits ≡ waits_after old.waits result
