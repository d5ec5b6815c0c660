-- What contracts see of a file system in memory.
use Rattle.std.specs.Prelude.{ℕ}
use Rattle.disk.specs.declared.device.Device.{Ghosts}
use Rattle.fs.specs.declared.fs.Fs.{Fs}
use Rattle.fs.specs.Changes.{FsChanges}
use Rattle.fs.specs.FileSystem.{FileSystem}
use Rattle.volume.specs.Changes.{Given, Ending}
use Rattle.volume.specs.MountAnswers.{MountServes}
use Rattle.volume.specs.Views.{volume_state, volume_failures}

unfoldable pub fs_of : {D : _} {g : _} → Fs D g → FileSystem
fs_of fs = record {
  volume = volume_state fs.volume;
  changes = fs.changes;
  defers = fs.defers;
  waits = fs.waits;
}

-- how often its device has failed
unfoldable pub fs_failures : {D : _} {g : _} → Fs D g → ℕ
fs_failures fs = volume_failures fs.volume

-- what a call does to it, and to how often its device has failed
abbrev pub AltersFs : {D : _} {g : _} → (old new : Fs D g) → Given → Ending → Type 0
AltersFs {D} {g} old new given ending =
    FsChanges g.keeps_word given (fs_of old) (fs_of new) (fs_failures old) (fs_failures new) ending

-- what a mount of this device serves
abbrev pub MountsFs : {D : Type 0} {g : Ghosts D} → (device : D) → Fs D g → Type 0
MountsFs {D} {g} device fs = MountServes g.keeps_word g.size g.failed g.history device
    (fs_of fs).volume (fs_failures fs)
