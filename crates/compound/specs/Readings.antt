-- What an operation reads: its request, and the file system.
use Rattle.std.specs.Prelude.{ℕ}
use Rattle.disk.specs.declared.device.Device.{Ghosts}
use Rattle.fs.specs.FileSystem.{FileSystem}
use Rattle.fs.specs.Views.{fs_of}
use Rattle.model.specs.Operations.Operation.{Argument}
use Rattle.model.specs.Server.World.{InProgress}
use Rattle.model.specs.Sessions.Opens.{Opens}
use Rattle.compound.specs.Operates.{Reads, HasResult, ChangesTreeAndOpens}
use Rattle.compound.specs.Views.{in_progress_of}
use Rattle.compound.specs.declared.executed.Executed.{Executed}
use Rattle.compound.specs.declared.reading.Reading.{Reading}

abbrev pub files_read : {D : Type 0} {g : Ghosts D} → Reading D g → FileSystem
files_read reading = fs_of reading.fs.now

abbrev pub request_read : {D : Type 0} {g : Ghosts D} → Reading D g → InProgress
request_read reading = in_progress_of reading.running.now

-- the operation gives this, and changes nothing
abbrev pub ReadsAs : {D : Type 0} {g : Ghosts D} → Reading D g → Argument → Executed → Type 0
ReadsAs reading = Reads (files_read reading) (request_read reading)

-- the operation gives this, and changes only the opens
pub record ChangesOpens {D : Type 0} {g : Ghosts D} (reading : Reading D g) (old new : Opens)
    (operation : Argument) (done : Executed) : Type 0 where
  pub answered : HasResult (request_read reading) done
  pub gives : (now : ℕ) → ChangesTreeAndOpens (files_read reading) (files_read reading) old new now
      (request_read reading) operation done
