-- What a turn works on, and what it leaves of that.
use Rattle.std.specs.Prelude.{◌≡◌, ℕ}
use Rattle.compound.specs.States.{SharedState, shared_of}
use Rattle.disk.specs.declared.device.Device.{Ghosts}
use Rattle.fs.specs.FileSystem.{FileSystem}
use Rattle.fs.specs.Views.{fs_of, AltersFs}
use Rattle.server.specs.declared.engine.Engine.{Engine}
use Rattle.volume.specs.Changes.{Given, Ending}

abbrev pub files_in : {D : Type 0} {g : Ghosts D} → Engine D g → FileSystem
files_in engine = fs_of engine.fs.now

abbrev pub state_in : {D : Type 0} {g : Ghosts D} → Engine D g → SharedState
state_in engine = shared_of engine.fs.now engine.table.now engine.opens.now

-- it borrows the same file system, table and opens
pub record BorrowsSame {D : Type 0} {g : Ghosts D} (old new : Engine D g) : Type 0 where
  pub fs : new.fs.ghost_name ≡ old.fs.ghost_name
  pub table : new.table.ghost_name ≡ old.table.ghost_name
  pub opens : new.opens.ghost_name ≡ old.opens.ghost_name

-- what a call makes of the file system
abbrev pub AltersFiles : {D : Type 0} {g : Ghosts D} → (old new : Engine D g) → Given → Ending
    → Type 0
AltersFiles old new = AltersFs old.fs.now new.fs.now

-- the rest stays
abbrev pub KeepsRest : {D : Type 0} {g : Ghosts D} → (old new : Engine D g) → Type 0
KeepsRest old new =
    ((state_in new).table ≡ (state_in old).table) × ((state_in new).opens ≡ (state_in old).opens)
