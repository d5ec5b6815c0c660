-- What all COMPOUNDs of a server work on: the file system, the clients and sessions, and what these
-- have open.
use Rattle.std.specs.Prelude.{ℕ, ◌≡◌, false}
use Rattle.fs.specs.FileSystem.{FileSystem}
use Rattle.fs.specs.Views.{fs_of}
use Rattle.fs.specs.declared.fs.Fs.{Fs}
use Rattle.model.specs.Sessions.Opens.{Opens}
use Rattle.model.specs.Sessions.Session.{Table}
use Rattle.model.specs.Server.World.{World, InProgress}
use Rattle.session.specs.Views.{table_of}
use Rattle.session.specs.declared.table.Table as code
use Rattle.opens.specs.Views.{opens_of}
use Rattle.opens.specs.declared.opens.Opens as known
use Rattle.compound.specs.Profile.{served_by}

pub record SharedState : Type 0 where
  pub files : FileSystem
  pub table : Table
  pub opens : Opens

abbrev pub shared : FileSystem → Table → Opens → SharedState
shared files table opens = record { files = files; table = table; opens = opens }

-- what is in memory
abbrev pub shared_of : {D : _} {g : _} → Fs D g → code.Table → known.Opens → SharedState
shared_of fs table opens = shared (fs_of fs) (table_of table) (opens_of opens)

-- within how many bytes of its reply an OK result ends
abbrev pub most_reply_bytes : ℕ
most_reply_bytes = 16368

-- a world that has it
pub record HasState (world : World) (state : SharedState) : Type 0 where
  pub volume : world.limits.volume ≡ state.files.volume.limits
  pub sessions : world.limits.sessions ≡ served_by state.files.volume.version
  pub reply_bytes : world.limits.reply_bytes ≡ most_reply_bytes
  pub run : world.run ≡ state.files.volume.run
  pub tree : world.tree ≡ state.files.volume.tree
  pub changes : world.changes ≡ state.files.changes
  pub opens : world.opens ≡ state.opens
  pub table_is : world.table ≡ state.table

-- the table is one of the volume's run, and has the volume's seats
pub record Agrees (files : FileSystem) (table : Table) : Type 0 where
  pub run : table.run ≡ files.volume.run
  pub seats : table.seats ≡ files.volume.seats

-- a file system that is up, in the run in which the request began
pub record CanServe (files : FileSystem) (request : InProgress) : Type 0 where
  pub up : files.volume.is_down ≡ false
  pub run : request.context.run ≡ files.volume.run

-- a file system that is up, and the table that has its seats if the device keeps its word
pub record CanSeat (keeps_word : Type 0) (files : FileSystem) (table : Table) : Type 0 where
  pub up : files.volume.is_down ≡ false
  pub agrees : keeps_word → Agrees files table

-- the world with what it is now
abbrev pub with_state : World → SharedState → World
with_state world state = record world {
  tree = state.files.volume.tree;
  changes = state.files.changes;
  table = state.table;
  opens = state.opens;
}
