-- What contracts see of a server: its world, and what is on its device.
use Rattle.std.specs.Prelude.{ℕ, Bool, true, false, List, Option, Result, OnErr, ◌≡◌}
use Rattle.std.specs.Global.{Vec}
use Rattle.std.specs.Option.{option_map}
use Rattle.compound.specs.Profile.{served_by}
use Rattle.compound.specs.States.{SharedState, most_reply_bytes, shared_of}
use Rattle.disk.specs.declared.device.Device.{Ghosts}
use Rattle.fs.specs.FileSystem.{FileSystem}
use Rattle.fs.specs.Views.{fs_of, fs_failures}
use Rattle.layout.specs.declared.versions.VersionNumber.{VersionNumber}
use Rattle.model_tree.specs.declared.limits.Limits.{Limits}
use Rattle.model.specs.Server.Runs.{Serving, Event, Left}
use Rattle.model_tree.specs.Trees.Tree.{Tree}
use Rattle.model.specs.Server.World as world
use Rattle.model.specs.Server.World.{World, ServerLimits, mounted_world}
use Rattle.rpc.specs.Assembly.{record_limits}
use Rattle.volume.specs.MountAnswers.{MountServes}
use Rattle.volume.specs.VolumeState.{VolumeState}
use Rattle.server.specs.Connections.{connections_of}
use Rattle.server.specs.declared.fault.ServerFault.{ServerFault}
use Rattle.server.specs.declared.server.Server.{Server}
use Rattle.server.specs.Seen.{Seen, IsReady, LeavesNow, Said, Gave, Does, Breaks, Checkpoints, FlushesAll, GivesDown, IsTurned, AreAtOnce}
use Rattle.model.specs.Sessions.Session.{Settings}

-- how many connections there may be at a time
abbrev pub most_connections : ℕ
most_connections = 16

-- 64 clients, 32 sessions, 8 slots, and of a session that has a seat as many as the volume has room
-- for; records of 16,384 bytes; an OK result ends within 16,368 bytes of its reply. A constant of
-- the code that is changed is refused. Whether a new session may have a seat is said when the run
-- begins.
abbrev pub server_limits : VersionNumber → Limits → (settings : Settings) → ServerLimits
server_limits version volume settings = record {
  volume = volume;
  sessions = served_by version;
  records = record_limits;
  connections = most_connections;
  settings = settings;
  reply_bytes = most_reply_bytes;
}

abbrev pub world_by : SharedState → (connections : List (ℕ × world.Connection)) → World
world_by state connections = record {
  limits =
      server_limits state.files.volume.version state.files.volume.limits state.table.settings;
  run = state.files.volume.run;
  tree = state.files.volume.tree;
  changes = state.files.changes;
  opens = state.opens;
  table = state.table;
  connections = connections;
}

unfoldable pub world_of : {D : Type 0} {g : Ghosts D} → Server D g → World
world_of server =
    world_by (shared_of server.fs server.table server.opens) (connections_of server.connections)

-- the file system that it serves
unfoldable pub files_of : {D : Type 0} {g : Ghosts D} → Server D g → FileSystem
files_of server = fs_of server.fs

-- and the volume below it: whether that is down, and what a crash may leave
unfoldable pub volume_of : {D : Type 0} {g : Ghosts D} → Server D g → VolumeState
volume_of server = (fs_of server.fs).volume

-- it has the tree of its volume and the seats that its mount read, and no client, session or
-- connection
abbrev pub BeginsEmpty : {D : Type 0} {g : Ghosts D} → (settings : Settings) → Server D g → Type 0
BeginsEmpty settings server = world_of server
    ≡ mounted_world
    (server_limits (volume_of server).version (volume_of server).limits settings)
    (volume_of server).run (volume_of server).tree (world_of server).table.seats

-- how often the device has failed
unfoldable pub server_failures : {D : Type 0} {g : Ghosts D} → Server D g → ℕ
server_failures server = fs_failures server.fs

-- what a mount of this device serves
abbrev pub MountsServer : {D : Type 0} {g : Ghosts D} → (device : D) → Server D g → Type 0
MountsServer {g = g} device server = MountServes g.keeps_word g.size g.failed g.history device
    (volume_of server) (server_failures server)

-- whether something that has to last waits for the next flush
unfoldable pub waits_of : {D : Type 0} {g : Ghosts D} → Server D g → Bool
waits_of server = (fs_of server.fs).waits

-- the machine of the headline: a crash may leave these now
abbrev pub serving_by : World → List Left → (is_down waits : Bool) → Serving
serving_by world left is_down waits = record {
  world = world;
  left = left;
  is_down = is_down;
  waits = waits;
}

-- the server as that machine
abbrev pub serving : {D : Type 0} {g : Ghosts D} → Server D g → List Left → Serving
serving server recent =
    serving_by (world_of server) recent (volume_of server).is_down (waits_of server)

-- the same with the volume below it
abbrev pub seen_with : {D : Type 0} {g : Ghosts D} → Server D g → List Left → Seen
seen_with server recent = record { serving = serving server recent; volume = volume_of server }

-- and one that is down: what its volume shows since it failed is left open, and its world has the
-- tree that it had; a crash may leave any of these
abbrev pub seen_down : {D : Type 0} {g : Ghosts D} → Server D g → Tree → List Left → Seen
seen_down server tree left = record {
  serving = serving_by (record (world_of server) { tree = tree }) left (volume_of server).is_down
      (waits_of server);
  volume = volume_of server;
}

-- what is said by a reply's record, or by none
abbrev pub gave : Option (Vec ℕ) → Said
gave output = Gave (option_map (λ reply. reply.items) output)

-- Whatever a crash may leave before a call: it does the event, and a crash may leave these after
-- it. By whether the call defers.
abbrev pub ServesAs : {D : Type 0} {g : Ghosts D} → (defers : Bool) → (old new : Server D g) → Event
    → Said
    → Type 0
ServesAs defers old new event said = (recent : List Left) → IsReady (volume_of old) recent
    → (after : List Left)
    × (does : Does (seen_with old recent) event said (seen_with new after))
    × (does.happens.defers ≡ defers)

-- what has to last is kept in it
abbrev pub Serves : {D : Type 0} {g : Ghosts D} → (old new : Server D g) → Event → Said → Type 0
Serves old new event said = ServesAs false old new event said

-- the same, except that what has to last may wait for the next flush
abbrev pub ServesLater : {D : Type 0} {g : Ghosts D} → (old new : Server D g) → Event → Said
    → Type 0
ServesLater old new event said = ServesAs true old new event said

-- what waits waits on, and a call that is refused lets nothing more wait
abbrev pub LetsWait : {D : Type 0} {g : Ghosts D} {T : Type 0} → (old new : Server D g)
    → Result T ServerFault
    → Type 0
LetsWait old new result = (waits_of old ≡ true → waits_of new ≡ true)
    × OnErr result (waits_of new ≡ waits_of old)

-- a flush of all that waits: whatever a crash may leave before it, after it only the newest
abbrev pub FlushesServer : {D : Type 0} {g : Ghosts D} → (old new : Server D g) → Type 0
FlushesServer old new = (recent : List Left) → IsReady (volume_of old) recent
    → (after : List Left) × FlushesAll (seen_with old recent) (seen_with new after)

-- a checkpoint: whatever a crash may leave before it, a crash may leave after it
abbrev pub Keeps : {D : Type 0} {g : Ghosts D} → (old new : Server D g) → Type 0
Keeps old new = (recent : List Left) → IsReady (volume_of old) recent
    → Checkpoints (seen_with old recent) (seen_with new recent)

-- the device fails in it
abbrev pub ServerFails : {D : Type 0} {g : Ghosts D} → (old new : Server D g) → Event → Type 0
ServerFails old new event = (recent : List Left) → IsReady (volume_of old) recent
    → (left : List Left)
    × Breaks (seen_with old recent) event (seen_down new (volume_of old).tree left)

-- a server that is down gives a reply, whichever tree it had
abbrev pub GivesReply : {D : Type 0} {g : Ghosts D} → (old new : Server D g) → (connection : ℕ)
    → Said
    → Type 0
GivesReply old new connection said = (tree : Tree) (left : List Left)
    → LeavesNow (seen_down old tree left)
    → GivesDown (seen_down old tree left) connection said (seen_down new tree left)

-- turns of a connection, none of which defers, and then what comes
abbrev pub Turning : {D : Type 0} {g : Ghosts D} → (old : Server D g) → (connection now : ℕ)
    → (Seen → Type 0) → Type 0
Turning old connection now then = (recent : List Left) → IsReady (volume_of old) recent
    → (between : Seen) × (turned : IsTurned connection now (seen_with old recent) between)
    × then between × AreAtOnce connection now (seen_with old recent) between turned
