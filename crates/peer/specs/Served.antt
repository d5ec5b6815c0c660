-- What the peers of a server are served: by the calls that were made since a moment of its run, and
-- the streams that they came by since.
use Rattle.std.specs.Prelude.{ℕ, true, false, Bool, ◌==◌, List, [], ◌∷◌, ◌++◌, Option, Some, is_some, ◌≡◌, if◌then◌else◌}
use Rattle.std.specs.Io.KnownBytes.{Appends, Consumes}
use Rattle.disk.specs.declared.device.Device.{Ghosts}
use Rattle.model.specs.Server.Runs.{Event, Arrives, Turns, HangsUp, Connects, Takes, Left}
use Rattle.model.specs.Server.World.{World}
use Rattle.model.specs.Sessions.Session.{Settings}
use Rattle.model_tree.specs.Trees.Keyed.{at}
use Rattle.server.specs.Headline.{BeginsServing, Stopped}
use Rattle.server.specs.Seen.{Seen, ServerCall, Did, Failed, Moves, AreTold, left_of, world_after}
use Rattle.server.specs.Views.{seen_with, volume_of, world_of}
use Rattle.server.specs.declared.server.Server.{Server}
use Rattle.volume.specs.VolumeState.{kept_of}
use Rattle.peer.specs.Calls.{Goes}
use Rattle.peer.specs.Steps.{all_by, taken_by, given_by}
use Rattle.peer.specs.declared.peer.Peer.{Peer}
use Rattle.peer.specs.declared.peer.Stage.{Stage}
use Rattle.peer.specs.declared.peer.Stage.TheVariants as stages
use Rattle.peer.specs.declared.stream.Stream as stream

-- The calls on a connection since it was made, the newest first

abbrev pub begins : (connection : ℕ) → ServerCall → Bool
begins connection (Did (Connects number) said) = number == connection
begins connection _ = false

abbrev pub is_for : (connection : ℕ) → ServerCall → Bool
is_for connection (Did (Arrives number piece) said) = number == connection
is_for connection (Did (Turns number now) said) = number == connection
is_for connection (Did (HangsUp number) said) = number == connection
is_for connection (Did (Connects number) said) = number == connection
is_for connection (Did (Takes number) said) = number == connection
is_for connection (Failed event) = false

abbrev pub since : (connection : ℕ) → List ServerCall → List ServerCall
since connection [] = []
since connection (call ∷ calls) =
    if begins connection call then []
    else (if is_for connection call then call ∷ since connection calls else since connection calls)

-- what is left of the replies that a peer was given; of one that ends it is dropped
abbrev pub IsLeft : Stage → List ℕ → Type 0
IsLeft stages.Gathers rest = rest ≡ []
IsLeft stages.Runs rest = rest ≡ []
IsLeft stages.Made rest = rest ≡ []
IsLeft (stages.Replies reply) rest = rest ≡ reply
IsLeft stages.Ends rest = Unit {0}

-- What a peer was served. Of what was to come by its stream a prefix was read; of that the server
-- took a prefix on its connection, and the rest waits. Of the replies that the server gave on its
-- connection a prefix was written to its stream, and the rest goes out, or is dropped with the peer.
pub record WasServed {S : Type 0} {h : stream.Ghosts S} (streams : List (ℕ × S))
    (calls : List ServerCall) (peer : Peer S h) : Type 0 where
  pub began : S
  pub came : List ℕ
  pub written : List ℕ
  pub rest : List ℕ
  pub came_by : at peer.conn streams ≡ Some began
  pub read : Consumes (h.coming began) (h.coming peer.stream) came
  pub fed : all_by taken_by (since peer.conn calls) ++ peer.inbox ≡ came
  pub wrote : Appends (h.gone began) (h.gone peer.stream) written
  pub sent : written ++ rest ≡ all_by given_by (since peer.conn calls)
  pub left : IsLeft peer.stage rest

-- the world has the connection
abbrev pub IsThere : (connection : ℕ) → World → Type 0
IsThere connection world = is_some (at connection world.connections) ≡ true

-- a peer is on this connection
pub record HasPeer {S : Type 0} {h : stream.Ghosts S} (peers : ℕ → Option (Peer S h))
    (connection : ℕ) : Type 0 where
  pub key : ℕ
  pub peer : Peer S h
  pub held : peers key ≡ Some peer
  pub on : peer.conn ≡ connection

-- Each peer was served, on a connection of its own, and one that came is there as long as the
-- server has its connection. The streams are those by which peers came, the newest first.
pub record AreServed {S : Type 0} {h : stream.Ghosts S} (start : World) (streams : List (ℕ × S))
    (peers : ℕ → Option (Peer S h)) (calls : List ServerCall) : Type 0 where
  pub each : (key : ℕ) (peer : Peer S h) → peers key ≡ Some peer → WasServed streams calls peer
  pub there : (key : ℕ) (peer : Peer S h) → peers key ≡ Some peer
      → IsThere peer.conn (world_after start calls)
  pub apart : (one other : ℕ) (peer another : Peer S h) → peers one ≡ Some peer
      → peers other ≡ Some another → peer.conn ≡ another.conn → one ≡ other
  pub kept : (connection : ℕ) → is_some (at connection streams) ≡ true
      → IsThere connection (world_after start calls) → HasPeer peers connection

-- All calls of the server from then until now are events of a run, and the peers were served by
-- them.
abbrev pub Serves : {D S : Type 0} {g : Ghosts D} {h : stream.Ghosts S} → (keeps : Type 0)
    → (first now : Server D g) → (streams : List (ℕ × S)) → (peers : ℕ → Option (Peer S h))
    → Type 0
Serves keeps first now streams peers =
    Goes keeps first now (AreServed (world_of first) streams peers)

-- No peer yet: whatever calls were made since then, as long as they are events of a run
abbrev pub ServesNone : {D S : Type 0} {g : Ghosts D} {h : stream.Ghosts S} → (keeps : Type 0)
    → (now : Server D g) → (peers : ℕ → Option (Peer S h)) → Type 0
ServesNone {D = D} {g = g} keeps now peers =
    (first : Server D g) → Goes keeps first now (λ calls. Unit {0})
    → Serves keeps first now [] peers

-- and go on to be
abbrev pub ServesFurther : {D S : Type 0} {g : Ghosts D} {h : stream.Ghosts S} → (keeps : Type 0)
    → (old new : Server D g) → (before after : ℕ → Option (Peer S h)) → Type 0
ServesFurther {D = D} {S = S} {g = g} keeps old new before after =
    (first : Server D g) (streams : List (ℕ × S)) → Serves keeps first old streams before
    → Serves keeps first new streams after

-- one more came, by this stream
abbrev pub ServesOneMore : {D S : Type 0} {g : Ghosts D} {h : stream.Ghosts S} → (keeps : Type 0)
    → (old new : Server D g) → (stream : S) → (before after : ℕ → Option (Peer S h)) → Type 0
ServesOneMore {D = D} {S = S} {g = g} keeps old new stream before after =
    (conn : ℕ) × ((first : Server D g) (streams : List (ℕ × S))
    → Serves keeps first old streams before
    → Serves keeps first new ((conn, stream) ∷ streams) after)

-- What peers were served is of a run: each call returned what the definition gives, and the run may
-- stop at any moment of the next call.
pub record AreOfRun {D S : Type 0} {g : Ghosts D} {h : stream.Ghosts S} (first now : Server D g)
    (streams : List (ℕ × S)) (peers : ℕ → Option (Peer S h)) : Type 0 where
  pub recent : List Left
  pub calls : List ServerCall
  pub are : AreServed (world_of first) streams peers calls
  pub told : AreTold (world_of first) calls
  pub stops : (event : Event) (new : Seen) → Moves (seen_with now recent) event new
      → (stopped : Stopped) × (stopped.calls ≡ calls) × (stopped.new ≡ new)
      × (stopped.first ≡ seen_with first (left_of (kept_of (volume_of first)) ∷ []))

-- What clients see on the wire is what runs of the server give: so `server::every_run` and
-- `server::every_life` speak of it.
abbrev pub EveryWire : {D S : Type 0} {g : Ghosts D} {h : stream.Ghosts S} → (keeps : Type 0)
    → (now : Server D g) → (peers : ℕ → Option (Peer S h)) → Type 0
EveryWire {D = D} {S = S} {g = g} keeps now peers =
    (settings : Settings) (first : Server D g) (streams : List (ℕ × S)) → keeps
    → (volume_of now).is_down ≡ false → BeginsServing settings first
    → Serves keeps first now streams peers → AreOfRun first now streams peers
