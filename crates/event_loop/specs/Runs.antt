-- What the loop does with a server and its peers: calls of `Peers`, of which its law `every_wire`
-- speaks, one after the other.
use Rattle.std.specs.Prelude.{ℕ, false, List, [], ◌++◌, Option, Some, None, Result, Ok, ◌≡◌, ◌⊎◌}
use Rattle.disk.specs.declared.device.Device.{Ghosts}
use Rattle.model.specs.Sessions.Session.{Settings}
use Rattle.server.specs.Headline.{BeginsServing}
use Rattle.server.specs.Views.{MountsServer, server_failures, volume_of}
use Rattle.server.specs.declared.server.Server.{Server}
use Rattle.slab.specs.Slab.{get}
use Rattle.system.specs.declared.refused.Refused.{Refused}
use Rattle.peer.specs.Calls.{Goes}
use Rattle.peer.specs.Peers.{IsSame}
use Rattle.peer.specs.Rounds.{IsRound, StepsKey}
use Rattle.peer.specs.Served.{AreOfRun, Serves}
use Rattle.peer.specs.declared.pace.Pace.{Pace}
use Rattle.peer.specs.declared.pace.Pace.TheVariants as paces
use Rattle.peer.specs.declared.peer.Peer.{Peer}
use Rattle.peer.specs.declared.peer.Stage.TheVariants as stages
use Rattle.peer.specs.declared.peer.Step.{Step}
use Rattle.peer.specs.declared.peer.Step.TheVariants as steps
use Rattle.peer.specs.declared.peers.Peers.{Peers}
use Rattle.peer.specs.declared.stream.Stream as stream

-- A server

-- whatever calls of it were made, they are events of a run
abbrev pub GoesAny : {D : Type 0} {g : Ghosts D} → (keeps : Type 0) → (old new : Server D g)
    → Type 0
GoesAny keeps old new = Goes keeps old new (λ calls. Unit {0})

-- A run of it has begun: by these settings this device was mounted, and whatever calls were made
-- since are events of the run.
pub record HasBegun {D : Type 0} {g : Ghosts D} (keeps : Type 0) (settings : Settings) (device : D)
    (server : Server D g) : Type 0 where
  pub first : Server D g
  pub begins : BeginsServing settings first
  pub mounts : MountsServer device first
  pub goes : GoesAny keeps first server

-- A server and its peers

-- Calls of `Peers`: whatever the peers were served before, they are served further, and others came
-- meanwhile, by these streams.
pub record RunsOn {D S : Type 0} {g : Ghosts D} {h : stream.Ghosts S} (keeps : Type 0)
    (old new : Peers D S g h) : Type 0 where
  pub came : List (ℕ × S)
  pub serves : (first : Server D g) (streams : List (ℕ × S))
      → Serves keeps first old.server streams (get old.peers)
      → Serves keeps first new.server (came ++ streams) (get new.peers)

-- no peer yet, of a server that was mounted, whatever calls of it were made before
pub record HasNoPeer {D S : Type 0} {g : Ghosts D} {h : stream.Ghosts S} (keeps : Type 0)
    (mounted : Result (Server D g) Refused) (all : Peers D S g h) : Type 0 where
  pub server : Server D g
  pub is : mounted ≡ Ok server
  pub serves : (first : Server D g) → GoesAny keeps first server
      → Serves keeps first all.server [] (get all.peers)

-- A loop begins: by these settings this device was mounted, whatever calls of the server were made
-- since are events of its run, and it has no peer yet.
pub record LoopBegins {D S : Type 0} {g : Ghosts D} {h : stream.Ghosts S} (keeps : Type 0)
    (settings : Settings) (device : D) (all : Peers D S g h) : Type 0 where
  pub first : Server D g
  pub begins : BeginsServing settings first
  pub mounts : MountsServer device first
  pub serves : Serves keeps first all.server [] (get all.peers)

-- the same once more, on the device as an earlier loop left it
pub record LoopBeginsAnew {D S : Type 0} {g : Ghosts D} {h : stream.Ghosts S} (keeps : Type 0)
    (settings : Settings) (old all : Peers D S g h) : Type 0 where
  pub device : D
  pub history : g.history device ≡ (volume_of old.server).history
  pub size : g.size device ≡ (volume_of old.server).sectors
  pub failures : g.failed device ≡ server_failures old.server
  pub begins : LoopBegins keeps settings device all

-- Whatever a loop has done since it began: what its peers were served is of the run of its mount.
abbrev pub EveryLoop : {D S : Type 0} {g : Ghosts D} {h : stream.Ghosts S} → (keeps : Type 0)
    → (now : Peers D S g h) → Type 0
EveryLoop {D = D} {S = S} {g = g} {h = h} keeps now =
    (settings : Settings) (device : D) (old : Peers D S g h)
    (begins : LoopBegins keeps settings device old) (runs : RunsOn keeps old now) → keeps
    → (volume_of now.server).is_down ≡ false
    → AreOfRun begins.first now.server runs.came (get now.peers)

-- Turns

-- how soon the loop goes on after a step
abbrev pub pace_after : Step → Pace
pace_after (steps.Stays pace) = pace
pace_after steps.Ended = paces.Goes

-- and if no peer has the key
abbrev pub pace_of : Option Step → Pace
pace_of None = paces.Sleeps
pace_of (Some step) = pace_after step

-- the peer of this key has a step, if there is one
pub record StepsOne {D S : Type 0} {g : Ghosts D} {h : stream.Ghosts S} (keeps : Type 0)
    (key : ℕ) (old new : Peers D S g h) (pace : Pace) : Type 0 where
  pub step : Option Step
  pub paced : pace ≡ pace_of step
  pub steps : StepsKey keeps key old.server new.server (get old.peers) (get new.peers) step

-- Each of the 16 keys has had a step, in order, and then came other calls of `Peers`. What each peer
-- had by its step, `Peers::every_round` says.
pub record HadTurns {D S : Type 0} {g : Ghosts D} {h : stream.Ghosts S} (keeps : Type 0)
    (old new : Peers D S g h) : Type 0 where
  pub between : Peers D S g h
  pub round : IsRound keeps old.server (get old.peers) 16 between.server (get between.peers)
  pub goes : RunsOn keeps between new

-- Rounds

-- A peer as its step finds it: with the same stream and bytes, and dismissed only if it may give
-- way.
pub record IsFound {S : Type 0} {h : stream.Ghosts S} (gives_way : Type 0) (peer found : Peer S h)
    : Type 0 where
  pub same : IsSame peer found
  pub stage : (found.stage ≡ peer.stage) ⊎ (gives_way × (found.stage ≡ stages.Ends))

-- Calls of `Peers` after which each peer is there as its step will find it. The one of this key may
-- have been dismissed, if there is such a key.
pub record KeepsPeers {D S : Type 0} {g : Ghosts D} {h : stream.Ghosts S} (keeps : Type 0)
    (way : Option ℕ) (old new : Peers D S g h) : Type 0 where
  pub calls : RunsOn keeps old new
  pub goes : GoesAny keeps old.server new.server
  pub found : (key : ℕ) (peer : Peer S h) → get old.peers key ≡ Some peer
      → (left : Peer S h) × (get new.peers key ≡ Some left) × IsFound (way ≡ Some key) peer left

-- at most one is dismissed
abbrev pub MeetsPeers : {D S : Type 0} {g : Ghosts D} {h : stream.Ghosts S} → (keeps : Type 0)
    → (old new : Peers D S g h) → Type 0
MeetsPeers keeps old new = (way : Option ℕ) × KeepsPeers keeps way old new

-- A round: at most one peer is dismissed, then each of the 16 keys has a step, in order, in which it
-- finds its peer as that was, except that one, and then come other calls of `Peers`. What each peer
-- had by its step, `Peers::every_round` says.
pub record HadRound {D S : Type 0} {g : Ghosts D} {h : stream.Ghosts S} (keeps : Type 0)
    (old new : Peers D S g h) : Type 0 where
  pub way : Option ℕ
  pub met : Peers D S g h
  pub kept : KeepsPeers keeps way old met
  pub between : Peers D S g h
  pub round : IsRound keeps met.server (get met.peers) 16 between.server (get between.peers)
  pub goes : RunsOn keeps between new
