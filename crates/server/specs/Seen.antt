-- A server as its caller sees it from call to call: the machine of the headline, and the volume
-- below it.
use Rattle.std.specs.Prelude.{ℕ, suc, true, false, List, [], ◌∷◌, Option, Some, None, ◌≡◌, map}
use Rattle.std.specs.List.{IsAmong}
use Rattle.disk.specs.Moments.{Image, AddsOnly, Left}
use Rattle.layout.specs.Stands.{Kept}
use Rattle.volume.specs.VolumeState.{VolumeState, IsSameVolume, MakesAtMost, StandsForOne, IsRecent, call_cost}
use Rattle.model_tree.specs.Trees.Keyed.{at}
use Rattle.model.specs.Server.Runs.{Serving, Event, Arrives, Turns, HangsUp, Connects, Takes, Happens, Flushes, DeviceFails, StaysDown, RunHistory, no_history, history_after, history_failing, effect_of, MayBeLeft}
use Rattle.model.specs.Server.Runs as runs
use Rattle.model.specs.Server.World as world
use Rattle.model.specs.Server.World.{World, Turn, one, taken_at, reply_at, is_busy}

pub record Seen : Type 0 where
  pub serving : Serving
  pub volume : VolumeState

-- what a volume keeps, as the machine has it
abbrev pub left_of : Kept → runs.Left
left_of kept = record { tree = kept.tree; seats = kept.seats }

-- what the machine leaves, as a volume keeps it
abbrev pub kept_by : runs.Left → Kept
kept_by left = record { tree = left.tree; seats = left.seats }

-- what a crash may leave of a volume, now and within the next call
abbrev pub IsReady : VolumeState → List runs.Left → Type 0
IsReady held left = IsRecent held (map kept_by left)

-- so the next call can be made
abbrev pub IsSeenReady : Seen → Type 0
IsSeenReady seen = IsReady seen.volume seen.serving.left

-- what the machine leaves now
abbrev pub IsLeftBy : Serving → Kept → Type 0
IsLeftBy serving kept = IsAmong serving.left (left_of kept)

-- each image that a crash leaves now represents such a tree and seats
abbrev pub LeavesNow : Seen → Type 0
LeavesNow seen = (image : Image) → Left seen.volume.history.now image
    → StandsForOne seen.volume (IsLeftBy seen.serving) image

-- and while an event happens
abbrev pub MayKeepDuring : Serving → Event → Kept → Type 0
MayKeepDuring serving event kept = MayBeLeft serving event (left_of kept)

-- what a call adds to what a crash may leave, at each moment of it: what the machine may leave
-- while the event happens
pub record Moves (old : Seen) (event : Event) (new : Seen) : Type 0 where
  pub moments : AddsOnly (StandsForOne old.volume (MayKeepDuring old.serving event))
      old.volume.history
      new.volume.history
  pub leaves : LeavesNow new
  pub same : IsSameVolume old.volume new.volume
  -- it makes at most these writes and syncs
  pub brief : MakesAtMost (call_cost old.volume) old.volume new.volume

-- What a call returns

pub data Said : Type 0 where
  -- the count of the bytes of the piece that were taken; none: Closed
  Took : Option ℕ → Said
  Turned : Turn → Said
  -- the reply's record
  Gave : Option (List ℕ) → Said
  Done : Said

abbrev pub taken_on : World → (piece : List ℕ) → Option world.Connection → Option ℕ
taken_on world piece None = None
taken_on world piece (Some connection) = taken_at world.limits.records piece connection

-- by the definition
abbrev pub event_said : World → Event → Said
event_said world (Arrives connection piece) =
    Took (taken_on world piece (at connection world.connections))
event_said world (Turns connection now) = Turned (one world connection now).turn
event_said world (HangsUp connection) = Done
event_said world (Connects connection) = Done
event_said world (Takes connection) = Gave (reply_at world connection)

-- Calls

-- a call that did an event; one in which the device failed; and a reply given by a server that is
-- down
pub record Does (old : Seen) (event : Event) (said : Said) (new : Seen) : Type 0 where
  pub happens : Happens old.serving event new.serving
  pub says : said ≡ event_said old.serving.world event
  pub moves : Moves old event new
  pub ready : IsSeenReady new

pub record Breaks (old : Seen) (event : Event) (new : Seen) : Type 0 where
  pub fails : DeviceFails old.serving event new.serving
  pub moves : Moves old event new

pub record GivesDown (old : Seen) (connection : ℕ) (said : Said) (new : Seen) : Type 0 where
  pub stays : StaysDown old.serving connection new.serving
  pub says : said ≡ event_said old.serving.world (Takes connection)
  pub moves : Moves old (Takes connection) new

-- A checkpoint is no event: content was moved on the device. A crash within it leaves what it may
-- have left before, whichever event it is taken for, and a crash after it nothing else.
pub record Checkpoints (old new : Seen) : Type 0 where
  pub serving : new.serving ≡ old.serving
  pub moves : (event : Event) → Moves old event new
  pub ready : IsSeenReady new

-- Nor is a flush of what waits. A crash within it leaves what it might have left before, and a
-- crash after it only the newest.
pub record FlushesAll (old new : Seen) : Type 0 where
  pub flushes : Flushes old.serving new.serving
  pub moves : (event : Event) → Moves old event new
  pub ready : IsSeenReady new

-- what was done, the newest first
pub data ServerCall : Type 0 where
  Did : Event → Said → ServerCall
  Failed : Event → ServerCall

pub data IsServed (first : Seen) : List ServerCall → Seen → Type 0 where
  Begins : IsServed first [] first
  Goes_on : {calls : List ServerCall} {old new : Seen} (event : Event) (said : Said)
      → IsServed first calls old → Does old event said new
      → IsServed first (Did event said ∷ calls) new
  Fails_at : {calls : List ServerCall} {old new : Seen} (event : Event) → IsServed first calls old
      → Breaks old event new
      → IsServed first (Failed event ∷ calls) new
  Stays_down : {calls : List ServerCall} {old new : Seen} (connection : ℕ) (said : Said)
      → IsServed first calls old → GivesDown old connection said new
      → IsServed first (Did (Takes connection) said ∷ calls) new
  Keeps_on : {calls : List ServerCall} {old new : Seen} → IsServed first calls old
      → Checkpoints old new → IsServed first calls new
  Flushed : {calls : List ServerCall} {old new : Seen} → IsServed first calls old
      → FlushesAll old new → IsServed first calls new

-- how many calls were made, checkpoints and flushes too
abbrev pub count_of : {first last : Seen} {calls : List ServerCall} → IsServed first calls last → ℕ
count_of Begins = 0
count_of (Goes_on event said before does) = suc (count_of before)
count_of (Fails_at event before breaks) = suc (count_of before)
count_of (Stays_down connection said before gives) = suc (count_of before)
count_of (Keeps_on before checkpoints) = suc (count_of before)
count_of (Flushed before flushes) = suc (count_of before)

-- By the definition

abbrev pub world_after : World → List ServerCall → World
world_after start [] = start
world_after start (Did event said ∷ calls) = effect_of (world_after start calls) event
world_after start (Failed event ∷ calls) = world_after start calls

abbrev pub history_of : World → List ServerCall → RunHistory
history_of start [] = no_history
history_of start (Did event said ∷ calls) =
    history_after (history_of start calls) (world_after start calls) event
history_of start (Failed event ∷ calls) =
    history_failing (history_of start calls) (world_after start calls) event

abbrev pub AreTold : World → List ServerCall → Type 0
AreTold start [] = Unit {0}
AreTold start (Did event said ∷ calls) =
    (said ≡ event_said (world_after start calls) event) × AreTold start calls
AreTold start (Failed event ∷ calls) = AreTold start calls

-- A hang-up: the further turns of a request that has begun, and then the connection goes
pub data IsTurned (connection now : ℕ) : Seen → Seen → Type 0 where
  Stays : {seen : Seen} → IsTurned connection now seen seen
  Goes_on : {old between new : Seen} {said : Said}
      → is_busy (at connection old.serving.world.connections) ≡ true
      → Does old (Turns connection now) said between
      → IsTurned connection now between new → IsTurned connection now old new

-- none of them defers
abbrev pub AreAtOnce : (connection now : ℕ) (old new : Seen) → IsTurned connection now old new
    → Type 0
AreAtOnce connection now old new Stays = Unit {0}
AreAtOnce connection now old new (Goes_on {between = between} busy does more) =
    (does.happens.defers ≡ false) × AreAtOnce connection now between new more
