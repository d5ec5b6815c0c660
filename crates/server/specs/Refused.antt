-- What a call of the server that is refused leaves.
use Rattle.std.specs.Prelude.{ℕ, Bool, true, false, Option, Some, None, ◌≡◌, ◌≤◌, ◌⊎◌}
use Rattle.disk.specs.Cause.{IsCounted}
use Rattle.disk.specs.declared.device.Device.{Ghosts}
use Rattle.model_tree.specs.Trees.Keyed.{at}
use Rattle.model.specs.Server.World.{World, Connection, Closed, one}
use Rattle.volume.specs.VolumeState.{VolumeState, IsSameVolume, MakesAtMost}
use Rattle.server.specs.Connections.{HasGoneOn}
use Rattle.server.specs.declared.fault.ServerFault.{ServerFault}
use Rattle.server.specs.declared.fault.ServerFault.TheVariants as faults
use Rattle.server.specs.declared.server.Server.{Server}
use Rattle.server.specs.Views.{world_of, volume_of, waits_of, server_failures}

-- what a caller can observe of a server between two calls
pub record View : Type 0 where
  pub world : World
  pub volume : VolumeState
  pub failures : ℕ
  -- whether something that has to last waits for the next flush
  pub waits : Bool

abbrev pub view : {D : Type 0} {g : Ghosts D} → Server D g → View
view server = record {
  world = world_of server;
  volume = volume_of server;
  failures = server_failures server;
  waits = waits_of server;
}

-- all is as it was, and the device has not failed
abbrev pub IsUntouched : (old new : View) → Type 0
IsUntouched old new =
    (new.world ≡ old.world) × (new.volume ≡ old.volume) × (new.failures ≡ old.failures)
    × (new.waits ≡ old.waits)

-- What a call may do to the device, however it ends: the count of its failures does not fall, and
-- if it keeps its word, at most `most` writes and syncs take effect.
pub record UsesDevice (keeps_word : Type 0) (most : ℕ) (old new : View) : Type 0 where
  pub later : old.failures ≤ new.failures
  pub brief : keeps_word → MakesAtMost most old.volume new.volume

abbrev pub connection_at : View → (number : ℕ) → Option Connection
connection_at server number = at number server.world.connections

-- the server was down before, or the device counted a failure
abbrev pub HasCause : (old new : View) → Type 0
HasCause old new = (old.volume.is_down ≡ true) ⊎ IsCounted old.failures new.failures

-- all except the tree of a volume that failed, of which nothing is known
abbrev pub KeepsWorld : (old new : View) → Type 0
KeepsWorld old new = new.world ≡ record old.world { tree = new.world.tree }

-- a turn, by why it is refused: it leaves the world in any case, and after a failure the server is
-- down
abbrev pub RefusesTurn : (old new : View) → (number : ℕ) → ServerFault → Type 0
RefusesTurn old new number faults.NoConnection =
    (connection_at old number ≡ None) × IsUntouched old new
RefusesTurn old new number faults.Closed =
    (connection_at old number ≡ Some Closed) × IsUntouched old new
RefusesTurn old new number faults.Memory = IsUntouched old new
RefusesTurn old new number faults.Device =
    KeepsWorld old new × HasCause old new × (new.volume.is_down ≡ true)
RefusesTurn old new number faults.Full = ⊥

-- A checkpoint that was done, on any device: the server was up and still is, on the same volume,
-- and the device has not failed in it.
pub record HasKept (old new : View) : Type 0 where
  pub up : old.volume.is_down ≡ false
  pub still_up : new.volume.is_down ≡ false
  pub none_failed : new.failures ≡ old.failures
  pub same : IsSameVolume old.volume new.volume
  pub world : KeepsWorld old new

-- one that is refused, which only the device may cause
pub record RefusesCheckpoint (old new : View) (fault : ServerFault) : Type 0 where
  pub told : fault ≡ faults.Device
  pub world : KeepsWorld old new
  pub cause : HasCause old new
  pub down : new.volume.is_down ≡ true

-- after turns of a connection the server is up, on the same volume, the device has not failed, and
-- the other connections are as they were
pub record HasRunOn (old new : View) (number : ℕ) : Type 0 where
  pub still_up : new.volume.is_down ≡ false
  pub none_failed : new.failures ≡ old.failures
  pub same : IsSameVolume old.volume new.volume
  pub others : (other : ℕ) → (other ≡ number → ⊥)
      → connection_at new other ≡ connection_at old other

-- a hang-up; if memory runs out it leaves what was run, and the connection stays
abbrev pub RefusesHangUp : (old new : View) → (number : ℕ) → ServerFault → Type 0
RefusesHangUp old new number faults.NoConnection =
    (connection_at old number ≡ None) × IsUntouched old new
RefusesHangUp old new number faults.Memory =
    HasRunOn old new number × (connection_at new number ≡ None → ⊥)
RefusesHangUp old new number faults.Device = HasCause old new × (new.volume.is_down ≡ true)
RefusesHangUp old new number faults.Closed = ⊥
RefusesHangUp old new number faults.Full = ⊥

-- A turn that was done. On any device the server was up and still is, on the same volume, the
-- device has not failed in it, the other connections are as they were, and a request that has begun
-- has gone on. If the device keeps its word, the world is that of the definition.
pub record HasTurned (keeps_word : Type 0) (old new : View) (number now : ℕ) : Type 0 where
  pub up : old.volume.is_down ≡ false
  pub still_up : new.volume.is_down ≡ false
  pub none_failed : new.failures ≡ old.failures
  pub same : IsSameVolume old.volume new.volume
  pub others : (other : ℕ) → (other ≡ number → ⊥)
      → connection_at new other ≡ connection_at old other
  pub further : HasGoneOn (connection_at old number) (connection_at new number)
  pub world : keeps_word → new.world ≡ (one old.world number now).world
