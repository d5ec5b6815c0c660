-- The calls of the server that the loop makes.
use Rattle.std.specs.Prelude.{ℕ, List, [], ◌∷◌, false, true, ◌≡◌, ◌⊎◌, Option, None, Result, Ok, Err}
use Rattle.disk.specs.declared.device.Device.{Ghosts}
use Rattle.model.specs.Server.Runs.{Arrives, Turns, HangsUp, Left}
use Rattle.model.specs.Server.World.{Connection}
use Rattle.server.specs.Refused.{IsUntouched, connection_at, view}
use Rattle.server.specs.Seen.{ServerCall, Did, Failed, Took, Done, IsReady, IsServed}
use Rattle.server.specs.Views.{seen_with, volume_of}
use Rattle.server.specs.declared.fault.ServerFault.{ServerFault}
use Rattle.server.specs.declared.fault.ServerFault.TheVariants as faults
use Rattle.server.specs.declared.server.Server.{Server}

-- Calls of a kind, the newest first, each as the server has it: from what a crash might leave
-- before them to what it may leave after them.
pub record MakesCalls {D : Type 0} {g : Ghosts D} (old new : Server D g) (recent : List Left)
    (kind : List ServerCall → Type 0) : Type 0 where
  pub after : List Left
  pub calls : List ServerCall
  pub ready : IsReady (volume_of new) after
  pub are : kind calls
  pub served : IsServed (seen_with old recent) calls (seen_with new after)

-- The server made calls of this kind and no others: on a device that keeps its word, as long as it
-- has not failed, and whatever a crash might leave before.
pub record Goes {D : Type 0} {g : Ghosts D} (keeps : Type 0) (old new : Server D g)
    (kind : List ServerCall → Type 0) : Type 0 where
  pub up : (volume_of new).is_down ≡ false → (volume_of old).is_down ≡ false
  pub made : keeps → (volume_of new).is_down ≡ false
      → (recent : List Left) → IsReady (volume_of old) recent → MakesCalls old new recent kind

-- Kinds

abbrev pub IsNone : List ServerCall → Type 0
IsNone calls = calls ≡ []

abbrev pub IsOne : ServerCall → List ServerCall → Type 0
IsOne call calls = calls ≡ call ∷ []

-- turns of a connection, at one moment
abbrev pub IsTurn : (connection now : ℕ) → ServerCall → Type 0
IsTurn connection now (Did (Turns number moment) said) = (number ≡ connection) × (moment ≡ now)
IsTurn connection now (Did event said) = ⊥
IsTurn connection now (Failed event) = ⊥

abbrev pub AreTurns : (connection now : ℕ) → List ServerCall → Type 0
AreTurns connection now [] = Unit {0}
AreTurns connection now (call ∷ calls) = IsTurn connection now call × AreTurns connection now calls

-- a hang-up, before which a request that has begun is run to its end
abbrev pub IsHangUp : (connection now : ℕ) → List ServerCall → Type 0
IsHangUp connection now [] = ⊥
IsHangUp connection now (call ∷ calls) =
    (call ≡ Did (HangsUp connection) Done) × AreTurns connection now calls

-- The end of a connection at this moment: a hang-up, or if memory runs out only turns, or nothing
abbrev pub IsEndAt : (connection now : ℕ) → List ServerCall → Type 0
IsEndAt connection now calls = IsHangUp connection now calls ⊎ AreTurns connection now calls

-- at one of these moments, or no call at all
abbrev pub IsEnd : (moments : ℕ → Type 0) → (connection : ℕ) → List ServerCall → Type 0
IsEnd moments connection calls =
    IsNone calls ⊎ ((now : ℕ) × moments now × IsEndAt connection now calls)

-- turns at one of these moments, after which there was no memory, or no call at all
abbrev pub AreSomeTurns : (moments : ℕ → Type 0) → (connection : ℕ) → List ServerCall → Type 0
AreSomeTurns moments connection calls =
    IsNone calls ⊎ ((now : ℕ) × moments now × AreTurns connection now calls)

-- it is there no longer, unless there was no memory or the device failed
abbrev pub HasGone : Result Unit ServerFault → Option Connection → Type 0
HasGone (Ok done) left = left ≡ None
HasGone (Err faults.NoConnection) left = left ≡ None
HasGone (Err faults.Closed) left = left ≡ None
HasGone (Err faults.Full) left = left ≡ None
HasGone (Err faults.Device) left = Unit {0}
HasGone (Err faults.Memory) left = Unit {0}

-- Refusals

-- bytes: the connection closes with them, or nothing was done
abbrev pub RefusesBytes : {D : Type 0} {g : Ghosts D} → (keeps : Type 0) → (old new : Server D g)
    → (connection : ℕ) → (piece : List ℕ) → ServerFault → Type 0
RefusesBytes keeps old new connection piece faults.Closed =
    Goes keeps old new (IsOne (Did (Arrives connection piece) (Took None)))
RefusesBytes keeps old new connection piece faults.NoConnection =
    (connection_at (view old) connection ≡ None) × IsUntouched (view old) (view new)
RefusesBytes keeps old new connection piece faults.Device =
    ((volume_of new).is_down ≡ true) × IsUntouched (view old) (view new)
RefusesBytes keeps old new connection piece faults.Memory = ⊥
RefusesBytes keeps old new connection piece faults.Full = ⊥

-- a reply that is asked for of no connection
pub record RefusesOutput {D : Type 0} {g : Ghosts D} (old new : Server D g) (connection : ℕ)
    (fault : ServerFault) : Type 0 where
  pub told : fault ≡ faults.NoConnection
  pub none : connection_at (view old) connection ≡ None
  pub same : IsUntouched (view old) (view new)
