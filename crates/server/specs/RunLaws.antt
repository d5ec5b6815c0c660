-- What follows of every run.
use Rattle.std.specs.Prelude.{ℕ, List, [], Option, Some, ◌≡◌, ◌≤◌, ◌+◌, ◌*◌, ◌↔◌}
use Rattle.disk.specs.Moments.{moment}
use Rattle.layout.specs.Stands.{Kept}
use Rattle.volume.specs.VolumeState.{call_cost}
use Rattle.model_tree.specs.Trees.Keyed.{at}
use Rattle.model.specs.Wire.Rpc.{NoCall, read_call}
use Rattle.model.specs.Server.World.{World, Connection, Waiting, Busy, Idle, one}
use Rattle.server.specs.Headline.{IsMounted}
use Rattle.server.specs.Seen.{Seen, ServerCall, IsServed, IsTurned, IsSeenReady, count_of}
use Rattle.model.specs.Sessions.Session.{Settings}

-- The turns of a hang-up are calls, like those of a run, and further calls can be made after them,
-- also if it was refused for memory
abbrev pub HangUpIsCalls : Type 0
HangUpIsCalls =
    (connection now : ℕ) (first old new : Seen) (calls : List ServerCall) → IsServed first calls old
    → IsTurned connection now old new
    → ((more : List ServerCall) × IsServed first more new) × (IsSeenReady old → IsSeenReady new)

-- At most the writes and syncs of two flushes take effect in a call of a run, also in one in which
-- the device fails.
abbrev pub IsBounded : Type 0
IsBounded =
    (first last : Seen) (calls : List ServerCall) (served : IsServed first calls last)
    → moment last.volume.history
    ≤ moment first.volume.history + call_cost first.volume * count_of served

-- one that claims that a crash leaves nothing
abbrev pub NeverEmpty : Type 0
NeverEmpty =
    (settings : Settings) (run : ℕ) (start : Kept) (first last : Seen) (calls : List ServerCall)
    → IsMounted settings run start first → IsServed first calls last
    → last.serving.left ≡ [] → ⊥

-- nothing to do: no whole call waits, and no request has begun
abbrev pub IsIdle : Option Connection → Type 0
IsIdle (Some (Waiting request)) = read_call request ≡ NoCall
IsIdle (Some (Busy request)) = ⊥
IsIdle connection = Unit {0}

-- a turn is Idle exactly then
abbrev pub OnlyIdle : Type 0
OnlyIdle =
    (world : World) (number now : ℕ) → ((one world number now).turn ≡ Idle)
    ↔ IsIdle (at number world.connections)
