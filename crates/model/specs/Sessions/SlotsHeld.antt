-- A slot runs exactly if one connection is busy on it: RFC 8881, section 2.10.6.1.
use Rattle.std.specs.Prelude.{ℕ, ◌≡◌, Bool, true, false, ◌&&◌, List, Option, Some, None}
use Rattle.std.specs.List.{list_any}
use Rattle.model_tree.specs.Seats.Seats.{Seats}
use Rattle.model_tree.specs.Trees.Keyed.{at}
use Rattle.model.specs.Server.Runs.{Serving, RunHistory, IsRun, mounted, is_slot}
use Rattle.model.specs.Sessions.Session.{Session, Table, is_session, is_running_state, slot_at}
use Rattle.model_tree.specs.Trees.Tree.{Tree}
use Rattle.model.specs.Server.World.{ServerLimits, World, Connection, Busy}

-- the slot of this place runs a request, in a session of this id
abbrev pub runs_at : (id : List ℕ) → (place : ℕ) → Session → Bool
runs_at id place session = is_session id session && is_running_state (slot_at session place).state

abbrev pub is_slot_running : (id : List ℕ) → (place : ℕ) → Table → Bool
is_slot_running id place table = list_any (runs_at id place) table.sessions

-- a request that has begun runs on it
abbrev pub is_on : Option (List ℕ × ℕ) → (id : List ℕ) → (place : ℕ) → Bool
is_on None id place = false
is_on (Some slot) id place = is_slot slot id place

abbrev pub is_busy_on : (id : List ℕ) → (place : ℕ) → Option Connection → Bool
is_busy_on id place (Some (Busy request)) = is_on request.slot id place
is_busy_on id place _ = false

-- what runs is held by exactly one connection, and what a connection holds runs
pub record RunsWhereBusy (world : World) : Type 0 where
  pub held : (id : List ℕ) (place : ℕ) → is_slot_running id place world.table ≡ true
      → (number : ℕ) × (is_busy_on id place (at number world.connections) ≡ true)
  pub runs : (id : List ℕ) (place number : ℕ)
      → is_busy_on id place (at number world.connections) ≡ true
      → is_slot_running id place world.table ≡ true
  pub one : (id : List ℕ) (place number other : ℕ)
      → is_busy_on id place (at number world.connections) ≡ true
      → is_busy_on id place (at other world.connections) ≡ true → number ≡ other

-- at each moment of every run of the server
abbrev pub EveryRunningSlot : Type 0
EveryRunningSlot =
    (limits : ServerLimits) (run : ℕ) (start : Tree) (seats : Seats) (serving : Serving)
    (history : RunHistory)
    → IsRun (mounted limits run start seats) serving history → RunsWhereBusy serving.world
