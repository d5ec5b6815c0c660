-- No open outlives its client: RFC 8881, sections 2.4, 8.2, 18.16, 18.35, 18.36 and 18.50.
use Rattle.std.specs.Prelude.{ℕ, ◌≡◌, Bool, true, ◌&&◌, IsTrue, List, find, Some}
use Rattle.std.specs.List.{list_all, list_any}
use Rattle.model_tree.specs.Seats.Seats.{Seats}
use Rattle.model_tree.specs.Trees.Keyed.{at}
use Rattle.model.specs.Sessions.Opens.{Open}
use Rattle.model.specs.Server.Runs.{Serving, RunHistory, IsRun, mounted}
use Rattle.model.specs.Sessions.Session.{Client, Session, Table, is_client, is_session}
use Rattle.model_tree.specs.Trees.Tree.{Tree}
use Rattle.model.specs.Server.World.{ServerLimits, World, InProgress, Busy}

-- the client of this id has a record, and it is confirmed
abbrev pub is_confirmed_client : (number : ℕ) → Client → Bool
is_confirmed_client number client = is_client number client && client.is_confirmed

abbrev pub has_record : Table → (number : ℕ) → Bool
has_record table number = list_any (is_confirmed_client number) table.clients

-- the session in which a request runs is in the table, and is its client's
pub record RunsInSession (table : Table) (request : InProgress) : Type 0 where
  pub slot : List ℕ × ℕ
  pub session : Session
  pub on : request.slot ≡ Some slot
  pub stands : find (is_session slot.0) table.sessions ≡ Some session
  pub client : session.client ≡ request.context.client

pub record HaveClients (world : World) : Type 0 where
  -- each open is of a client that has a record
  pub opens : (serial : ℕ) (known : Open) → at serial world.opens.known ≡ Some known
      → has_record world.table known.client ≡ true
  -- and so is each session
  pub sessions : IsTrue
      (list_all (λ session. has_record world.table session.client) world.table.sessions)
  -- a request that has begun runs in a session of its client until it ends
  pub requests : (number : ℕ) (request : InProgress)
      → at number world.connections ≡ Some (Busy request) → RunsInSession world.table request

-- at each moment of every run of the server
abbrev pub EveryOpenHasClient : Type 0
EveryOpenHasClient = (limits : ServerLimits) (run : ℕ) (start : Tree) (seats : Seats)
    (serving : Serving) (history : RunHistory)
    → IsRun (mounted limits run start seats) serving history → HaveClients serving.world
