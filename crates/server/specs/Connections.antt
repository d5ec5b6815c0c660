-- What a connection represents, and a turn of it by the definition.
use Rattle.std.specs.Prelude.{◌≡◌, ◌+◌, ℕ, true, false, List, [], ◌∷◌, map, Option, Some, None}
use Rattle.slab.specs.Slab.{Slab, entries}
use Rattle.compound.specs.States.{SharedState, HasState, with_state}
use Rattle.compound.specs.Steps.{stepped_on}
use Rattle.model_tree.specs.Trees.Keyed.{Keyed, at, IsAbove}
use Rattle.model.specs.Wire.Rpc.{read_call}
use Rattle.model.specs.Server.World as world
use Rattle.model.specs.Server.World.{World, InProgress, Turned, Answered, Busy, Replied, one, called, with_connection}
use Rattle.server.specs.declared.connection.Connection.{Connection}
use Rattle.server.specs.Stages.{CanGoOn, IsLeftInRun, in_progress_at, stage_view, turn_of_end, left_by_turn, can_follow}
use Rattle.server.specs.declared.begun.Begun.{Begun}
use Rattle.server.specs.declared.begun.TurnEnd.{TurnEnd}
use Rattle.server.specs.declared.request.Opened.{Opened}
use Rattle.server.specs.declared.request.Opened.TheVariants as opened
use Rattle.server.specs.declared.turn.Turn.{Turn}
use Rattle.server.specs.declared.turn.Turn.TheVariants as turn

unfoldable pub connection_view : Connection → world.Connection
connection_view connection = stage_view connection.assembler connection.stage

abbrev pub numbered : ℕ × Connection → ℕ × world.Connection
numbered entry = (entry.0, connection_view entry.1)

-- the connections by rising number
unfoldable pub connections_of : Slab Connection → Keyed world.Connection
connections_of connections = map numbered (entries connections)

abbrev pub turn_view : Turn → world.Turn
turn_view turn.Idle = world.Idle
turn_view turn.Ran = world.Ran
turn_view turn.Answered = Answered

-- the numbers rise
abbrev pub IsRising : Keyed world.Connection → Type 0
IsRising [] = Unit {0}
IsRising (entry ∷ rest) = IsAbove entry.0 rest

-- in each such world, on each connection, what is done by the definition is this turn, and leaves
-- this world
abbrev pub Leads : (World → ℕ → Turned) → (old new : SharedState) → (after : world.Connection)
    → world.Turn → Type 0
Leads by old new after done =
    (world : World) (number : ℕ) → HasState world old
    → ((by world number).turn ≡ done)
    × ((by world number).world ≡ with_connection (with_state world new) number after)

-- in each such world that has this connection, its turn is this one, and leaves this world
abbrev pub ConnectionTurns : (now : ℕ) → (old new : SharedState) → (before after : world.Connection)
    → Turn
    → Type 0
ConnectionTurns now old new before after done =
    (world : World) (number : ℕ) → HasState world old → IsRising world.connections
    → at number world.connections ≡ Some before
    → ((one world number now).turn ≡ turn_view done)
    × ((one world number now).world ≡ with_connection (with_state world new) number after)

-- a request that has begun goes on in this run of the server
abbrev pub IsOfRun : (run : ℕ) → world.Connection → Type 0
IsOfRun run connection =
    (request : InProgress) → connection ≡ Busy request → request.context.run ≡ run

-- after a turn a request that had begun has one result more, unless that was the last one, or its
-- reply is there
abbrev pub HasGoneOn : (before after : Option world.Connection) → Type 0
HasGoneOn (Some (Busy request)) (Some (Busy left)) =
    (request.ended ≡ None) × (left.answered ≡ request.answered + 1) × (left.count ≡ request.count)
HasGoneOn (Some (Busy request)) (Some (Replied reply)) = Unit {0}
HasGoneOn (Some (Busy request)) _ = ⊥
HasGoneOn _ _ = Unit {0}

-- a turn of a COMPOUND whose call is in this record, by the definition
abbrev pub RecordSteps : (now : ℕ) → (old new : SharedState) → (request : List ℕ) → Begun → TurnEnd
    → Type 0
RecordSteps now old new request begun done =
    Leads (λ world number. stepped_on world number now (in_progress_at request begun)) old new
    (left_by_turn (Some request) done) (turn_of_end done)

-- what it leaves, on any device
pub record RecordGoesOn (run : ℕ) (request : List ℕ) (begun : Begun) (done : TurnEnd) : Type 0 where
  pub stays : IsLeftInRun run done
  pub further : HasGoneOn (Some (Busy (in_progress_at request begun)))
      (Some (left_by_turn (Some request) done))
  pub follows : can_follow (Some request) done ≡ true

-- a turn that gives this reply without an operation
abbrev pub replied : World → (number : ℕ) → (reply : List ℕ) → Turned
replied old number reply = record {
  turn = Answered;
  world = with_connection old number (Replied reply);
  executed = None;
  keeps = None;
  holds = false;
  replays = None;
}

-- what the turn of a whole record is, in each world of this run
abbrev pub OpensRecord : (run : ℕ) → (request : List ℕ) → Opened → Type 0
OpensRecord run request (opened.Answers reply) =
    (world : World) (number now : ℕ)
    → called world number now (read_call request) ≡ replied world number reply.items
OpensRecord run request (opened.Begins begun) =
    CanGoOn run request begun
    × ((world : World) (number now : ℕ) → world.run ≡ run
    → called world number now (read_call request)
    ≡ stepped_on world number now (in_progress_at request begun))
