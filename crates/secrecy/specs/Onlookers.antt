-- What somebody sees of a server over a run: the replies on connections and in sessions that nobody
-- else uses. They do not depend on bytes that he may not read.
use Rattle.std.specs.Prelude.{◌≡◌, ℕ, Bool, true, false, List, [], ◌∷◌, map, length, replicate, Option, Some, None}
use Rattle.model_tree.specs.Seats.Seats.{HeldReply, Seat}
use Rattle.model_tree.specs.Trees.Keyed.{Keyed, at}
use Rattle.model.specs.Operations.Operation.{Argument, SequenceArguments}
use Rattle.model.specs.Server.Runs.{Event, Turns, effect_of}
use Rattle.model.specs.Server.RuledOut.{request_in}
use Rattle.model.specs.Server.World.{World, InProgress, Connection, Quiet, Waiting, Busy, Replied, Closed, Reads, next_operation, reply_at}
use Rattle.model.specs.Wire.Rpc.{read_call}
use Rattle.model.specs.Sessions.Session.{Session, Slot, SlotState, Free, Running, Kept, Table, session_id}
use Rattle.secrecy.specs.Blind.{hidden, MayReadNone}

-- files whose bytes he may not read, his connections, and his sessions by their ids
pub record Onlooker : Type 0 where
  pub secret : (number : ℕ) → Bool
  pub has_connection : (number : ℕ) → Bool
  pub has_session : (id : List ℕ) → Bool

-- What he sees: for what is not his, zeros in place of the bytes

abbrev pub seen_bytes : (his : Bool) → List ℕ → List ℕ
seen_bytes true bytes = bytes
seen_bytes false bytes = replicate (length bytes) 0

abbrev pub seen_state : (his : Bool) → SlotState → SlotState
seen_state his Free = Free
seen_state his Running = Running
seen_state his (Kept reply) = Kept (seen_bytes his reply)

abbrev pub seen_slot : (his : Bool) → Slot → Slot
seen_slot his slot = record slot { state = seen_state his slot.state }

abbrev pub seen_session : Onlooker → Session → Session
seen_session who session = record session {
  slots = map (seen_slot (who.has_session (session_id session.client session.serial))) session.slots;
}

abbrev pub seen_held : (his : Bool) → Option HeldReply → Option HeldReply
seen_held his None = None
seen_held his (Some held) = Some (record held { result = seen_bytes his held.result })

abbrev pub seen_seat : Onlooker → Option Seat → Option Seat
seen_seat who None = None
seen_seat who (Some seat) =
    Some (record seat { slots = map (seen_held (who.has_session seat.session)) seat.slots })

abbrev pub seen_table : Onlooker → Table → Table
seen_table who table = record table {
  sessions = map (seen_session who) table.sessions;
  seats = map (seen_seat who) table.seats;
}

abbrev pub seen_connection : (his : Bool) → Connection → Connection
seen_connection his (Quiet bytes) = Quiet bytes
seen_connection his (Waiting request) = Waiting request
seen_connection his (Busy request) =
    Busy (record request { results = seen_bytes his request.results })
seen_connection his (Replied reply) = Replied (seen_bytes his reply)
seen_connection his Closed = Closed

abbrev pub seen_connections : Onlooker → Keyed Connection → Keyed Connection
seen_connections who [] = []
seen_connections who (entry ∷ rest) =
    (entry.0, seen_connection (who.has_connection entry.0) entry.1) ∷ seen_connections who rest

abbrev pub seen_world : Onlooker → World → World
seen_world who world = record world {
  tree = hidden who.secret world.tree;
  table = seen_table who world.table;
  connections = seen_connections who world.connections;
}

-- Who uses what

-- the request that a turn goes on with, if there is one
abbrev pub going_on : World → Option Connection → Option InProgress
going_on world (Some (Busy request)) = Some request
going_on world (Some (Waiting bytes)) = request_in world (read_call bytes)
going_on world _ = None

-- Of a request on his connection the caller may read none of the secret bytes. It uses his sessions
-- only, and a request on another's connection uses none of them.
pub record IsApart (who : Onlooker) (world : World) (number : ℕ) (request : InProgress) : Type 0
  where
    pub blind : who.has_connection number ≡ true
        → MayReadNone who.secret world.tree request.context.cred
    pub runs_in : (slot : List ℕ × ℕ) → request.slot ≡ Some slot
        → who.has_session slot.0 ≡ who.has_connection number
    pub asks_for : (arguments : SequenceArguments) (rest : List ℕ)
        → next_operation request ≡ Reads (Argument.Sequence arguments) rest
        → who.has_session arguments.session ≡ who.has_connection number

abbrev pub TurnIsApart : Onlooker → World → Event → Type 0
TurnIsApart who world (Turns number now) =
    (request : InProgress) → going_on world (at number world.connections) ≡ Some request
    → IsApart who world number request
TurnIsApart who world _ = Unit {0}

-- in each turn of these events
abbrev pub AreApart : Onlooker → World → List Event → Type 0
AreApart who world [] = Unit {0}
AreApart who world (event ∷ events) =
    TurnIsApart who world event × AreApart who (effect_of world event) events

abbrev pub after : World → List Event → World
after world [] = world
after world (event ∷ events) = after (effect_of world event) events

-- Of two worlds that differ only in what he does not see, the same events leave two such worlds.
abbrev pub EveryRunIsBlind : Type 0
EveryRunIsBlind =
    (who : Onlooker) (one other : World) (events : List Event)
    → seen_world who one ≡ seen_world who other → AreApart who one events
    → seen_world who (after one events) ≡ seen_world who (after other events)

-- So the same replies are there on his connections, at each moment.
abbrev pub EveryReplyIsBlind : Type 0
EveryReplyIsBlind =
    (who : Onlooker) (one other : World) (events : List Event) (number : ℕ)
    → seen_world who one ≡ seen_world who other → AreApart who one events
    → who.has_connection number ≡ true
    → reply_at (after one events) number ≡ reply_at (after other events) number
